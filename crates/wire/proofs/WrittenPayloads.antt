-- Payloads and chains of them: what is appended is spelled, and what is refused has no spelling.
use Rattle.std.proofs.Common.{◌≡◌, ◌≢◌, ℕ, ◌+◌, Bool, true, false, cond, eqb, ltb, List, [], ◌∷◌, ◌++◌, length, Option, Some, None, Result, Ok, Err, refl, sym, ap, subst, ◌∙◌, append_assoc, inl, inr, ◌⊎◌, arith}
use Rattle.std.specs.Prelude.{ok_or, not, ◌&&◌, ◌||◌}
use Rattle.std.proofs.lemmas.Bool.{eqb-true, eqb-false, ltb-true, lt-ltb}
use Rattle.std.proofs.lemmas.List.{length-append, append-nil, nil_from_length}
use Rattle.base.specs.Octets.{IsOctet}
use Rattle.wire.specs.Parts.{IsZero, SpellsMarked}
use Rattle.wire.specs.Proposals.{SpellsTransform, SpellsProposal, SpellsProposals}
use Rattle.wire.specs.Selectors.{SpellsSelectors}
use Rattle.wire.specs.Fields.{SpellsKe, SpellsTyped, SpellsNonce}
use Rattle.wire.specs.Payloads.{type_of, SpellsBody, IsUnknownType, HasCriticalBit, HasHeader, SpellsPayload, SpellsPayloads, following, IsClear}
use Rattle.wire.specs.Refusals.{LeadsTo, fault_in, HasNoSpelling}
use Rattle.wire.specs.Reading.{◌>>>◌}
use Rattle.wire.specs.Writing.{part_onto, body_onto, is_unknown, header_octets, payload_onto, first_type, link_onto, payloads_onto}
use Rattle.wire.specs.declared.proposal.Transform.{Transform}
use Rattle.wire.specs.declared.proposal.Proposal.{Proposal}
use Rattle.base.specs.declared.selector.Selector.{Selector}
use Rattle.wire.specs.declared.payload.Payload.{Payload}
use Rattle.wire.specs.declared.payload.Payload.TheVariants as payloads
use Rattle.wire.specs.declared.fault.WireFault.{WireFault}
use Rattle.wire.proofs.Options.{some_is, with_some, with_test, pick, both_true}
use Rattle.wire.proofs.Links.{with_ok, ok_is, err_is}
use Rattle.wire.proofs.PayloadReading.{clear_follows, sealed_ends, type_some}
use Rattle.wire.proofs.Written.{Appends, AppendsAll, Refuses, SameLength, bind_none, none_some, test_none, part_appends, part_refuses, part_length}
use Rattle.wire.proofs.WrittenBodies.{proposals_appends, proposals_refuses, proposals_same}
use Rattle.wire.proofs.WrittenFields.{selectors_appends, selectors_refuses, selectors_same, ke_appends, ke_refuses, ke_same, typed_appends, typed_refuses, typed_same, nonce_appends, nonce_refuses, notify_appends, notify_refuses, notify_same, delete_appends, delete_refuses, delete_same}

-- ---- bodies

nonce_same : (xs : List ℕ) → SameLength (SpellsNonce xs) (SpellsNonce xs)
nonce_same xs x y s t = ap length s.spelled ∙ sym (ap length t.spelled)

rest_appends : (xs old new : List ℕ) → Some (old ++ xs) ≡ Some new → Appends (λ x. x ≡ xs) old new
rest_appends xs old new e = record { added = xs; appended = sym (some_is (old ++ xs) new e); spelled = refl }

pub body_appends : (p : Payload) → AppendsAll (body_onto p) (SpellsBody IsZero p)
unfolding body_onto
body_appends (payloads.Sa x) old new e = proposals_appends x old new e
body_appends (payloads.Ke x y) old new e = ke_appends x y old new e
body_appends (payloads.IdI x y) old new e = typed_appends 256 x y old new e
body_appends (payloads.IdR x y) old new e = typed_appends 256 x y old new e
body_appends (payloads.Auth x y) old new e = typed_appends 1024 x y old new e
body_appends (payloads.Nonce x) old new e = nonce_appends x old new e
body_appends (payloads.Notify x y z w) old new e = notify_appends x y z w old new e
body_appends (payloads.Delete x y) old new e = delete_appends x y old new e
body_appends (payloads.TsI x) old new e = selectors_appends x old new e
body_appends (payloads.TsR x) old new e = selectors_appends x old new e
body_appends (payloads.Sealed x y) old new e = rest_appends y old new e
body_appends (payloads.Skipped x y) old new e = rest_appends y old new e
body_appends (payloads.Unknown x y z) old new e = rest_appends z old new e

pub body_refuses : (p : Payload) → Refuses (body_onto p) (SpellsBody IsOctet p)
unfolding body_onto
body_refuses (payloads.Sa x) old e b s = proposals_refuses x old e b s
body_refuses (payloads.Ke x y) old e b s = ke_refuses x y old e b s
body_refuses (payloads.IdI x y) old e b s = typed_refuses 256 x y old e b s
body_refuses (payloads.IdR x y) old e b s = typed_refuses 256 x y old e b s
body_refuses (payloads.Auth x y) old e b s = typed_refuses 1024 x y old e b s
body_refuses (payloads.Nonce x) old e b s = nonce_refuses x old e b s
body_refuses (payloads.Notify x y z w) old e b s = notify_refuses x y z w old e b s
body_refuses (payloads.Delete x y) old e b s = delete_refuses x y old e b s
body_refuses (payloads.TsI x) old e b s = selectors_refuses x old e b s
body_refuses (payloads.TsR x) old e b s = selectors_refuses x old e b s
body_refuses (payloads.Sealed x y) old e b s = none_some e
body_refuses (payloads.Skipped x y) old e b s = none_some e
body_refuses (payloads.Unknown x y z) old e b s = none_some e

body_same : (p : Payload) → SameLength (SpellsBody IsZero p) (SpellsBody IsOctet p)
body_same (payloads.Sa x) b d s t = proposals_same x b d s t
body_same (payloads.Ke x y) b d s t = ke_same x y b d s t
body_same (payloads.IdI x y) b d s t = typed_same 256 x y b d s t
body_same (payloads.IdR x y) b d s t = typed_same 256 x y b d s t
body_same (payloads.Auth x y) b d s t = typed_same 1024 x y b d s t
body_same (payloads.Nonce x) b d s t = nonce_same x b d s t
body_same (payloads.Notify x y z w) b d s t = notify_same x y z w b d s t
body_same (payloads.Delete x y) b d s t = delete_same x y b d s t
body_same (payloads.TsI x) b d s t = selectors_same x b d s t
body_same (payloads.TsR x) b d s t = selectors_same x b d s t
body_same (payloads.Sealed x y) b d s t = ap length (s ∙ sym t)
body_same (payloads.Skipped x y) b d s t = ap length (s ∙ sym t)
body_same (payloads.Unknown x y z) b d s t = ap length (s ∙ sym t)

-- ---- zeros are octets

zero_octet : (o : ℕ) → IsZero o → IsOctet o
zero_octet o h = omega (arith, h)

marked_weaken : {A : Type 0} (more : ℕ) (Plain Any : A → List ℕ → Type 0) → ((a : A) (x : List ℕ) → Plain a x → Any a x) → (found : List A) (x : List ℕ) → SpellsMarked IsZero more Plain found x → SpellsMarked IsOctet more Any found x
marked_weaken more Plain Any weaken [] x s = s
marked_weaken more Plain Any weaken (a ∷ []) x s = record { reserved = s.reserved; inside = s.inside; free = zero_octet s.reserved s.free; part = s.part; content = weaken a s.inside s.content }
marked_weaken more Plain Any weaken (a ∷ b ∷ found) x s =
    let f = s.first in
    record { front = s.front; rest = s.rest; joined = s.joined; first = record { reserved = f.reserved; inside = f.inside; free = zero_octet f.reserved f.free; part = f.part; content = weaken a f.inside f.content }; others = marked_weaken more Plain Any weaken (b ∷ found) s.rest s.others }

transform_weaken : (t : Transform) (x : List ℕ) → SpellsTransform IsZero t x → SpellsTransform IsOctet t x
transform_weaken t x s = record { reserved = s.reserved; attributes = s.attributes; free = zero_octet s.reserved s.free; spelled = s.spelled; id = s.id; each = s.each }

proposal_weaken : (p : Proposal) (x : List ℕ) → SpellsProposal IsZero p x → SpellsProposal IsOctet p x
proposal_weaken p x s = record { transforms = s.transforms; spelled = s.spelled; spi = s.spi; count = s.count; each = marked_weaken 3 (SpellsTransform IsZero) (SpellsTransform IsOctet) transform_weaken p.transforms s.transforms s.each }

proposals_weaken : (ps : List Proposal) (x : List ℕ) → SpellsProposals IsZero ps x → SpellsProposals IsOctet ps x
proposals_weaken ps x s = record { each = marked_weaken 2 (SpellsProposal IsZero) (SpellsProposal IsOctet) proposal_weaken ps x s.each; numbered = s.numbered }

selectors_weaken : (ss : List Selector) (x : List ℕ) → SpellsSelectors IsZero ss x → SpellsSelectors IsOctet ss x
selectors_weaken ss x s = record { reserved_1 = s.reserved_1; reserved_2 = s.reserved_2; reserved_3 = s.reserved_3; free = (zero_octet s.reserved_1 s.free.0, zero_octet s.reserved_2 s.free.1, zero_octet s.reserved_3 s.free.2); selectors = s.selectors; spelled = s.spelled; some = s.some; few = s.few; each = s.each }

ke_weaken : (group : ℕ) (xs x : List ℕ) → SpellsKe IsZero group xs x → SpellsKe IsOctet group xs x
ke_weaken group xs x s = record { reserved_1 = s.reserved_1; reserved_2 = s.reserved_2; free = (zero_octet s.reserved_1 s.free.0, zero_octet s.reserved_2 s.free.1); spelled = s.spelled; group_fits = s.group_fits; some = s.some; few = s.few }

typed_weaken : (limit kind : ℕ) (xs x : List ℕ) → SpellsTyped IsZero limit kind xs x → SpellsTyped IsOctet limit kind xs x
typed_weaken limit kind xs x s = record { reserved_1 = s.reserved_1; reserved_2 = s.reserved_2; reserved_3 = s.reserved_3; free = (zero_octet s.reserved_1 s.free.0, zero_octet s.reserved_2 s.free.1, zero_octet s.reserved_3 s.free.2); spelled = s.spelled; some = s.some; few = s.few }

body_weaken : (p : Payload) (b : List ℕ) → SpellsBody IsZero p b → SpellsBody IsOctet p b
body_weaken (payloads.Sa x) b s = proposals_weaken x b s
body_weaken (payloads.Ke x y) b s = ke_weaken x y b s
body_weaken (payloads.IdI x y) b s = typed_weaken 256 x y b s
body_weaken (payloads.IdR x y) b s = typed_weaken 256 x y b s
body_weaken (payloads.Auth x y) b s = typed_weaken 1024 x y b s
body_weaken (payloads.Nonce x) b s = s
body_weaken (payloads.Notify x y z w) b s = s
body_weaken (payloads.Delete x y) b s = s
body_weaken (payloads.TsI x) b s = selectors_weaken x b s
body_weaken (payloads.TsR x) b s = selectors_weaken x b s
body_weaken (payloads.Sealed x y) b s = s
body_weaken (payloads.Skipped x y) b s = s
body_weaken (payloads.Unknown x y z) b s = s

critical_weaken : (critical : Bool) (second : ℕ) → HasCriticalBit IsZero critical second → HasCriticalBit IsOctet critical second
critical_weaken critical second s = record { reserved = s.reserved; low = s.low; free = zero_octet s.reserved s.free; value = s.value }

header_weaken : (p : Payload) (next second : ℕ) → HasHeader IsZero p next second → HasHeader IsOctet p next second
header_weaken (payloads.Sa x) next second h = zero_octet second h
header_weaken (payloads.Ke x y) next second h = zero_octet second h
header_weaken (payloads.IdI x y) next second h = zero_octet second h
header_weaken (payloads.IdR x y) next second h = zero_octet second h
header_weaken (payloads.Auth x y) next second h = zero_octet second h
header_weaken (payloads.Nonce x) next second h = zero_octet second h
header_weaken (payloads.Notify x y z w) next second h = zero_octet second h
header_weaken (payloads.Delete x y) next second h = zero_octet second h
header_weaken (payloads.TsI x) next second h = zero_octet second h
header_weaken (payloads.TsR x) next second h = zero_octet second h
header_weaken (payloads.Sealed x y) next second h = (h.0, zero_octet second h.1)
header_weaken (payloads.Skipped x y) next second h = zero_octet second h
header_weaken (payloads.Unknown x y z) next second h = (h.0, critical_weaken y second h.1)

pub payload_weaken : (p : Payload) (next : ℕ) (x : List ℕ) → SpellsPayload IsZero p next x → SpellsPayload IsOctet p next x
payload_weaken p next x s = record { second = s.second; body = s.body; part = s.part; header = header_weaken p next s.second s.header; inside = body_weaken p s.body s.inside }

pub payloads_weaken : (t : ℕ) (ps : List Payload) (x : List ℕ) → SpellsPayloads IsZero t ps x → SpellsPayloads IsOctet t ps x
payloads_weaken t [] x s = s
payloads_weaken t (p ∷ ps) x s =
    let j = s.2 in
    (s.0, s.1, record { front = j.front; rest = j.rest; joined = j.joined; first = payload_weaken p s.1 j.front j.first; others = payloads_weaken (following p s.1) ps j.rest j.others })

-- ---- one payload

unknown_takes : (kind : ℕ) → is_unknown kind ≡ true → IsUnknownType kind
unknown_takes kind e = elim (either (ltb 0 kind && ltb kind 33) (ltb 48 kind && ltb kind 256) e) [
  | inl low ↦ let b = both_true (ltb 0 kind) (ltb kind 33) low in inl (ltb-true _ _ b.0, ltb-true _ _ b.1)
  | inr high ↦ let b = both_true (ltb 48 kind) (ltb kind 256) high in inr (ltb-true _ _ b.0, ltb-true _ _ b.1)
] where
  either : (a b : Bool) → (a || b) ≡ true → (a ≡ true) ⊎ (b ≡ true)
  either true b q = inl refl
  either false b q = inr q

unknown_again : (kind : ℕ) → IsUnknownType kind → is_unknown kind ≡ true
unknown_again kind (inl low) = let a : ltb 0 kind ≡ true = lt-ltb _ _ low.0 in let b : ltb kind 33 ≡ true = lt-ltb _ _ low.1 in rw (a, b) refl
unknown_again kind (inr high) =
    let a : ltb 48 kind ≡ true = lt-ltb _ _ high.0 in
    let b : ltb kind 256 ≡ true = lt-ltb _ _ high.1 in
    second (ltb 0 kind && ltb kind 33) (ltb 48 kind) (ltb kind 256) a b where
      second : (t u v : Bool) → u ≡ true → v ≡ true → (t || (u && v)) ≡ true
      second true u v p q = refl
      second false u v p q = rw (p, q) refl

abbrev HeaderMade : Payload → ℕ → ℕ × ℕ → Type 0
HeaderMade p next o = HasHeader IsZero p o.0 o.1 × (following p o.0 ≡ following p next)

header_takes : (p : Payload) (next : ℕ) (o : ℕ × ℕ) → header_octets p next ≡ Some o → HeaderMade p next o
header_takes (payloads.Sa x) next o e = subst (HeaderMade (payloads.Sa x) next) (some_is (next, 0) o e) (refl, refl)
header_takes (payloads.Ke x y) next o e = subst (HeaderMade (payloads.Ke x y) next) (some_is (next, 0) o e) (refl, refl)
header_takes (payloads.IdI x y) next o e = subst (HeaderMade (payloads.IdI x y) next) (some_is (next, 0) o e) (refl, refl)
header_takes (payloads.IdR x y) next o e = subst (HeaderMade (payloads.IdR x y) next) (some_is (next, 0) o e) (refl, refl)
header_takes (payloads.Auth x y) next o e = subst (HeaderMade (payloads.Auth x y) next) (some_is (next, 0) o e) (refl, refl)
header_takes (payloads.Nonce x) next o e = subst (HeaderMade (payloads.Nonce x) next) (some_is (next, 0) o e) (refl, refl)
header_takes (payloads.Notify x y z w) next o e = subst (HeaderMade (payloads.Notify x y z w) next) (some_is (next, 0) o e) (refl, refl)
header_takes (payloads.Delete x y) next o e = subst (HeaderMade (payloads.Delete x y) next) (some_is (next, 0) o e) (refl, refl)
header_takes (payloads.TsI x) next o e = subst (HeaderMade (payloads.TsI x) next) (some_is (next, 0) o e) (refl, refl)
header_takes (payloads.TsR x) next o e = subst (HeaderMade (payloads.TsR x) next) (some_is (next, 0) o e) (refl, refl)
header_takes (payloads.Sealed x y) next o e = subst (HeaderMade (payloads.Sealed x y) next) (some_is (x, 0) o e) ((refl, refl), refl)
header_takes (payloads.Skipped x y) next o e = subst (HeaderMade (payloads.Skipped x y) next) (some_is (next, 0) o e) (refl, refl)
header_takes (payloads.Unknown x y z) next o e =
    with_test (is_unknown x) (Some (next, cond y 128 0)) o e (λ unknown r.
    subst (HeaderMade (payloads.Unknown x y z) next) (some_is (next, cond y 128 0) o r) ((unknown_takes x unknown, record { reserved = 0; low = omega arith; free = refl; value = with_zero (cond y 128 0) }), refl)) where
      with_zero : (n : ℕ) → n ≡ n + 0
      with_zero n = omega arith

header_refused : (p : Payload) (next : ℕ) → header_octets p next ≡ None → (n second : ℕ) → HasHeader IsOctet p n second → ⊥
header_refused (payloads.Sa x) next e n second h = none_some e
header_refused (payloads.Ke x y) next e n second h = none_some e
header_refused (payloads.IdI x y) next e n second h = none_some e
header_refused (payloads.IdR x y) next e n second h = none_some e
header_refused (payloads.Auth x y) next e n second h = none_some e
header_refused (payloads.Nonce x) next e n second h = none_some e
header_refused (payloads.Notify x y z w) next e n second h = none_some e
header_refused (payloads.Delete x y) next e n second h = none_some e
header_refused (payloads.TsI x) next e n second h = none_some e
header_refused (payloads.TsR x) next e n second h = none_some e
header_refused (payloads.Sealed x y) next e n second h = none_some e
header_refused (payloads.Skipped x y) next e n second h = none_some e
header_refused (payloads.Unknown x y z) next e n second h = elim (test_none (is_unknown x) (Some (next, cond y 128 0)) e) [
  | inl not_unknown ↦ clash (sym not_unknown ∙ unknown_again x h.0)
  | inr some ↦ none_some some.1
] where
  clash : false ≡ true → ⊥
  clash q = cc

-- a payload in front of one of the type next
abbrev pub Named : Payload → ℕ → List ℕ → Type 0
Named p next x = (named : ℕ) × SpellsPayload IsZero p named x × (following p named ≡ following p next)

payload_appends : (p : Payload) (next : ℕ) → AppendsAll (payload_onto p next) (Named p next)
unfolding payload_onto
payload_appends p next old new e =
    with_some (header_octets p next) (λ o. part_onto o.0 o.1 (body_onto p) old) new e (λ o e1 r1.
    let h = header_takes p next o e1 in
    let a = part_appends o.0 o.1 (body_onto p) (SpellsBody IsZero p) (body_appends p) old new r1 in
    record { added = a.added; appended = a.appended; spelled = (o.0, record { second = o.1; body = a.spelled.inside; part = a.spelled.part; header = h.0; inside = a.spelled.content }, h.1) })

payload_refuses : (p : Payload) (next : ℕ) (old : List ℕ) → payload_onto p next old ≡ None → (n : ℕ) (x : List ℕ) → SpellsPayload IsOctet p n x → ⊥
unfolding payload_onto
payload_refuses p next old e n x s = elim (bind_none (header_octets p next) (λ o. part_onto o.0 o.1 (body_onto p) old) e) [
  | inl none ↦ header_refused p next none n s.second s.header
  | inr o ↦ part_refuses o.0.0 o.0.1 (body_onto p) (SpellsBody IsZero p) (SpellsBody IsOctet p) (body_appends p) (body_refuses p) (body_same p) old o.2 n s.second s.body x s.part s.inside
]

payload_same : (p : Payload) (m n : ℕ) (x y : List ℕ) → SpellsPayload IsZero p m x → SpellsPayload IsOctet p n y → length x ≡ length y
payload_same p m n x y s t = omega (arith, part_length m s.second s.body x s.part, part_length n t.second t.body y t.part, body_same p s.body t.body s.inside t.inside)

pub payloads_same : (t u : ℕ) (ps : List Payload) (x y : List ℕ) → SpellsPayloads IsZero t ps x → SpellsPayloads IsOctet u ps y → length x ≡ length y
payloads_same t u [] x y s r = ap length s.1 ∙ sym (ap length r.1)
payloads_same t u (p ∷ ps) x y s r =
    let j = s.2 in
    let k = r.2 in
    omega (arith, ap length j.joined, ap length k.joined, length-append j.front j.rest, length-append k.front k.rest, payload_same p s.1 r.1 j.front k.front j.first k.first, payloads_same (following p s.1) (following p r.1) ps j.rest k.rest j.others k.others)

-- ---- chains

value_ok : {A : Type 0} (o : Option A) (d : WireFault) (y : A) → ok_or o d ≡ Ok y → o ≡ Some y
value_ok (Some x) d y e = ap (λ z. Some z) (ok_is x y e)
value_ok None d y e = absurd cc

value_err : {A : Type 0} (o : Option A) (d f : WireFault) → ok_or o d ≡ Err f → (o ≡ None) × (d ≡ f)
value_err (Some x) d f e = absurd cc
value_err {A = A} None d f e = (refl, err_is {A = A} d f e)

with_else : {A : Type 0} {P : Type 0} (t : Bool) (d : WireFault) (r : Result A WireFault) (y : A) → cond t (Err d) r ≡ Ok y → (t ≡ false → r ≡ Ok y → P) → P
with_else true d r y e go = absurd cc
with_else false d r y e go = go refl e

-- what a link leaves
record Linked (p : Payload) (others : List Payload) (old mid : List ℕ) : Type 0 where
  named : Appends (Named p (first_type others)) old mid
  last : type_of p ≡ 46 → others ≡ []

not_false_is : (t : Bool) → not t ≡ false → t ≡ true
not_false_is true e = refl
not_false_is false e = absurd cc

and_false : (a b : Bool) → (a && b) ≡ false → a ≡ true → b ≡ false
and_false true b e h = e
and_false false b e h = absurd cc

link_appends : (p : Payload) (others : List Payload) (old mid : List ℕ) → link_onto p others old ≡ Ok mid → Linked p others old mid
link_appends p others old mid e =
    with_else ((eqb (type_of p) 46) && not (eqb (length others) 0)) (fault_in p (length old)) (ok_or (payload_onto p (first_type others) old) (fault_in p (length old))) mid e (λ may r.
    record {
      named = payload_appends p (first_type others) old mid (value_ok (payload_onto p (first_type others) old) (fault_in p (length old)) mid r);
      last = λ q. nil_from_length others (eqb-true _ _ (not_false_is (eqb (length others) 0) (and_false (eqb (type_of p) 46) (not (eqb (length others) 0)) may (is_46 (type_of p) q))));
    }) where
      is_46 : (n : ℕ) → n ≡ 46 → eqb n 46 ≡ true
      is_46 n q = rw q refl

link_refuses : (p : Payload) (others : List Payload) (old : List ℕ) (f : WireFault) → link_onto p others old ≡ Err f → HasNoSpelling p others × (fault_in p (length old) ≡ f)
link_refuses p others old f e = elim (pick ((eqb (type_of p) 46) && not (eqb (length others) 0)) (Err (fault_in p (length old))) (ok_or (payload_onto p (first_type others) old) (fault_in p (length old))) (Err f) e) [
  | inl sealed ↦
      let b = both_true (eqb (type_of p) 46) (not (eqb (length others) 0)) sealed.0 in
      (inr (eqb-true _ _ b.0, some_others others b.1), err_is {A = List ℕ} (fault_in p (length old)) f sealed.1)
  | inr clear ↦
      let v = value_err (payload_onto p (first_type others) old) (fault_in p (length old)) f clear.1 in
      (inl (payload_refuses p (first_type others) old v.0), v.1)
] where
  some_others : (xs : List Payload) → not (eqb (length xs) 0) ≡ true → xs ≢ []
  some_others [] q r = absurd cc
  some_others (x ∷ xs) q r = cc

-- what follows a payload that was appended
followed : (p : Payload) (others : List Payload) (named : ℕ) (second : ℕ) → HasHeader IsZero p named second → following p named ≡ following p (first_type others) → (type_of p ≡ 46 → others ≡ []) → following p named ≡ first_type others
followed p others named second h same last = go (eqb (type_of p) 46) refl where
  go : (t : Bool) → eqb (type_of p) 46 ≡ t → following p named ≡ first_type others
  go true q =
      let sealed : type_of p ≡ 46 = eqb-true _ _ q in
      sealed_ends IsZero p named second h sealed ∙ sym (ap first_type (last sealed))
  go false q = same ∙ clear_follows p (first_type others) (λ r. eqb-false _ _ q r)

pub payloads_append : (ps : List Payload) (old new : List ℕ) → payloads_onto ps old ≡ Ok new → Appends (SpellsPayloads IsZero (first_type ps) ps) old new
unfolding payloads_onto
payloads_append [] old new e = record { added = []; appended = sym (ok_is old new e) ∙ sym (append-nil old); spelled = (refl, refl) }
payloads_append (p ∷ ps) old new e =
    with_ok (link_onto p ps old) (λ mid. payloads_onto ps mid) new e (λ mid e1 r1.
    let l = link_appends p ps old mid e1 in
    let a = l.named in
    let rest = payloads_append ps mid new r1 in
    let s = a.spelled in
    record {
      added = a.added ++ rest.added;
      appended = rest.appended ∙ ap (λ (y : List ℕ). y ++ rest.added) a.appended ∙ append_assoc old a.added rest.added;
      spelled = (
        refl,
        s.0,
        record {
          front = a.added;
          rest = rest.added;
          joined = refl;
          first = s.1;
          others = subst (λ (n : ℕ). SpellsPayloads IsZero n ps rest.added) (sym (followed p ps s.0 s.1.second s.1.header s.2 l.last)) rest.spelled;
        },
      );
    })

nothing_behind : (Free : ℕ → Type 0) (ps : List Payload) (xs : List ℕ) → SpellsPayloads Free 0 ps xs → ps ≡ []
nothing_behind Free [] xs s = refl
nothing_behind Free (p ∷ ps) xs s = absurd (omega (arith, type_some Free p s.1 s.2.first.second s.2.first.header, s.0))

pub payloads_refuse : (ps : List Payload) (old : List ℕ) (f : WireFault) → payloads_onto ps old ≡ Err f → (t : ℕ) (x : List ℕ) → SpellsPayloads IsOctet t ps x → ⊥
unfolding payloads_onto
payloads_refuse [] old f e t x s = bad e where
  bad : Ok old ≡ Err f → ⊥
  bad q = cc
payloads_refuse (p ∷ ps) old f e t x s =
    go (λ mid r. payloads_refuse ps mid f r (following p s.1) s.2.rest s.2.others) (link_onto p ps old) refl e where
      go : ((mid : List ℕ) → payloads_onto ps mid ≡ Err f → ⊥) → (r : Result (List ℕ) WireFault) → link_onto p ps old ≡ r → (r >>> λ mid. payloads_onto ps mid) ≡ Err f → ⊥
      go again (Ok mid) e1 r1 = again mid r1
      go again (Err g) e1 r1 = elim (link_refuses p ps old g e1).0 [
        | inl none ↦ none s.1 s.2.front s.2.first
        | inr sealed ↦ sealed.1 (nothing_behind IsOctet ps s.2.rest (subst (λ (n : ℕ). SpellsPayloads IsOctet n ps s.2.rest) (sealed_ends IsOctet p s.1 s.2.first.second s.2.first.header sealed.0) s.2.others))
      ]

-- ---- the first payload that has no spelling

-- the fault, with the type that leads to it
pub record Faulty (old : List ℕ) (ps : List Payload) (f : WireFault) : Type 0 where
  pub before : List Payload
  pub payload : Payload
  pub after : List Payload
  pub split : ps ≡ before ++ payload ∷ after
  pub octets : List ℕ
  pub leads : LeadsTo (first_type ps) before (type_of payload) octets
  pub unspelled : HasNoSpelling payload after
  pub fault : f ≡ fault_in payload (length old + length octets)

fault_at : (p : Payload) (m n : ℕ) → m ≡ n → fault_in p m ≡ fault_in p n
fault_at p m n e = ap (fault_in p) e

nothing_in : (xs : List Payload) (y : Payload) (ys : List Payload) → xs ++ y ∷ ys ≡ [] → ⊥
nothing_in [] y ys q = cc
nothing_in (x ∷ xs) y ys q = cc

pub payloads_fault : (ps : List Payload) (old : List ℕ) (f : WireFault) → payloads_onto ps old ≡ Err f → Faulty old ps f
unfolding payloads_onto
payloads_fault [] old f e = absurd (bad e) where
  bad : Ok old ≡ Err f → ⊥
  bad q = cc
payloads_fault (p ∷ ps) old f e = go (λ mid r. payloads_fault ps mid f r) (link_onto p ps old) refl e where
  go : ((mid : List ℕ) → payloads_onto ps mid ≡ Err f → Faulty mid ps f) → (r : Result (List ℕ) WireFault) → link_onto p ps old ≡ r → (r >>> λ mid. payloads_onto ps mid) ≡ Err f → Faulty old (p ∷ ps) f
  go again (Err g) e1 r1 =
      let l = link_refuses p ps old g e1 in
      record { before = []; payload = p; after = ps; split = refl; octets = []; leads = (refl, refl); unspelled = l.0; fault = sym (err_is {A = List ℕ} g f r1) ∙ sym l.1 ∙ fault_at p (length old) (length old + 0) (omega arith) }
  go again (Ok mid) e1 r1 =
      let l = link_appends p ps old mid e1 in
      let rest = again mid r1 in
      let s = l.named.spelled in
      let clear : IsClear p = λ q. nothing_in rest.before rest.payload rest.after (sym rest.split ∙ l.last q) in
      let next_is : s.0 ≡ first_type ps = sym (clear_follows p s.0 clear) ∙ s.2 ∙ clear_follows p (first_type ps) clear in
      record {
        before = p ∷ rest.before;
        payload = rest.payload;
        after = rest.after;
        split = ap (λ (qs : List Payload). p ∷ qs) rest.split;
        octets = l.named.added ++ rest.octets;
        leads = (refl, clear, s.0, record { front = l.named.added; rest = rest.octets; joined = refl; first = payload_weaken p s.0 l.named.added s.1; others = subst (λ (n : ℕ). LeadsTo n rest.before (type_of rest.payload) rest.octets) (sym next_is) rest.leads });
        unspelled = rest.unspelled;
        fault = rest.fault ∙ fault_at rest.payload (length mid + length rest.octets) (length old + length (l.named.added ++ rest.octets)) (omega (arith, ap length l.named.appended, length-append old l.named.added, length-append l.named.added rest.octets));
      }

-- ---- what has a fault is refused so

link_faulty : (p : Payload) (others : List Payload) (old : List ℕ) → HasNoSpelling p others → link_onto p others old ≡ Err (fault_in p (length old))
link_faulty p others old none = go (link_onto p others old) refl where
  go : (r : Result (List ℕ) WireFault) → link_onto p others old ≡ r → r ≡ Err (fault_in p (length old))
  go (Err g) e = ap (λ (h : WireFault). Err h) (sym (link_refuses p others old g e).1)
  go (Ok mid) e =
      let l = link_appends p others old mid e in
      let s = l.named.spelled in
      absurd (elim none [ inl no_spelling ↦ no_spelling s.0 l.named.added (payload_weaken p s.0 l.named.added s.1) | inr sealed ↦ sealed.1 (l.last sealed.0) ])

pub fault_payloads : (before : List Payload) (payload : Payload) (after : List Payload) (old : List ℕ) (first : ℕ) (octets : List ℕ) → LeadsTo first before (type_of payload) octets → HasNoSpelling payload after
    → payloads_onto (before ++ payload ∷ after) old ≡ Err (fault_in payload (length old + length octets))
unfolding payloads_onto
fault_payloads [] payload after old first octets leads none =
    ap (λ r. r >>> λ mid. payloads_onto after mid) (link_faulty payload after old none)
    ∙ ap (λ (d : WireFault). Err d) (fault_at payload (length old) (length old + length octets) (omega (arith, ap length leads.1)))
fault_payloads (p ∷ before) payload after old first octets leads none =
    let j = leads.3 in
    go (λ mid. fault_payloads before payload after mid leads.2 j.rest j.others none) (link_onto p (before ++ payload ∷ after) old) refl where
      go : ((mid : List ℕ) → payloads_onto (before ++ payload ∷ after) mid ≡ Err (fault_in payload (length mid + length leads.3.rest))) → (r : Result (List ℕ) WireFault) → link_onto p (before ++ payload ∷ after) old ≡ r
          → (r >>> λ mid. payloads_onto (before ++ payload ∷ after) mid) ≡ Err (fault_in payload (length old + length octets))
      go again (Err g) e = absurd (elim (link_refuses p (before ++ payload ∷ after) old g e).0 [ inl no_spelling ↦ no_spelling leads.2 leads.3.front leads.3.first | inr sealed ↦ leads.1 sealed.0 ])
      go again (Ok mid) e =
          let l = link_appends p (before ++ payload ∷ after) old mid e in
          let s = l.named.spelled in
          again mid ∙ ap (λ (d : WireFault). Err d) (fault_at payload (length mid + length leads.3.rest) (length old + length octets)
          (omega (arith, ap length l.named.appended, length-append old l.named.added, ap length leads.3.joined, length-append leads.3.front leads.3.rest, payload_same p s.0 leads.2 l.named.added leads.3.front s.1 leads.3.first)))
