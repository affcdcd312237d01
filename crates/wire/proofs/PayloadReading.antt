-- One payload: what is read is spelled, what is spelled is read, and what is refused is not allowed.
use Rattle.std.proofs.Common.{◌≡◌, ◌≢◌, ℕ, ◌+◌, ◌-◌, ◌<◌, ◌≤◌, Bool, true, false, cond, eqb, leb, List, [], ◌∷◌, ◌++◌, length, Option, Some, None, Result, Ok, Err, refl, sym, ap, subst, ◌∙◌, inl, inr, ◌⊎◌, arith}
use Rattle.std.specs.Prelude.{ok_or, ◌&&◌}
use Rattle.std.proofs.lemmas.Bool.{eqb-true, leb-true, leb-false, le-leb, lt-leb}
use Rattle.std.proofs.lemmas.List.{nil_from_length}
use Rattle.byteorder.specs.Endian.{big_bytes}
use Rattle.base.specs.Octets.{IsOctet, AreOctets}
use Rattle.wire.specs.Parts.{IsPart}
use Rattle.wire.specs.Payloads.{type_of, type_of_skipped, SpellsBody, IsUnknownType, HasCriticalBit, HasHeader, SpellsPayload, following, IsClear}
use Rattle.wire.specs.Refusals.{fault_of_type, BeginsPart, BeginsPayload, IsRefused, IsFaultAt}
use Rattle.wire.specs.Reading.{◌>>=◌, ◌>>>◌, part_at, Piece, piece_of, proposals_of, ke_of, typed_of, nonce_of, selectors_of, form_of, body_of, open_of, inside_of, payload_at, Linked, link_of}
use Rattle.wire.specs.declared.payload.Payload.{Payload}
use Rattle.wire.specs.declared.payload.Payload.TheVariants as payloads
use Rattle.wire.specs.declared.payload.SkippedKind.{SkippedKind}
use Rattle.wire.specs.declared.payload.SkippedKind.TheVariants as skipped
use Rattle.wire.specs.declared.form.Form.{Form}
use Rattle.wire.specs.declared.form.Form.TheVariants as forms
use Rattle.wire.specs.declared.fault.WireFault.{WireFault}
use Rattle.wire.specs.declared.fault.WireFault.TheVariants as faults
use Rattle.wire.proofs.Options.{some_is, with_some, both_true}
use Rattle.wire.proofs.Links.{with_value, ok_is, err_is, test_ok}
use Rattle.base.proofs.OctetLemmas.{octets_front, octets_back}
use Rattle.wire.proofs.Takes.{part_takes, part_again}
use Rattle.wire.proofs.Bodies.{proposals_takes, proposals_again}
use Rattle.wire.proofs.FieldBodies.{selectors_takes, selectors_again, ke_takes, ke_again, typed_takes, typed_again, nonce_takes, nonce_again, notify_takes, notify_again, delete_takes, delete_again}
use Rattle.wire.proofs.Forms.{FormIs, form_is, form_unknown}

-- ---- what is read

-- a payload that is not encrypted, with what of its header belongs to it
pub record TakesBody (kind second : ℕ) (p : Payload) (xs : List ℕ) : Type 0 where
  pub kind_is : kind ≡ type_of p
  pub header : (next : ℕ) → HasHeader IsOctet p next second
  pub inside : SpellsBody IsOctet p xs
  pub follows : (next : ℕ) → following p next ≡ next
  pub clear : kind ≢ 46

critical_bit : (second : ℕ) → second < 256 → HasCriticalBit IsOctet (leb 128 second) second
critical_bit second fits = go (leb 128 second) refl where
  go : (b : Bool) → leb 128 second ≡ b → HasCriticalBit IsOctet b second
  go true e = let high : 128 ≤ second = leb-true _ _ e in record { reserved = second - 128; low = omega arith; free = omega arith; value = omega arith }
  go false e = let low : second < 128 = leb-false _ _ e in record { reserved = second; low = low; free = fits; value = omega arith }

is_unknown : (kind : ℕ) → kind ≢ 0 → kind < 256 → (kind ≤ 32) ⊎ (49 ≤ kind) → IsUnknownType kind
is_unknown kind some fits (inl low) = inl (omega arith, omega (arith, low))
is_unknown kind some fits (inr high) = inr (omega (arith, high), fits)

not_46 : (kind n : ℕ) → kind ≡ n → n ≢ 46 → kind ≢ 46
not_46 kind n is other e = other (sym is ∙ e)

pub body_takes : (form : Form) (kind second : ℕ) (xs : List ℕ) (p : Payload) → FormIs form kind → kind ≢ 0 → kind < 256 → second < 256 → AreOctets xs → body_of form kind second xs ≡ Some p → TakesBody kind second p xs
unfolding body_of
body_takes forms.Sa kind second xs p is some small octet fits e =
    with_some (proposals_of xs) (λ x. Some (payloads.Sa x)) p e (λ x e1 r1.
    subst (λ (q : Payload). TakesBody kind second q xs) (some_is (payloads.Sa x) p r1) (record { kind_is = is; header = λ _. octet; inside = proposals_takes xs x fits e1; follows = λ _. refl; clear = not_46 kind 33 is (λ q. absurd (omega arith)) }))
body_takes forms.Ke kind second xs p is some small octet fits e =
    with_some (ke_of xs) (λ x. Some (payloads.Ke x.0 x.1)) p e (λ x e1 r1.
    subst (λ (q : Payload). TakesBody kind second q xs) (some_is (payloads.Ke x.0 x.1) p r1) (record { kind_is = is; header = λ _. octet; inside = ke_takes xs x fits e1; follows = λ _. refl; clear = not_46 kind 34 is (λ q. absurd (omega arith)) }))
body_takes forms.IdI kind second xs p is some small octet fits e =
    with_some (typed_of 256 xs) (λ x. Some (payloads.IdI x.0 x.1)) p e (λ x e1 r1.
    subst (λ (q : Payload). TakesBody kind second q xs) (some_is (payloads.IdI x.0 x.1) p r1) (record { kind_is = is; header = λ _. octet; inside = typed_takes 256 xs x fits e1; follows = λ _. refl; clear = not_46 kind 35 is (λ q. absurd (omega arith)) }))
body_takes forms.IdR kind second xs p is some small octet fits e =
    with_some (typed_of 256 xs) (λ x. Some (payloads.IdR x.0 x.1)) p e (λ x e1 r1.
    subst (λ (q : Payload). TakesBody kind second q xs) (some_is (payloads.IdR x.0 x.1) p r1) (record { kind_is = is; header = λ _. octet; inside = typed_takes 256 xs x fits e1; follows = λ _. refl; clear = not_46 kind 36 is (λ q. absurd (omega arith)) }))
body_takes forms.Auth kind second xs p is some small octet fits e =
    with_some (typed_of 1024 xs) (λ x. Some (payloads.Auth x.0 x.1)) p e (λ x e1 r1.
    subst (λ (q : Payload). TakesBody kind second q xs) (some_is (payloads.Auth x.0 x.1) p r1) (record { kind_is = is; header = λ _. octet; inside = typed_takes 1024 xs x fits e1; follows = λ _. refl; clear = not_46 kind 39 is (λ q. absurd (omega arith)) }))
body_takes forms.Nonce kind second xs p is some small octet fits e =
    with_some (nonce_of xs) (λ x. Some (payloads.Nonce x)) p e (λ x e1 r1.
    subst (λ (q : Payload). TakesBody kind second q xs) (some_is (payloads.Nonce x) p r1) (record { kind_is = is; header = λ _. octet; inside = nonce_takes xs x e1; follows = λ _. refl; clear = not_46 kind 40 is (λ q. absurd (omega arith)) }))
body_takes forms.Notify kind second xs p is some small octet fits e =
    let t = notify_takes xs p fits e in
    subst (λ (q : Payload). TakesBody kind second q xs) (sym t.4) (record { kind_is = is; header = λ _. octet; inside = t.5; follows = λ _. refl; clear = not_46 kind 41 is (λ q. absurd (omega arith)) })
body_takes forms.Delete kind second xs p is some small octet fits e =
    let t = delete_takes xs p fits e in
    subst (λ (q : Payload). TakesBody kind second q xs) (sym t.2) (record { kind_is = is; header = λ _. octet; inside = t.3; follows = λ _. refl; clear = not_46 kind 42 is (λ q. absurd (omega arith)) })
body_takes forms.TsI kind second xs p is some small octet fits e =
    with_some (selectors_of xs) (λ x. Some (payloads.TsI x)) p e (λ x e1 r1.
    subst (λ (q : Payload). TakesBody kind second q xs) (some_is (payloads.TsI x) p r1) (record { kind_is = is; header = λ _. octet; inside = selectors_takes xs x fits e1; follows = λ _. refl; clear = not_46 kind 44 is (λ q. absurd (omega arith)) }))
body_takes forms.TsR kind second xs p is some small octet fits e =
    with_some (selectors_of xs) (λ x. Some (payloads.TsR x)) p e (λ x e1 r1.
    subst (λ (q : Payload). TakesBody kind second q xs) (some_is (payloads.TsR x) p r1) (record { kind_is = is; header = λ _. octet; inside = selectors_takes xs x fits e1; follows = λ _. refl; clear = not_46 kind 45 is (λ q. absurd (omega arith)) }))
body_takes forms.Sealed kind second xs p is some small octet fits e = absurd cc
body_takes (forms.Skipped s) kind second xs p is some small octet fits e =
    subst (λ (q : Payload). TakesBody kind second q xs) (some_is (payloads.Skipped s xs) p e) (record { kind_is = is; header = λ _. octet; inside = refl; follows = λ _. refl; clear = not_46 kind (type_of_skipped s) is (skipped_clear s) }) where
      skipped_clear : (k : SkippedKind) → type_of_skipped k ≢ 46
      skipped_clear skipped.Certificate q = absurd (omega arith)
      skipped_clear skipped.CertificateRequest q = absurd (omega arith)
      skipped_clear skipped.VendorId q = absurd (omega arith)
      skipped_clear skipped.Configuration q = absurd (omega arith)
      skipped_clear skipped.Eap q = absurd (omega arith)
body_takes forms.Unknown kind second xs p is some small octet fits e =
    subst (λ (q : Payload). TakesBody kind second q xs) (some_is (payloads.Unknown kind (leb 128 second) xs) p e) (record { kind_is = refl; header = λ _. (is_unknown kind some small is, critical_bit second octet); inside = refl; follows = λ _. refl; clear = outside is }) where
      outside : (kind ≤ 32) ⊎ (49 ≤ kind) → kind ≢ 46
      outside (inl low) q = absurd (omega arith)
      outside (inr high) q = absurd (omega arith)

-- what was read of a chain: a payload, which names the type next
pub record TakesPayload (encrypted : Bool) (kind : ℕ) (xs : List ℕ) (l : Linked) : Type 0 where
  pub front : List ℕ
  pub next : ℕ
  pub joined : xs ≡ front ++ l.left
  pub kind_is : kind ≡ type_of l.payload
  pub spelled : SpellsPayload IsOctet l.payload next front
  pub follows : l.next ≡ following l.payload next
  pub small : l.next < 256
  pub last : kind ≡ 46 → (encrypted ≡ true) × (l.left ≡ []) × (l.next ≡ 0)

-- what a part of octets has
record PartOctets (part : Piece) (left : List ℕ) : Type 0 where
  first : part.first < 256
  second : part.second < 256
  inside : AreOctets part.inside
  rest : AreOctets left

part_octets : (xs front left : List ℕ) (part : Piece) → AreOctets xs → xs ≡ front ++ left → IsPart part.first part.second part.inside front → PartOctets part left
part_octets xs front left part fits joined is =
    let whole : AreOctets (front ++ left) = subst AreOctets joined fits in
    let head : AreOctets (part.first ∷ part.second ∷ big_bytes 2 (4 + length part.inside) ++ part.inside) = subst AreOctets is.spelled (octets_front front left whole) in
    record { first = head.0; second = head.1.0; inside = octets_back (big_bytes 2 (4 + length part.inside)) part.inside head.1.1; rest = octets_back front left whole }

open_takes : (encrypted : Bool) (form : Form) (kind offset : ℕ) (part : Piece) (xs front left : List ℕ) (l : Linked) → FormIs form kind → kind ≢ 0 → kind < 256 → AreOctets xs → xs ≡ front ++ left
    → IsPart part.first part.second part.inside front → open_of form kind offset part left ≡ Ok l → TakesPayload encrypted kind xs l
open_takes encrypted form kind offset part xs front left l is some small fits joined head e =
    with_value (body_of form kind part.second part.inside) (fault_of_type kind offset) (λ payload. Ok (link_of payload part.first left)) l e (λ payload e1 r1.
    let o = part_octets xs front left part fits joined head in
    let t = body_takes form kind part.second part.inside payload is some small o.second o.inside e1 in
    subst (TakesPayload encrypted kind xs) (ok_is (link_of payload part.first left) l r1) (record {
      front = front;
      next = part.first;
      joined = joined;
      kind_is = t.kind_is;
      spelled = record { second = part.second; body = part.inside; part = head; header = t.header part.first; inside = t.inside };
      follows = sym (t.follows part.first);
      small = o.first;
      last = λ q. absurd (t.clear q);
    }))

inside_takes : (encrypted : Bool) (form : Form) (kind offset : ℕ) (part : Piece) (xs front left : List ℕ) (l : Linked) → FormIs form kind → kind ≢ 0 → kind < 256 → AreOctets xs → xs ≡ front ++ left
    → IsPart part.first part.second part.inside front → inside_of encrypted form kind offset part left ≡ Ok l → TakesPayload encrypted kind xs l
inside_takes encrypted forms.Sealed kind offset part xs front left l is some small fits joined head e =
    let made : Linked = link_of (payloads.Sealed part.first part.inside) 0 left in
    let t = test_ok (encrypted && eqb (length left) 0) (fault_of_type kind offset) made l e in
    let b = both_true encrypted (eqb (length left) 0) t.0 in
    let o = part_octets xs front left part fits joined head in
    subst (TakesPayload encrypted kind xs) t.1 (record {
      front = front;
      next = part.first;
      joined = joined;
      kind_is = is;
      spelled = record { second = part.second; body = part.inside; part = head; header = (refl, o.second); inside = refl };
      follows = refl;
      small = omega arith;
      last = λ q. (b.0, nil_from_length left (eqb-true _ _ b.1), refl);
    })
inside_takes encrypted forms.Sa kind offset part xs front left l is some small fits joined head e = open_takes encrypted forms.Sa kind offset part xs front left l is some small fits joined head e
inside_takes encrypted forms.Ke kind offset part xs front left l is some small fits joined head e = open_takes encrypted forms.Ke kind offset part xs front left l is some small fits joined head e
inside_takes encrypted forms.IdI kind offset part xs front left l is some small fits joined head e = open_takes encrypted forms.IdI kind offset part xs front left l is some small fits joined head e
inside_takes encrypted forms.IdR kind offset part xs front left l is some small fits joined head e = open_takes encrypted forms.IdR kind offset part xs front left l is some small fits joined head e
inside_takes encrypted forms.Auth kind offset part xs front left l is some small fits joined head e = open_takes encrypted forms.Auth kind offset part xs front left l is some small fits joined head e
inside_takes encrypted forms.Nonce kind offset part xs front left l is some small fits joined head e = open_takes encrypted forms.Nonce kind offset part xs front left l is some small fits joined head e
inside_takes encrypted forms.Notify kind offset part xs front left l is some small fits joined head e = open_takes encrypted forms.Notify kind offset part xs front left l is some small fits joined head e
inside_takes encrypted forms.Delete kind offset part xs front left l is some small fits joined head e = open_takes encrypted forms.Delete kind offset part xs front left l is some small fits joined head e
inside_takes encrypted forms.TsI kind offset part xs front left l is some small fits joined head e = open_takes encrypted forms.TsI kind offset part xs front left l is some small fits joined head e
inside_takes encrypted forms.TsR kind offset part xs front left l is some small fits joined head e = open_takes encrypted forms.TsR kind offset part xs front left l is some small fits joined head e
inside_takes encrypted (forms.Skipped s) kind offset part xs front left l is some small fits joined head e = open_takes encrypted (forms.Skipped s) kind offset part xs front left l is some small fits joined head e
inside_takes encrypted forms.Unknown kind offset part xs front left l is some small fits joined head e = open_takes encrypted forms.Unknown kind offset part xs front left l is some small fits joined head e

pub payload_takes : (encrypted : Bool) (end kind : ℕ) (xs : List ℕ) (l : Linked) → kind ≢ 0 → kind < 256 → AreOctets xs → payload_at encrypted end kind xs ≡ Ok l → TakesPayload encrypted kind xs l
unfolding payload_at
payload_takes encrypted end kind xs l some small fits e =
    with_value (part_at xs) (faults.BadChain (end - length xs)) (λ part. inside_of encrypted (form_of kind) kind (end - length xs) part.0 part.1) l e (λ part e1 r1.
    let t = part_takes xs part fits e1 in
    inside_takes encrypted (form_of kind) kind (end - length xs) part.0 xs t.front part.1 l (form_is kind (form_of kind) refl) some small fits t.joined t.part r1)

-- ---- what is spelled

-- the form of a payload
abbrev form_for : Payload → Form
form_for (payloads.Sa x) = forms.Sa
form_for (payloads.Ke x y) = forms.Ke
form_for (payloads.IdI x y) = forms.IdI
form_for (payloads.IdR x y) = forms.IdR
form_for (payloads.Auth x y) = forms.Auth
form_for (payloads.Nonce x) = forms.Nonce
form_for (payloads.Notify x y z w) = forms.Notify
form_for (payloads.Delete x y) = forms.Delete
form_for (payloads.TsI x) = forms.TsI
form_for (payloads.TsR x) = forms.TsR
form_for (payloads.Sealed x y) = forms.Sealed
form_for (payloads.Skipped x y) = forms.Skipped x
form_for (payloads.Unknown x y z) = forms.Unknown

bit_read : (critical : Bool) (second : ℕ) (Free : ℕ → Type 0) → HasCriticalBit Free critical second → leb 128 second ≡ critical
bit_read true second Free h = le-leb 128 second (omega (arith, h.value))
bit_read false second Free h = lt-leb 128 second (omega (arith, h.value, h.low))

-- a payload that is not encrypted is read from its body
open_again : (encrypted : Bool) (form : Form) (kind offset : ℕ) (part : Piece) (rest : List ℕ) (p : Payload) → body_of form kind part.second part.inside ≡ Some p → open_of form kind offset part rest ≡ Ok (link_of p part.first rest)
open_again encrypted form kind offset part rest p e = ap (λ o. ok_or o (fault_of_type kind offset) >>> λ payload. Ok (link_of payload part.first rest)) e

skipped_form : (s : SkippedKind) → form_of (type_of_skipped s) ≡ forms.Skipped s
skipped_form skipped.Certificate = refl
skipped_form skipped.CertificateRequest = refl
skipped_form skipped.VendorId = refl
skipped_form skipped.Configuration = refl
skipped_form skipped.Eap = refl

inside_again : (encrypted : Bool) (offset next second : ℕ) (body rest : List ℕ) (p : Payload) → HasHeader IsOctet p next second → SpellsBody IsOctet p body → (type_of p ≡ 46 → (encrypted ≡ true) × (rest ≡ []))
    → inside_of encrypted (form_of (type_of p)) (type_of p) offset (piece_of next second body) rest ≡ Ok (link_of p (following p next) rest)
unfolding body_of
inside_again encrypted offset next second body rest (payloads.Sa x) header s last =
    open_again encrypted forms.Sa 33 offset (piece_of next second body) rest (payloads.Sa x) (ap (λ o. o >>= λ y. Some (payloads.Sa y)) (proposals_again IsOctet x body s))
inside_again encrypted offset next second body rest (payloads.Ke x y) header s last =
    open_again encrypted forms.Ke 34 offset (piece_of next second body) rest (payloads.Ke x y) (ap (λ o. o >>= λ z. Some (payloads.Ke z.0 z.1)) (ke_again IsOctet x y body s))
inside_again encrypted offset next second body rest (payloads.IdI x y) header s last =
    open_again encrypted forms.IdI 35 offset (piece_of next second body) rest (payloads.IdI x y) (ap (λ o. o >>= λ z. Some (payloads.IdI z.0 z.1)) (typed_again IsOctet 256 x y body s))
inside_again encrypted offset next second body rest (payloads.IdR x y) header s last =
    open_again encrypted forms.IdR 36 offset (piece_of next second body) rest (payloads.IdR x y) (ap (λ o. o >>= λ z. Some (payloads.IdR z.0 z.1)) (typed_again IsOctet 256 x y body s))
inside_again encrypted offset next second body rest (payloads.Auth x y) header s last =
    open_again encrypted forms.Auth 39 offset (piece_of next second body) rest (payloads.Auth x y) (ap (λ o. o >>= λ z. Some (payloads.Auth z.0 z.1)) (typed_again IsOctet 1024 x y body s))
inside_again encrypted offset next second body rest (payloads.Nonce x) header s last =
    open_again encrypted forms.Nonce 40 offset (piece_of next second body) rest (payloads.Nonce x) (ap (λ o. o >>= λ y. Some (payloads.Nonce y)) (nonce_again x body s))
inside_again encrypted offset next second body rest (payloads.Notify x y z w) header s last =
    open_again encrypted forms.Notify 41 offset (piece_of next second body) rest (payloads.Notify x y z w) (notify_again x y z w body s)
inside_again encrypted offset next second body rest (payloads.Delete x y) header s last =
    open_again encrypted forms.Delete 42 offset (piece_of next second body) rest (payloads.Delete x y) (delete_again x y body s)
inside_again encrypted offset next second body rest (payloads.TsI x) header s last =
    open_again encrypted forms.TsI 44 offset (piece_of next second body) rest (payloads.TsI x) (ap (λ o. o >>= λ y. Some (payloads.TsI y)) (selectors_again IsOctet x body s))
inside_again encrypted offset next second body rest (payloads.TsR x) header s last =
    open_again encrypted forms.TsR 45 offset (piece_of next second body) rest (payloads.TsR x) (ap (λ o. o >>= λ y. Some (payloads.TsR y)) (selectors_again IsOctet x body s))
inside_again encrypted offset next second body rest (payloads.Sealed x y) header s last =
    let h = last refl in
    rw (h.0, h.1) (ap (λ (z : List ℕ). Ok (link_of (payloads.Sealed next z) 0 [])) s ∙ ap (λ (n : ℕ). Ok (link_of (payloads.Sealed n y) 0 [])) header.0)
inside_again encrypted offset next second body rest (payloads.Skipped x y) header s last =
    rw (skipped_form x) (ap (λ (z : List ℕ). Ok (link_of (payloads.Skipped x z) next rest)) s)
inside_again encrypted offset next second body rest (payloads.Unknown x y z) header s last =
    rw (form_unknown x header.0, bit_read y second IsOctet header.1) (ap (λ (w : List ℕ). Ok (link_of (payloads.Unknown x y w) next rest)) s)

pub payload_again : (encrypted : Bool) (end next : ℕ) (front rest : List ℕ) (p : Payload) → SpellsPayload IsOctet p next front → (type_of p ≡ 46 → (encrypted ≡ true) × (rest ≡ []))
    → payload_at encrypted end (type_of p) (front ++ rest) ≡ Ok (link_of p (following p next) rest)
unfolding payload_at
payload_again encrypted end next front rest p s last =
    let offset : ℕ = end - length (front ++ rest) in
    ap (λ o. ok_or o (faults.BadChain offset) >>> λ part. inside_of encrypted (form_of (type_of p)) (type_of p) offset part.0 part.1) (part_again next s.second s.body front rest s.part)
    ∙ inside_again encrypted offset next s.second s.body rest p s.header s.inside last

-- ---- what is refused

-- a refused step that has a value goes on to be refused
value_err : {A B : Type 0} (o : Option A) (d : WireFault) (g : A → B) (f : WireFault) → (ok_or o d >>> λ x. Ok (g x)) ≡ Err f → (o ≡ None) × (d ≡ f)
value_err {B = B} (Some x) d g f e = absurd cc
value_err {B = B} None d g f e = (refl, err_is {A = B} d f e)

test_err : {A : Type 0} (b : Bool) (d : WireFault) (x : A) (f : WireFault) → cond b (Ok x) (Err d) ≡ Err f → d ≡ f
test_err true d x f e = absurd cc
test_err {A = A} false d x f e = err_is {A = A} d f e

open_err : (form : Form) (kind offset : ℕ) (part : Piece) (left : List ℕ) (f : WireFault) → open_of form kind offset part left ≡ Err f → fault_of_type kind offset ≡ f
open_err form kind offset part left f e = (value_err (body_of form kind part.second part.inside) (fault_of_type kind offset) (λ payload. link_of payload part.first left) f e).1

inside_err : (encrypted : Bool) (form : Form) (kind offset : ℕ) (part : Piece) (left : List ℕ) (f : WireFault) → inside_of encrypted form kind offset part left ≡ Err f → fault_of_type kind offset ≡ f
inside_err encrypted forms.Sealed kind offset part left f e = test_err (encrypted && eqb (length left) 0) (fault_of_type kind offset) (link_of (payloads.Sealed part.first part.inside) 0 left) f e
inside_err encrypted forms.Sa kind offset part left f e = open_err forms.Sa kind offset part left f e
inside_err encrypted forms.Ke kind offset part left f e = open_err forms.Ke kind offset part left f e
inside_err encrypted forms.IdI kind offset part left f e = open_err forms.IdI kind offset part left f e
inside_err encrypted forms.IdR kind offset part left f e = open_err forms.IdR kind offset part left f e
inside_err encrypted forms.Auth kind offset part left f e = open_err forms.Auth kind offset part left f e
inside_err encrypted forms.Nonce kind offset part left f e = open_err forms.Nonce kind offset part left f e
inside_err encrypted forms.Notify kind offset part left f e = open_err forms.Notify kind offset part left f e
inside_err encrypted forms.Delete kind offset part left f e = open_err forms.Delete kind offset part left f e
inside_err encrypted forms.TsI kind offset part left f e = open_err forms.TsI kind offset part left f e
inside_err encrypted forms.TsR kind offset part left f e = open_err forms.TsR kind offset part left f e
inside_err encrypted (forms.Skipped s) kind offset part left f e = open_err (forms.Skipped s) kind offset part left f e
inside_err encrypted forms.Unknown kind offset part left f e = open_err forms.Unknown kind offset part left f e

-- a payload is refused for its header, or for what is in it
abbrev PayloadErr : (kind offset : ℕ) (xs : List ℕ) (f : WireFault) → Type 0
PayloadErr kind offset xs f = ((part_at xs ≡ None) × (faults.BadChain offset ≡ f)) ⊎ ((x : Piece × List ℕ) × (part_at xs ≡ Some x) × (fault_of_type kind offset ≡ f))

payload_err : (encrypted : Bool) (end kind : ℕ) (xs : List ℕ) (f : WireFault) → payload_at encrypted end kind xs ≡ Err f → PayloadErr kind (end - length xs) xs f
unfolding payload_at
payload_err encrypted end kind xs f e = go (part_at xs) refl e where
  go : (o : Option (Piece × List ℕ)) → part_at xs ≡ o → (ok_or o (faults.BadChain (end - length xs)) >>> λ part. inside_of encrypted (form_of kind) kind (end - length xs) part.0 part.1) ≡ Err f → PayloadErr kind (end - length xs) xs f
  go None is e' = inl (is, err_is {A = Linked} (faults.BadChain (end - length xs)) f e')
  go (Some x) is e' = inr (x, is, inside_err encrypted (form_of kind) kind (end - length xs) x.0 x.1 f e')

no_part : (xs : List ℕ) → part_at xs ≡ None → BeginsPart xs → ⊥
no_part xs none b = none_some (sym (ap part_at b.joined ∙ part_again b.first b.second b.inside b.front b.after b.part) ∙ none) where
  none_some : {A : Type 0} {x : A} → Some x ≡ None → ⊥
  none_some e = cc

-- what begins as a payload is read
begins_read : (encrypted : Bool) (end kind : ℕ) (xs : List ℕ) (b : BeginsPayload encrypted kind xs) → payload_at encrypted end kind xs ≡ Ok (link_of b.payload (following b.payload b.next) b.after)
begins_read encrypted end kind xs b =
    ap (payload_at encrypted end kind) b.joined ∙ ap (λ (k : ℕ). payload_at encrypted end k (b.front ++ b.after)) b.kind
    ∙ payload_again encrypted end b.next b.front b.after b.payload b.spelled (λ q. b.last (b.kind ∙ q))

refused_read : (encrypted : Bool) (end kind : ℕ) (xs : List ℕ) (f : WireFault) → payload_at encrypted end kind xs ≡ Err f → BeginsPayload encrypted kind xs → ⊥
refused_read encrypted end kind xs f e b = ok_err (sym (begins_read encrypted end kind xs b) ∙ e) where
  ok_err : {A : Type 0} {x : A} {g : WireFault} → Ok x ≡ Err g → ⊥
  ok_err q = cc

begins_part : (xs : List ℕ) (x : Piece × List ℕ) → AreOctets xs → part_at xs ≡ Some x → BeginsPart xs
begins_part xs x fits e =
    let t = part_takes xs x fits e in
    record { first = x.0.first; second = x.0.second; inside = x.0.inside; after = x.1; front = t.front; joined = t.joined; part = t.part }

begins_payload : (encrypted : Bool) (kind : ℕ) (xs : List ℕ) (l : Linked) → TakesPayload encrypted kind xs l → BeginsPayload encrypted kind xs
begins_payload encrypted kind xs l t =
    record { payload = l.payload; next = t.next; front = t.front; after = l.left; joined = t.joined; kind = t.kind_is; spelled = t.spelled; last = λ q. let h = t.last q in (h.0, h.1) }

pub payload_fault : (encrypted : Bool) (end kind : ℕ) (xs : List ℕ) (f : WireFault) → kind ≢ 0 → AreOctets xs → payload_at encrypted end kind xs ≡ Err f → IsFaultAt encrypted kind xs (end - length xs) f
payload_fault encrypted end kind xs f some fits e = elim (payload_err encrypted end kind xs f e) [
  | inl short ↦ inl (inr (some, no_part xs short.0), sym short.1)
  | inr bad ↦ inr (some, (begins_part xs bad.0 fits bad.1, refused_read encrypted end kind xs f e), sym bad.2)
]

refused_is : (encrypted : Bool) (end kind : ℕ) (xs : List ℕ) → kind ≢ 0 → kind < 256 → AreOctets xs → IsRefused encrypted kind xs → payload_at encrypted end kind xs ≡ Err (fault_of_type kind (end - length xs))
refused_is encrypted end kind xs some small fits refused = go (payload_at encrypted end kind xs) refl where
  go : (r : Result Linked WireFault) → payload_at encrypted end kind xs ≡ r → r ≡ Err (fault_of_type kind (end - length xs))
  go (Ok l) e = absurd (refused.1 (begins_payload encrypted kind xs l (payload_takes encrypted end kind xs l some small fits e)))
  go (Err g) e = elim (payload_err encrypted end kind xs g e) [
    | inl short ↦ absurd (no_part xs short.0 refused.0)
    | inr bad ↦ ap (λ (d : WireFault). Err d) (sym bad.2)
  ]

short_is : (encrypted : Bool) (end kind : ℕ) (xs : List ℕ) → AreOctets xs → (BeginsPart xs → ⊥) → payload_at encrypted end kind xs ≡ Err (faults.BadChain (end - length xs))
unfolding payload_at
short_is encrypted end kind xs fits none = ap (λ o. ok_or o (faults.BadChain (end - length xs)) >>> λ part. inside_of encrypted (form_of kind) kind (end - length xs) part.0 part.1) (go (part_at xs) refl) where
  go : (o : Option (Piece × List ℕ)) → part_at xs ≡ o → o ≡ None
  go None e = refl
  go (Some x) e = absurd (none (begins_part xs x fits e))

pub fault_payload : (encrypted : Bool) (end kind : ℕ) (xs : List ℕ) (f : WireFault) → kind ≢ 0 → kind < 256 → AreOctets xs → IsFaultAt encrypted kind xs (end - length xs) f → payload_at encrypted end kind xs ≡ Err f
fault_payload encrypted end kind xs f some small fits h = elim h [
  | inl broken ↦ elim broken.0 [
    | inl none ↦ absurd (some none.0)
    | inr short ↦ short_is encrypted end kind xs fits short.1 ∙ ap (λ (d : WireFault). Err d) (sym broken.1)
  ]
  | inr bad ↦ refused_is encrypted end kind xs some small fits bad.1 ∙ ap (λ (d : WireFault). Err d) (sym bad.2)
]

-- ---- the chain behind a payload

pub clear_follows : (p : Payload) (next : ℕ) → IsClear p → following p next ≡ next
clear_follows (payloads.Sa x) next clear = refl
clear_follows (payloads.Ke x y) next clear = refl
clear_follows (payloads.IdI x y) next clear = refl
clear_follows (payloads.IdR x y) next clear = refl
clear_follows (payloads.Auth x y) next clear = refl
clear_follows (payloads.Nonce x) next clear = refl
clear_follows (payloads.Notify x y z w) next clear = refl
clear_follows (payloads.Delete x y) next clear = refl
clear_follows (payloads.TsI x) next clear = refl
clear_follows (payloads.TsR x) next clear = refl
clear_follows (payloads.Sealed x y) next clear = absurd (clear refl)
clear_follows (payloads.Skipped x y) next clear = refl
clear_follows (payloads.Unknown x y z) next clear = refl

-- the type of a payload that is spelled
skipped_range : (s : SkippedKind) → (0 < type_of_skipped s) × (type_of_skipped s ≢ 46)
skipped_range skipped.Certificate = (omega arith, λ q. absurd (omega arith))
skipped_range skipped.CertificateRequest = (omega arith, λ q. absurd (omega arith))
skipped_range skipped.VendorId = (omega arith, λ q. absurd (omega arith))
skipped_range skipped.Configuration = (omega arith, λ q. absurd (omega arith))
skipped_range skipped.Eap = (omega arith, λ q. absurd (omega arith))

pub type_some : (Free : ℕ → Type 0) (p : Payload) (next second : ℕ) → HasHeader Free p next second → 0 < type_of p
type_some Free (payloads.Sa x) next second h = omega arith
type_some Free (payloads.Ke x y) next second h = omega arith
type_some Free (payloads.IdI x y) next second h = omega arith
type_some Free (payloads.IdR x y) next second h = omega arith
type_some Free (payloads.Auth x y) next second h = omega arith
type_some Free (payloads.Nonce x) next second h = omega arith
type_some Free (payloads.Notify x y z w) next second h = omega arith
type_some Free (payloads.Delete x y) next second h = omega arith
type_some Free (payloads.TsI x) next second h = omega arith
type_some Free (payloads.TsR x) next second h = omega arith
type_some Free (payloads.Sealed x y) next second h = omega arith
type_some Free (payloads.Skipped x y) next second h = (skipped_range x).0
type_some Free (payloads.Unknown x y z) next second h = elim h.0 [ inl low ↦ low.0 | inr high ↦ omega (arith, high.0) ]

pub sealed_ends : (Free : ℕ → Type 0) (p : Payload) (next second : ℕ) → HasHeader Free p next second → type_of p ≡ 46 → following p next ≡ 0
sealed_ends Free (payloads.Sa x) next second h q = absurd (omega arith)
sealed_ends Free (payloads.Ke x y) next second h q = absurd (omega arith)
sealed_ends Free (payloads.IdI x y) next second h q = absurd (omega arith)
sealed_ends Free (payloads.IdR x y) next second h q = absurd (omega arith)
sealed_ends Free (payloads.Auth x y) next second h q = absurd (omega arith)
sealed_ends Free (payloads.Nonce x) next second h q = absurd (omega arith)
sealed_ends Free (payloads.Notify x y z w) next second h q = absurd (omega arith)
sealed_ends Free (payloads.Delete x y) next second h q = absurd (omega arith)
sealed_ends Free (payloads.TsI x) next second h q = absurd (omega arith)
sealed_ends Free (payloads.TsR x) next second h q = absurd (omega arith)
sealed_ends Free (payloads.Sealed x y) next second h q = refl
sealed_ends Free (payloads.Skipped x y) next second h q = absurd ((skipped_range x).1 q)
sealed_ends Free (payloads.Unknown x y z) next second h q = absurd (elim h.0 [ inl low ↦ omega (arith, low.1, q) | inr high ↦ omega (arith, high.0, q) ])
