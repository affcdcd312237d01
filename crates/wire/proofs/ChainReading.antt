-- A chain of payloads: what is read is spelled, what is spelled is read, and the fault is that of the first
-- payload that is not allowed.
use Rattle.std.proofs.Common.{◌≡◌, ◌≢◌, ℕ, zero, suc, ◌-◌, ◌<◌, ◌≤◌, Bool, true, false, cond, eqb, List, [], ◌∷◌, ◌++◌, length, Result, Ok, Err, refl, sym, ap, subst, ◌∙◌, append_assoc, inl, inr, arith}
use Rattle.std.specs.List.{AllByRecursion}
use Rattle.std.proofs.lemmas.Bool.{eqb-true, eqb-false, ne_eqb}
use Rattle.std.proofs.lemmas.List.{nil_from_length, length-append}
use Rattle.base.specs.Octets.{IsOctet, AreOctets}
use Rattle.wire.specs.Payloads.{type_of, SpellsPayload, SpellsPayloads, following, IsClear}
use Rattle.wire.specs.Refusals.{LeadsTo, BeginsPart, IsFaultAt}
use Rattle.wire.specs.Reading.{◌>>>◌, payload_at, chain_at, Linked, link_of}
use Rattle.wire.specs.declared.payload.Payload.{Payload}
use Rattle.wire.specs.declared.fault.WireFault.{WireFault}
use Rattle.wire.specs.declared.fault.WireFault.TheVariants as faults
use Rattle.wire.proofs.Options.{pick}
use Rattle.wire.proofs.Links.{with_ok, ok_is, err_is, test_ok, payload_shrinks, none_left}
use Rattle.base.proofs.OctetLemmas.{octets_back, octets_front}
use Rattle.wire.proofs.Sequences.{part_long}
use Rattle.wire.proofs.PayloadReading.{payload_takes, payload_again, payload_fault, fault_payload, clear_follows, type_some, sealed_ends}

-- no payload is encrypted where none may be
abbrev pub ClearUnless : Bool → List Payload → Type 0
ClearUnless true ps = Unit {0}
ClearUnless false ps = AllByRecursion IsClear ps

clear_cons : (encrypted : Bool) (p : Payload) (ps : List Payload) → (type_of p ≡ 46 → encrypted ≡ true) → ClearUnless encrypted ps → ClearUnless encrypted (p ∷ ps)
clear_cons true p ps may others = tt
clear_cons false p ps may others = (λ q. absurd (no_true (may q)), others) where
  no_true : false ≡ true → ⊥
  no_true e = cc

some_type : (n : ℕ) → suc n ≢ 0
some_type n e = absurd (omega arith)

-- ---- what is read

abbrev empty_or : ℕ → List ℕ → Result (List Payload) WireFault
empty_or end xs = cond (eqb (length xs) 0) (Ok []) (Err (faults.BadChain (end - length xs)))

pub chain_takes : (encrypted : Bool) (end steps kind : ℕ) (xs : List ℕ) (ps : List Payload) → kind < 256 → AreOctets xs → chain_at encrypted end steps kind xs ≡ Ok ps → SpellsPayloads IsOctet kind ps xs × ClearUnless encrypted ps
unfolding chain_at
chain_takes encrypted end steps zero xs ps small fits e =
    let t = test_ok (eqb (length xs) 0) (faults.BadChain (end - length xs)) [] ps e in
    subst (λ (qs : List Payload). SpellsPayloads IsOctet 0 qs xs × ClearUnless encrypted qs) t.1 ((refl, nil_from_length xs (eqb-true _ _ t.0)), nothing encrypted) where
      nothing : (b : Bool) → ClearUnless b []
      nothing true = tt
      nothing false = tt
chain_takes encrypted end zero (suc kind) xs ps small fits e = absurd cc
chain_takes encrypted end (suc steps) (suc kind) xs ps small fits e =
    with_ok (payload_at encrypted end (suc kind) xs) (λ p. chain_at encrypted end steps p.next p.left >>> λ qs. Ok (p.payload ∷ qs)) ps e (λ l e1 r1.
    with_ok (chain_at encrypted end steps l.next l.left) (λ qs. Ok (l.payload ∷ qs)) ps r1 (λ qs e2 r2.
    let t = payload_takes encrypted end (suc kind) xs l (some_type kind) small fits e1 in
    let rest = chain_takes encrypted end steps l.next l.left qs t.small (octets_back t.front l.left (subst AreOctets t.joined fits)) e2 in
    let others : SpellsPayloads IsOctet (following l.payload t.next) qs l.left = subst (λ (n : ℕ). SpellsPayloads IsOctet n qs l.left) t.follows rest.0 in
    subst (λ (rs : List Payload). SpellsPayloads IsOctet (suc kind) rs xs × ClearUnless encrypted rs) (ok_is (l.payload ∷ qs) ps r2) (
      (t.kind_is, t.next, record { front = t.front; rest = l.left; joined = t.joined; first = t.spelled; others = others }),
      clear_cons encrypted l.payload qs (λ q. (t.last (t.kind_is ∙ q)).0) rest.1,
    )))

-- ---- what is spelled

-- nothing is spelled behind an encrypted payload
nothing_behind : (Free : ℕ → Type 0) (ps : List Payload) (xs : List ℕ) → SpellsPayloads Free 0 ps xs → (ps ≡ []) × (xs ≡ [])
nothing_behind Free [] xs s = (refl, s.1)
nothing_behind Free (p ∷ ps) xs s = absurd (omega (arith, type_some Free p s.1 s.2.first.second s.2.first.header, s.0))

chain_step : (encrypted : Bool) (end steps kind : ℕ) (xs : List ℕ) (l : Linked) → 0 < kind → payload_at encrypted end kind xs ≡ Ok l
    → chain_at encrypted end (suc steps) kind xs ≡ (chain_at encrypted end steps l.next l.left >>> λ ps. Ok (l.payload ∷ ps))
unfolding chain_at
chain_step encrypted end steps zero xs l some e = absurd (omega arith)
chain_step encrypted end steps (suc kind) xs l some e = ap (λ r. r >>> λ p. chain_at encrypted end steps p.next p.left >>> λ ps. Ok (p.payload ∷ ps)) e

-- whether an encrypted payload may stand here
may_be : (encrypted : Bool) (p : Payload) (ps : List Payload) → ClearUnless encrypted (p ∷ ps) → type_of p ≡ 46 → encrypted ≡ true
may_be true p ps clear q = refl
may_be false p ps clear q = absurd (clear.0 q)

others_clear : (encrypted : Bool) (p : Payload) (ps : List Payload) → ClearUnless encrypted (p ∷ ps) → ClearUnless encrypted ps
others_clear true p ps clear = tt
others_clear false p ps clear = clear.1

-- the next payload of a chain is read
pub payload_first : (encrypted : Bool) (end kind next : ℕ) (p : Payload) (front rest xs : List ℕ) → kind ≡ type_of p → xs ≡ front ++ rest → SpellsPayload IsOctet p next front → (type_of p ≡ 46 → (encrypted ≡ true) × (rest ≡ []))
    → payload_at encrypted end kind xs ≡ Ok (link_of p (following p next) rest)
payload_first encrypted end kind next p front rest xs is joined s last =
    ap (λ (k : ℕ). payload_at encrypted end k xs) is ∙ ap (payload_at encrypted end (type_of p)) joined ∙ payload_again encrypted end next front rest p s last

pub chain_again : (encrypted : Bool) (end steps kind : ℕ) (ps : List Payload) (xs : List ℕ) → length xs ≤ steps → ClearUnless encrypted ps → SpellsPayloads IsOctet kind ps xs → chain_at encrypted end steps kind xs ≡ Ok ps
unfolding chain_at
chain_again encrypted end steps kind [] xs enough clear s =
    ap (λ (k : ℕ). chain_at encrypted end steps k xs) s.0 ∙ ap (chain_at encrypted end steps 0) s.1
chain_again encrypted end zero kind (p ∷ ps) xs enough clear s =
    let j = s.2 in
    absurd (omega (arith, part_long s.1 j.first.second j.first.body j.front j.first.part, length-append j.front j.rest, ap length j.joined, enough))
chain_again encrypted end (suc steps) kind (p ∷ ps) xs enough clear s =
    let j = s.2 in
    let some : 0 < kind = omega (arith, type_some IsOctet p s.1 j.first.second j.first.header, s.0) in
    let left : length j.rest ≤ steps = omega (arith, part_long s.1 j.first.second j.first.body j.front j.first.part, length-append j.front j.rest, ap length j.joined, enough) in
    let last : type_of p ≡ 46 → (encrypted ≡ true) × (j.rest ≡ []) = λ q.
    (may_be encrypted p ps clear q, (nothing_behind IsOctet ps j.rest (subst (λ (n : ℕ). SpellsPayloads IsOctet n ps j.rest) (sealed_ends IsOctet p s.1 j.first.second j.first.header q) j.others)).1) in
    chain_step encrypted end steps kind xs (link_of p (following p s.1) j.rest) some (payload_first encrypted end kind s.1 p j.front j.rest xs s.0 j.joined j.first last)
    ∙ ap (λ r. r >>> λ qs. Ok (p ∷ qs)) (chain_again encrypted end steps (following p s.1) ps j.rest left (others_clear encrypted p ps clear) j.others)

-- ---- what is refused

-- payloads that are allowed, and then one that is not
pub record FaultyChain (encrypted : Bool) (end kind : ℕ) (xs : List ℕ) (f : WireFault) : Type 0 where
  pub payloads : List Payload
  pub named : ℕ
  pub front : List ℕ
  pub rest : List ℕ
  pub joined : xs ≡ front ++ rest
  pub leads : LeadsTo kind payloads named front
  pub here : IsFaultAt encrypted named rest (end - length rest) f

ok_no_err : {A : Type 0} {x : A} {f : WireFault} → Ok x ≡ Err f → ⊥
ok_no_err e = cc

bind_err : {A B : Type 0} (r : Result A WireFault) (g : A → B) (f : WireFault) → (r >>> λ x. Ok (g x)) ≡ Err f → r ≡ Err f
bind_err (Ok x) g f e = absurd (ok_no_err e)
bind_err {A = A} {B = B} (Err d) g f e = ap (λ (h : WireFault). Err h) (err_is {A = B} d f e)

no_part_in_nothing : (xs : List ℕ) → length xs ≡ 0 → BeginsPart xs → ⊥
no_part_in_nothing xs none b = omega (arith, part_long b.first b.second b.inside b.front b.part, length-append b.front b.after, ap length b.joined, none)

pub chain_fault : (encrypted : Bool) (end steps kind : ℕ) (xs : List ℕ) (f : WireFault) → length xs ≤ steps → kind < 256 → AreOctets xs → chain_at encrypted end steps kind xs ≡ Err f → FaultyChain encrypted end kind xs f
unfolding chain_at
chain_fault encrypted end steps zero xs f enough small fits e =
    elim (pick (eqb (length xs) 0) _ _ _ e) [
      | inl none ↦ absurd (ok_no_err none.1)
      | inr over ↦
          let P : WireFault → Type 0 = λ g. FaultyChain encrypted end 0 xs g in
          let other : xs ≢ [] = λ q. eqb-false _ _ over.0 (ap length q) in
          subst P (err_is {A = List Payload} (faults.BadChain (end - length xs)) f over.1) (record { payloads = []; named = 0; front = []; rest = xs; joined = refl; leads = (refl, refl); here = inl (inl (refl, other), refl) })
    ]
chain_fault encrypted end zero (suc kind) xs f enough small fits e =
    let P : WireFault → Type 0 = λ g. FaultyChain encrypted end (suc kind) xs g in
    subst P (err_is {A = List Payload} (faults.BadChain (end - length xs)) f e) (record { payloads = []; named = suc kind; front = []; rest = xs; joined = refl; leads = (refl, refl); here = inl (inr (some_type kind, no_part_in_nothing xs (omega arith)), refl) })
chain_fault encrypted end (suc steps) (suc kind) xs f enough small fits e =
    go (λ k ys less low octets read. chain_fault encrypted end steps k ys f less low octets read) (payload_at encrypted end (suc kind) xs) refl e where
      go : ((k : ℕ) (ys : List ℕ) → length ys ≤ steps → k < 256 → AreOctets ys → chain_at encrypted end steps k ys ≡ Err f → FaultyChain encrypted end k ys f) → (r : Result Linked WireFault) → payload_at encrypted end (suc kind) xs ≡ r → (r >>> λ p. chain_at encrypted end steps p.next p.left >>> λ qs. Ok (p.payload ∷ qs)) ≡ Err f → FaultyChain encrypted end (suc kind) xs f
      go rest_fault (Err g) e1 r1 =
          let P : WireFault → Type 0 = λ h. FaultyChain encrypted end (suc kind) xs h in
          subst P (err_is {A = List Payload} g f r1) (record { payloads = []; named = suc kind; front = []; rest = xs; joined = refl; leads = (refl, refl); here = payload_fault encrypted end (suc kind) xs g (some_type kind) fits e1 })
      go rest_fault (Ok l) e1 r1 =
          let t = payload_takes encrypted end (suc kind) xs l (some_type kind) small fits e1 in
          let less : length l.left < length xs = payload_shrinks encrypted end (suc kind) xs l e1 in
          let bad = bind_err (chain_at encrypted end steps l.next l.left) (λ qs. l.payload ∷ qs) f r1 in
          let rest = rest_fault l.next l.left (omega arith) t.small (octets_back t.front l.left (subst AreOctets t.joined fits)) bad in
          let clear : IsClear l.payload = λ q.
          let h = t.last (t.kind_is ∙ q) in
          let done : chain_at encrypted end steps l.next l.left ≡ Ok [] = ap (λ (n : ℕ). chain_at encrypted end steps n l.left) h.2 ∙ ap (chain_at encrypted end steps 0) h.1 in
          ok_no_err (sym done ∙ bad) in
          let onward : LeadsTo t.next rest.payloads rest.named rest.front = subst (λ (n : ℕ). LeadsTo n rest.payloads rest.named rest.front) (t.follows ∙ clear_follows l.payload t.next clear) rest.leads in
          record {
            payloads = l.payload ∷ rest.payloads;
            named = rest.named;
            front = t.front ++ rest.front;
            rest = rest.rest;
            joined = t.joined ∙ ap (λ (y : List ℕ). t.front ++ y) rest.joined ∙ sym (append_assoc t.front rest.front rest.rest);
            leads = (t.kind_is, clear, t.next, record { front = t.front; rest = rest.front; joined = refl; first = t.spelled; others = onward });
            here = rest.here;
          }

-- the fault of what no payload begins
here_again : (encrypted : Bool) (end steps kind : ℕ) (xs : List ℕ) (f : WireFault) → length xs ≤ steps → kind < 256 → AreOctets xs → IsFaultAt encrypted kind xs (end - length xs) f → chain_at encrypted end steps kind xs ≡ Err f
unfolding chain_at
here_again encrypted end steps zero xs f enough small fits h = elim h [
  | inl broken ↦ elim broken.0 [
    | inl over ↦
        let some : eqb (length xs) 0 ≡ false = ne_eqb _ _ (λ q. over.1 (nil_from_length xs q)) in
        ap (λ b. cond b (Ok []) (Err (faults.BadChain (end - length xs)))) some ∙ ap (λ (d : WireFault). Err d) (sym broken.1)
    | inr named ↦ absurd (named.0 refl)
  ]
  | inr bad ↦ absurd (bad.0 refl)
]
here_again encrypted end zero (suc kind) xs f enough small fits h =
    let read = fault_payload encrypted end (suc kind) xs f (some_type kind) small fits h in
    ap (λ (d : WireFault). Err d) (err_is {A = Linked} (faults.BadChain (end - length xs)) f (sym (none_left encrypted end (suc kind) xs (omega arith)) ∙ read))
here_again encrypted end (suc steps) (suc kind) xs f enough small fits h =
    ap (λ r. r >>> λ p. chain_at encrypted end steps p.next p.left >>> λ qs. Ok (p.payload ∷ qs)) (fault_payload encrypted end (suc kind) xs f (some_type kind) small fits h)

-- the type that a chain goes on with is an octet
pub fault_again : (encrypted : Bool) (end steps kind : ℕ) (ps : List Payload) (named : ℕ) (front rest xs : List ℕ) (f : WireFault) → length xs ≤ steps → kind < 256 → AreOctets xs → xs ≡ front ++ rest → LeadsTo kind ps named front
    → IsFaultAt encrypted named rest (end - length rest) f → chain_at encrypted end steps kind xs ≡ Err f
fault_again encrypted end steps kind [] named front rest xs f enough small fits joined leads h =
    let same : xs ≡ rest = joined ∙ ap (λ (y : List ℕ). y ++ rest) leads.1 in
    let P : ℕ → List ℕ → Type 0 = λ n y. IsFaultAt encrypted n y (end - length y) f in
    let there : IsFaultAt encrypted kind xs (end - length xs) f = subst (λ (y : List ℕ). P kind y) (sym same) (subst (λ (n : ℕ). P n rest) leads.0 h) in
    here_again encrypted end steps kind xs f enough small fits there
fault_again encrypted end zero kind (p ∷ ps) named front rest xs f enough small fits joined leads h =
    let j = leads.3 in
    absurd (omega (arith, part_long leads.2 j.first.second j.first.body j.front j.first.part, length-append j.front j.rest, ap length j.joined, length-append front rest, ap length joined, enough))
fault_again encrypted end (suc steps) kind (p ∷ ps) named front rest xs f enough small fits joined leads h =
    let j = leads.3 in
    let some : 0 < kind = omega (arith, type_some IsOctet p leads.2 j.first.second j.first.header, leads.0) in
    let whole : xs ≡ j.front ++ (j.rest ++ rest) = joined ∙ ap (λ (y : List ℕ). y ++ rest) j.joined ∙ append_assoc j.front j.rest rest in
    let left : length (j.rest ++ rest) ≤ steps = omega (arith, part_long leads.2 j.first.second j.first.body j.front j.first.part, length-append j.front (j.rest ++ rest), ap length whole, enough) in
    let whole_fits : AreOctets (j.front ++ (j.rest ++ rest)) = subst AreOctets whole fits in
    let head_fits : AreOctets j.front = octets_front j.front (j.rest ++ rest) whole_fits in
    let next_small : leads.2 < 256 = (subst AreOctets j.first.part.spelled head_fits).0 in
    let follows : following p leads.2 ≡ leads.2 = clear_follows p leads.2 leads.1 in
    chain_step encrypted end steps kind xs (link_of p (following p leads.2) (j.rest ++ rest)) some (payload_first encrypted end kind leads.2 p j.front (j.rest ++ rest) xs leads.0 whole j.first (λ q. absurd (leads.1 q)))
    ∙ ap (λ (n : ℕ). chain_at encrypted end steps n (j.rest ++ rest) >>> λ qs. Ok (p ∷ qs)) follows
    ∙ ap (λ r. r >>> λ qs. Ok (p ∷ qs)) (fault_again encrypted end steps leads.2 ps named j.rest rest (j.rest ++ rest) f left next_small (octets_back j.front (j.rest ++ rest) whole_fits) refl j.others h)
