-- Reading a chain of payloads, as the loop does.
use Rattle.std.proofs.Common.{◌≡◌, ◌≢◌, ℕ, zero, suc, ◌-◌, ◌≤◌, ◌<◌, Bool, true, false, cond, eqb, List, [], ◌∷◌, ◌++◌, length, Option, Some, None, Result, Ok, Err, refl, sym, ap, ◌∙◌, append_assoc, arith}
use Rattle.std.specs.Prelude.{ok_or, ◌&&◌}
use Rattle.std.proofs.lemmas.List.{append-nil}
use Rattle.wire.specs.declared.payload.Payload.{Payload}
use Rattle.wire.specs.declared.payload.Payload.TheVariants as payloads
use Rattle.wire.specs.declared.fault.WireFault.{WireFault}
use Rattle.wire.specs.declared.fault.WireFault.TheVariants as faults
use Rattle.wire.specs.declared.form.Form.{Form}
use Rattle.wire.specs.declared.form.Form.TheVariants as forms
use Rattle.wire.specs.Refusals.{fault_of_type}
use Rattle.wire.specs.Reading.{◌>>>◌, Answers, part_at, Piece, body_of, form_of, inside_of, open_of, payload_at, chain_at, Linked, link_of}
use Rattle.wire.proofs.Pieces.{part_shrinks}

-- the value of a step that was not refused
pub with_ok : {A B : Type 0} {P : Type 0} (r : Result A WireFault) (f : A → Result B WireFault) (y : B) → (r >>> f) ≡ Ok y → ((x : A) → r ≡ Ok x → f x ≡ Ok y → P) → P
with_ok (Ok x) f y e go = go x refl e
with_ok (Err d) f y e go = absurd cc

pub with_value : {A B : Type 0} {P : Type 0} (o : Option A) (d : WireFault) (f : A → Result B WireFault) (y : B) → (ok_or o d >>> f) ≡ Ok y → ((x : A) → o ≡ Some x → f x ≡ Ok y → P) → P
with_value (Some x) d f y e go = go x refl e
with_value None d f y e go = absurd cc

abbrev finished : {A : Type 0} → A → Result A WireFault
finished x = Ok x

pub ok_is : {A : Type 0} (x y : A) → finished x ≡ finished y → x ≡ y
ok_is x y e = cc

abbrev refused : {A : Type 0} → WireFault → Result A WireFault
refused f = Err f

pub err_is : {A : Type 0} (f g : WireFault) → refused {A = A} f ≡ refused g → f ≡ g
err_is f g e = cc

pub test_ok : {A : Type 0} (b : Bool) (d : WireFault) (x y : A) → cond b (Ok x) (Err d) ≡ Ok y → (b ≡ true) × (x ≡ y)
test_ok true d x y e = (refl, cc)
test_ok false d x y e = absurd cc

open_left : (form : Form) (kind offset : ℕ) (part : Piece) (left : List ℕ) (l : Linked) → open_of form kind offset part left ≡ Ok l → l.left ≡ left
open_left form kind offset part left l e =
    with_value (body_of form kind part.second part.inside) (fault_of_type kind offset) (λ payload. Ok (link_of payload part.first left)) l e (λ payload _ r. sym (ap (λ (x : Linked). x.left) (ok_is (link_of payload part.first left) l r)))

pub inside_left : (encrypted : Bool) (form : Form) (kind offset : ℕ) (part : Piece) (left : List ℕ) (l : Linked) → inside_of encrypted form kind offset part left ≡ Ok l → l.left ≡ left
inside_left encrypted forms.Sa kind offset part left l e = open_left forms.Sa kind offset part left l e
inside_left encrypted forms.Ke kind offset part left l e = open_left forms.Ke kind offset part left l e
inside_left encrypted forms.IdI kind offset part left l e = open_left forms.IdI kind offset part left l e
inside_left encrypted forms.IdR kind offset part left l e = open_left forms.IdR kind offset part left l e
inside_left encrypted forms.Auth kind offset part left l e = open_left forms.Auth kind offset part left l e
inside_left encrypted forms.Nonce kind offset part left l e = open_left forms.Nonce kind offset part left l e
inside_left encrypted forms.Notify kind offset part left l e = open_left forms.Notify kind offset part left l e
inside_left encrypted forms.Delete kind offset part left l e = open_left forms.Delete kind offset part left l e
inside_left encrypted forms.TsI kind offset part left l e = open_left forms.TsI kind offset part left l e
inside_left encrypted forms.TsR kind offset part left l e = open_left forms.TsR kind offset part left l e
inside_left encrypted forms.Sealed kind offset part left l e =
    sym (ap (λ (x : Linked). x.left) (test_ok (encrypted && eqb (length left) 0) (fault_of_type kind offset) (link_of (payloads.Sealed part.first part.inside) 0 left) l e).1)
inside_left encrypted (forms.Skipped k) kind offset part left l e = open_left (forms.Skipped k) kind offset part left l e
inside_left encrypted forms.Unknown kind offset part left l e = open_left forms.Unknown kind offset part left l e

pub payload_shrinks : (encrypted : Bool) (end kind : ℕ) (xs : List ℕ) (l : Linked) → payload_at encrypted end kind xs ≡ Ok l → length l.left < length xs
unfolding payload_at
payload_shrinks encrypted end kind xs l e =
    with_value (part_at xs) (faults.BadChain (end - length xs)) (λ part. inside_of encrypted (form_of kind) kind (end - length xs) part.0 part.1) l e (λ part e1 r1.
    rw (inside_left encrypted (form_of kind) kind (end - length xs) part.0 part.1 l r1) (part_shrinks xs part e1))

-- what was read before, and what is still read
abbrev pub chained : List Payload → Result (List Payload) WireFault → Result (List Payload) WireFault
chained front read = read >>> λ others. Ok (front ++ others)

regroup : (front : List Payload) (p : Payload) (read : Result (List Payload) WireFault) → chained front (read >>> λ others. Ok (p ∷ others)) ≡ chained (front ++ p ∷ []) read
regroup front p (Ok others) = ap (λ x. Ok x) (simp append_assoc)
regroup front p (Err f) = refl

pub record ChainSoFar (encrypted : Bool) (end : ℕ) (front : List Payload) (next : ℕ) (rest : List ℕ) (total : Result (List Payload) WireFault) : Type 0 where
  pub steps : ℕ
  pub enough : length rest ≤ steps
  pub reads : chained front (chain_at encrypted end steps next rest) ≡ total

pub chain_starts : (encrypted : Bool) (end next : ℕ) (rest : List ℕ) → ChainSoFar encrypted end [] next rest (chain_at encrypted end (length rest) next rest)
chain_starts encrypted end next rest = record { steps = length rest; enough = omega arith; reads = same (chain_at encrypted end (length rest) next rest) } where
  same : (r : Result (List Payload) WireFault) → chained [] r ≡ r
  same (Ok x) = refl
  same (Err f) = refl

-- a step of the chain, where there is one
chain_more : (encrypted : Bool) (end steps next : ℕ) (rest : List ℕ) → next ≢ 0 → 0 < length rest → length rest ≤ steps
    → (k : ℕ) × (steps ≡ suc k) × (chain_at encrypted end steps next rest ≡ (payload_at encrypted end next rest >>> λ p. chain_at encrypted end k p.next p.left >>> λ ps. Ok (p.payload ∷ ps)))
unfolding chain_at
chain_more encrypted end steps zero rest some long enough = absurd (some refl)
chain_more encrypted end zero (suc next) rest some long enough = absurd (omega arith)
chain_more encrypted end (suc k) (suc next) rest some long enough = (k, refl, refl)

pub chain_goes_on : (encrypted : Bool) (end : ℕ) (front : List Payload) (next : ℕ) (rest : List ℕ) (total : Result (List Payload) WireFault) (p : Payload) (behind : ℕ) (left : List ℕ)
    → next ≢ 0 → payload_at encrypted end next rest ≡ Ok (link_of p behind left) → ChainSoFar encrypted end front next rest total → ChainSoFar encrypted end (front ++ p ∷ []) behind left total
chain_goes_on encrypted end front next rest total p behind left some read so_far =
    let less : length left < length rest = payload_shrinks encrypted end next rest (link_of p behind left) read in
    let m = chain_more encrypted end so_far.steps next rest some (omega arith) so_far.enough in
    let step : chain_at encrypted end so_far.steps next rest ≡ (chain_at encrypted end m.0 behind left >>> λ ps. Ok (p ∷ ps)) =
    m.2 ∙ ap (λ r. r >>> λ x. chain_at encrypted end m.0 x.next x.left >>> λ ps. Ok (x.payload ∷ ps)) read in
    record { steps = m.0; enough = omega (arith, so_far.enough, m.1); reads = sym (regroup front p (chain_at encrypted end m.0 behind left)) ∙ ap (chained front) (sym step) ∙ so_far.reads }

-- where no octet is left, no payload is
pub none_left : (encrypted : Bool) (end kind : ℕ) (xs : List ℕ) → length xs ≡ 0 → payload_at encrypted end kind xs ≡ Err (faults.BadChain (end - length xs))
unfolding payload_at part_at
none_left encrypted end kind [] e = refl
none_left encrypted end kind (x ∷ xs) e = absurd (omega arith)

chain_refused : (encrypted : Bool) (end steps next : ℕ) (rest : List ℕ) (f : WireFault) → next ≢ 0 → length rest ≤ steps → payload_at encrypted end next rest ≡ Err f → chain_at encrypted end steps next rest ≡ Err f
unfolding chain_at
chain_refused encrypted end steps zero rest f some enough read = absurd (some refl)
chain_refused encrypted end zero (suc next) rest f some enough read =
    ap (λ (d : WireFault). Err d) (err_is {A = Linked} (faults.BadChain (end - length rest)) f (sym (none_left encrypted end (suc next) rest (omega arith)) ∙ read))
chain_refused encrypted end (suc k) (suc next) rest f some enough read = ap (λ r. r >>> λ x. chain_at encrypted end k x.next x.left >>> λ ps. Ok (x.payload ∷ ps)) read

pub chain_exits : {X Y : Type 0} (f : WireFault) (view : X → Linked) (same : Y → List Payload) (encrypted : Bool) (end : ℕ) (front : List Payload) (next : ℕ) (rest : List ℕ) (total : Result (List Payload) WireFault)
    → next ≢ 0 → Answers view (Err f) (payload_at encrypted end next rest) → ChainSoFar encrypted end front next rest total → Answers same (Err f) total
chain_exits f view same encrypted end front next rest total some read so_far =
    λ other. sym so_far.reads ∙ ap (chained front) (chain_refused encrypted end so_far.steps next rest f some so_far.enough (read other))

-- no payload is named
pub chain_ends : (encrypted : Bool) (end : ℕ) (front : List Payload) (rest : List ℕ) (total : Result (List Payload) WireFault)
    → eqb (length rest) 0 ≡ true → ChainSoFar encrypted end front 0 rest total → total ≡ Ok front
unfolding chain_at
chain_ends encrypted end front rest total e so_far =
    sym so_far.reads ∙ ap (chained front) (done so_far.steps) ∙ ap (λ x. Ok x) (append-nil front) where
      done : (steps : ℕ) → chain_at encrypted end steps 0 rest ≡ Ok []
      done steps = rw e refl

pub chain_trails : (encrypted : Bool) (end : ℕ) (front : List Payload) (rest : List ℕ) (total : Result (List Payload) WireFault)
    → eqb (length rest) 0 ≡ false → ChainSoFar encrypted end front 0 rest total → total ≡ Err (faults.BadChain (end - length rest))
unfolding chain_at
chain_trails encrypted end front rest total e so_far = sym so_far.reads ∙ ap (chained front) (trails so_far.steps) where
  trails : (steps : ℕ) → chain_at encrypted end steps 0 rest ≡ Err (faults.BadChain (end - length rest))
  trails steps = rw e refl
