-- Reading items one after the other, as loops do.
use Rattle.std.proofs.Common.{◌≡◌, ℕ, zero, suc, ◌≤◌, ◌<◌, Bool, true, false, eqb, List, [], ◌∷◌, ◌++◌, length, Option, Some, None, refl, sym, ap, ◌∙◌, append_assoc, arith}
use Rattle.std.proofs.lemmas.List.{append-nil}
use Rattle.std.proofs.lemmas.Bool.Decides.{nat_tests}
use Rattle.std.specs.Prelude.{Err}
use Rattle.wire.specs.declared.reader.Unread.{Unread}
use Rattle.wire.specs.declared.reader.Unread.TheVariants.{Malformed, Memory}
use Rattle.wire.specs.Reading.{◌>>=◌, Gives, Reads, each_of, marked_of, part_at, goes_on, Piece}

-- what was read before, and what is still read
abbrev pub with_front : {A : Type 0} → List A → Option (List A) → Option (List A)
with_front front read = read >>= λ others. Some (front ++ others)

regroup : {A : Type 0} (front : List A) (a : A) (read : Option (List A)) → with_front front (read >>= λ others. Some (a ∷ others)) ≡ with_front (front ++ a ∷ []) read
regroup front a (Some others) = ap (λ x. Some x) (simp append_assoc)
regroup front a None = refl

pub positive : (n : ℕ) → 0 < n → eqb n 0 ≡ false
positive n h = grind (arith, nat_tests)

-- with these items before it, the rest is read as the whole is
pub record EachSoFar {A : Type 0} (item : List ℕ → Option (A × List ℕ)) (front : List A) (rest : List ℕ) (total : Option (List A)) : Type 0 where
  pub steps : ℕ
  pub enough : length rest ≤ steps
  pub reads : with_front front (each_of item steps rest) ≡ total

pub each_starts : {A : Type 0} (item : List ℕ → Option (A × List ℕ)) (rest : List ℕ) → EachSoFar item [] rest (each_of item (length rest) rest)
each_starts item rest = record { steps = length rest; enough = omega arith; reads = same (each_of item (length rest) rest) } where
  same : {A : Type 0} (o : Option (List A)) → with_front [] o ≡ o
  same (Some x) = refl
  same None = refl

pub each_more : {A : Type 0} (item : List ℕ → Option (A × List ℕ)) (steps : ℕ) (rest : List ℕ) → 0 < length rest → length rest ≤ steps
    → (k : ℕ) × (steps ≡ suc k) × (each_of item steps rest ≡ (item rest >>= λ a. each_of item k a.1 >>= λ others. Some (a.0 ∷ others)))
unfolding each_of
each_more item zero rest some enough = absurd (omega arith)
each_more item (suc k) rest some enough = (k, refl, rw (positive (length rest) some) refl)

pub each_goes_on : {A : Type 0} (item : List ℕ → Option (A × List ℕ)) (front : List A) (rest : List ℕ) (total : Option (List A)) (a : A) (left : List ℕ)
    → 0 < length rest → length left < length rest → item rest ≡ Some (a, left) → EachSoFar item front rest total → EachSoFar item (front ++ a ∷ []) left total
each_goes_on item front rest total a left some less read so_far =
    let m = each_more item so_far.steps rest some so_far.enough in
    let next : each_of item so_far.steps rest ≡ (each_of item m.0 left >>= λ others. Some (a ∷ others)) = m.2 ∙ ap (λ o. o >>= λ x. each_of item m.0 x.1 >>= λ others. Some (x.0 ∷ others)) read in
    record { steps = m.0; enough = omega (arith, so_far.enough, m.1); reads = sym (regroup front a (each_of item m.0 left)) ∙ ap (with_front front) (sym next) ∙ so_far.reads }

pub each_fails : {A : Type 0} (item : List ℕ → Option (A × List ℕ)) (front : List A) (rest : List ℕ) (total : Option (List A))
    → 0 < length rest → item rest ≡ None → EachSoFar item front rest total → total ≡ None
each_fails item front rest total some read so_far =
    let m = each_more item so_far.steps rest some so_far.enough in
    let next : each_of item so_far.steps rest ≡ None = m.2 ∙ ap (λ o. o >>= λ x. each_of item m.0 x.1 >>= λ others. Some (x.0 ∷ others)) read in
    sym so_far.reads ∙ ap (with_front front) next

pub each_none : {A : Type 0} (item : List ℕ → Option (A × List ℕ)) (steps : ℕ) (rest : List ℕ) → length rest ≡ 0 → each_of item steps rest ≡ Some []
unfolding each_of
each_none item zero rest e = rw e refl
each_none item (suc k) rest e = rw e refl

pub each_ends : {A : Type 0} (item : List ℕ → Option (A × List ℕ)) (front : List A) (rest : List ℕ) (total : Option (List A))
    → length rest ≡ 0 → EachSoFar item front rest total → total ≡ Some front
each_ends item front rest total e so_far =
    sym so_far.reads ∙ ap (with_front front) (each_none item so_far.steps rest e) ∙ ap (λ x. Some x) (append-nil front)

-- an item that is not read ends the reading
pub each_exits : {A X Y : Type 0} (e : Unread) (view : X → A) (same : Y → List A) (item : List ℕ → Option (A × List ℕ)) (front : List A) (rest left : List ℕ) (total : Option (List A))
    → 0 < length rest → Reads view left (Err e) (item rest) → EachSoFar item front rest total → Gives same (Err e) total
each_exits Memory view same item front rest left total some read so_far = tt
each_exits Malformed view same item front rest left total some read so_far = each_fails item front rest total some read so_far

-- the same of parts
pub record MarkedSoFar {A : Type 0} (more : ℕ) (item : List ℕ → Option A) (front : List A) (another : Bool) (rest : List ℕ) (total : Option (List A)) : Type 0 where
  pub steps : ℕ
  pub enough : length rest ≤ steps
  pub reads : with_front front (marked_of more item steps another rest) ≡ total

pub marked_starts : {A : Type 0} (more : ℕ) (item : List ℕ → Option A) (rest : List ℕ) → MarkedSoFar more item [] true rest (marked_of more item (length rest) true rest)
marked_starts more item rest = record { steps = length rest; enough = omega arith; reads = same (marked_of more item (length rest) true rest) } where
  same : {A : Type 0} (o : Option (List A)) → with_front [] o ≡ o
  same (Some x) = refl
  same None = refl

marked_more : {A : Type 0} (more : ℕ) (item : List ℕ → Option A) (steps : ℕ) (rest : List ℕ) → 0 < length rest → length rest ≤ steps
    → (k : ℕ) × (steps ≡ suc k) × (marked_of more item steps true rest ≡ (part_at rest >>= λ part. goes_on more part.0.first >>= λ another. item part.0.inside >>= λ a. marked_of more item k another part.1 >>= λ others. Some (a ∷ others)))
unfolding marked_of
marked_more more item zero rest some enough = absurd (omega arith)
marked_more more item (suc k) rest some enough = (k, refl, refl)

pub marked_goes_on : {A : Type 0} (more : ℕ) (item : List ℕ → Option A) (front : List A) (rest : List ℕ) (total : Option (List A)) (part : Piece) (left : List ℕ) (another : Bool) (a : A)
    → length left < length rest → part_at rest ≡ Some (part, left) → goes_on more part.first ≡ Some another → item part.inside ≡ Some a
    → MarkedSoFar more item front true rest total → MarkedSoFar more item (front ++ a ∷ []) another left total
marked_goes_on more item front rest total part left another a less read mark inside so_far =
    let m = marked_more more item so_far.steps rest (omega (arith, less)) so_far.enough in
    let next : marked_of more item so_far.steps true rest ≡ (marked_of more item m.0 another left >>= λ others. Some (a ∷ others)) =
    m.2
    ∙ ap (λ o. o >>= λ p. goes_on more p.0.first >>= λ b. item p.0.inside >>= λ x. marked_of more item m.0 b p.1 >>= λ others. Some (x ∷ others)) read
    ∙ ap (λ o. o >>= λ b. item part.inside >>= λ x. marked_of more item m.0 b left >>= λ others. Some (x ∷ others)) mark
    ∙ ap (λ o. o >>= λ x. marked_of more item m.0 another left >>= λ others. Some (x ∷ others)) inside in
    record { steps = m.0; enough = omega (arith, so_far.enough, m.1); reads = sym (regroup front a (marked_of more item m.0 another left)) ∙ ap (with_front front) (sym next) ∙ so_far.reads }

fails_with : {A : Type 0} (front : List A) (read total : Option (List A)) → read ≡ None → with_front front read ≡ total → total ≡ None
fails_with front read total none reads = sym reads ∙ ap (with_front front) none

pub marked_short : {A : Type 0} (more : ℕ) (item : List ℕ → Option A) (front : List A) (rest : List ℕ) (total : Option (List A))
    → part_at rest ≡ None → MarkedSoFar more item front true rest total → total ≡ None
unfolding marked_of
marked_short more item front rest total read so_far = fails_with front (marked_of more item so_far.steps true rest) total (none so_far.steps) so_far.reads where
  none : (steps : ℕ) → marked_of more item steps true rest ≡ None
  none zero = refl
  none (suc k) = ap (λ o. o >>= λ p. goes_on more p.0.first >>= λ b. item p.0.inside >>= λ x. marked_of more item k b p.1 >>= λ others. Some (x ∷ others)) read

pub marked_astray : {A : Type 0} (more : ℕ) (item : List ℕ → Option A) (front : List A) (rest : List ℕ) (total : Option (List A)) (part : Piece) (left : List ℕ)
    → part_at rest ≡ Some (part, left) → goes_on more part.first ≡ None → MarkedSoFar more item front true rest total → total ≡ None
unfolding marked_of
marked_astray more item front rest total part left read mark so_far = fails_with front (marked_of more item so_far.steps true rest) total (none so_far.steps) so_far.reads where
  none : (steps : ℕ) → marked_of more item steps true rest ≡ None
  none zero = refl
  none (suc k) =
      ap (λ o. o >>= λ p. goes_on more p.0.first >>= λ b. item p.0.inside >>= λ x. marked_of more item k b p.1 >>= λ others. Some (x ∷ others)) read
      ∙ ap (λ o. o >>= λ b. item part.inside >>= λ x. marked_of more item k b left >>= λ others. Some (x ∷ others)) mark

pub marked_fails : {A : Type 0} (more : ℕ) (item : List ℕ → Option A) (front : List A) (rest : List ℕ) (total : Option (List A)) (part : Piece) (left : List ℕ) (another : Bool)
    → part_at rest ≡ Some (part, left) → goes_on more part.first ≡ Some another → item part.inside ≡ None → MarkedSoFar more item front true rest total → total ≡ None
unfolding marked_of
marked_fails more item front rest total part left another read mark inside so_far = fails_with front (marked_of more item so_far.steps true rest) total (none so_far.steps) so_far.reads where
  none : (steps : ℕ) → marked_of more item steps true rest ≡ None
  none zero = refl
  none (suc k) =
      ap (λ o. o >>= λ p. goes_on more p.0.first >>= λ b. item p.0.inside >>= λ x. marked_of more item k b p.1 >>= λ others. Some (x ∷ others)) read
      ∙ ap (λ o. o >>= λ b. item part.inside >>= λ x. marked_of more item k b left >>= λ others. Some (x ∷ others)) mark
      ∙ ap (λ o. o >>= λ x. marked_of more item k another left >>= λ others. Some (x ∷ others)) inside

pub marked_ends : {A : Type 0} (more : ℕ) (item : List ℕ → Option A) (front : List A) (rest : List ℕ) (total : Option (List A))
    → eqb (length rest) 0 ≡ true → MarkedSoFar more item front false rest total → total ≡ Some front
unfolding marked_of
marked_ends more item front rest total e so_far = sym so_far.reads ∙ ap (with_front front) (done so_far.steps) ∙ ap (λ x. Some x) (append-nil front) where
  done : (steps : ℕ) → marked_of more item steps false rest ≡ Some []
  done zero = rw e refl
  done (suc k) = rw e refl

pub marked_trails : {A : Type 0} (more : ℕ) (item : List ℕ → Option A) (front : List A) (rest : List ℕ) (total : Option (List A))
    → eqb (length rest) 0 ≡ false → MarkedSoFar more item front false rest total → total ≡ None
unfolding marked_of
marked_trails more item front rest total e so_far = fails_with front (marked_of more item so_far.steps false rest) total (none so_far.steps) so_far.reads where
  none : (steps : ℕ) → marked_of more item steps false rest ≡ None
  none zero = rw e refl
  none (suc k) = rw e refl

-- the exits of the loop
pub short_exits : {A X Y : Type 0} (e : Unread) (view : X → Piece) (same : Y → List A) (more : ℕ) (item : List ℕ → Option A) (front : List A) (rest left : List ℕ) (total : Option (List A))
    → Reads view left (Err e) (part_at rest) → MarkedSoFar more item front true rest total → Gives same (Err e) total
short_exits Memory view same more item front rest left total read so_far = tt
short_exits Malformed view same more item front rest left total read so_far = marked_short more item front rest total read so_far

pub astray_exits : {A X Y : Type 0} (e : Unread) (view : X → Bool) (same : Y → List A) (more : ℕ) (item : List ℕ → Option A) (front : List A) (rest : List ℕ) (total : Option (List A)) (part : Piece) (left : List ℕ)
    → part_at rest ≡ Some (part, left) → Gives view (Err e) (goes_on more part.first) → MarkedSoFar more item front true rest total → Gives same (Err e) total
astray_exits Memory view same more item front rest total part left read mark so_far = tt
astray_exits Malformed view same more item front rest total part left read mark so_far = marked_astray more item front rest total part left read mark so_far

pub item_exits : {A X Y : Type 0} (e : Unread) (view : X → A) (same : Y → List A) (more : ℕ) (item : List ℕ → Option A) (front : List A) (rest : List ℕ) (total : Option (List A)) (part : Piece) (left : List ℕ) (another : Bool)
    → part_at rest ≡ Some (part, left) → goes_on more part.first ≡ Some another → Gives view (Err e) (item part.inside) → MarkedSoFar more item front true rest total → Gives same (Err e) total
item_exits Memory view same more item front rest total part left another read mark inside so_far = tt
item_exits Malformed view same more item front rest total part left another read mark inside so_far = marked_fails more item front rest total part left another read mark inside so_far
