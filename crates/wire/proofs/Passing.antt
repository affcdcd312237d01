-- Checking items one after the other, as loops do that keep of them only what is seen.
use Rattle.std.proofs.Common.{◌≡◌, ℕ, ◌+◌, ◌<◌, Bool, true, false, eqb, List, [], ◌∷◌, ◌++◌, length, Option, Some, None, refl, ap, ◌∙◌}
use Rattle.std.specs.Prelude.{Err}
use Rattle.std.proofs.lemmas.List.{length-append}
use Rattle.wire.specs.Reading.{part_at, goes_on, each_of, marked_of, Gives, Piece, Reads}
use Rattle.wire.specs.declared.reader.Unread.{Unread}
use Rattle.wire.specs.declared.reader.Unread.TheVariants.{Malformed, Memory}
use Rattle.wire.proofs.Loops.{EachSoFar, MarkedSoFar, each_starts, each_goes_on, each_fails, each_ends, marked_starts, marked_goes_on, marked_short, marked_astray, marked_fails, marked_ends, marked_trails}

-- one item more is seen so, whatever was before
abbrev pub SeesNext : {A X : Type 0} → (List A → X) → X → A → X → Type 0
SeesNext {A = A} view seen a next = (before : List A) → view before ≡ seen → view (before ++ a ∷ []) ≡ next

pub counts_next : {A : Type 0} (count : ℕ) (a : A) → SeesNext (λ (items : List A). length items) count a (count + 1)
counts_next count a = λ before e. length-append before (a ∷ []) ∙ ap (λ (n : ℕ). n + 1) e

-- items of which this is seen were passed over, and with them before it the rest is read as the whole is
pub record EachFound {A X : Type 0} (item : List ℕ → Option (A × List ℕ)) (view : List A → X) (seen : X) (rest : List ℕ) (total : Option (List A)) : Type 0 where
  pub front : List A
  pub is : view front ≡ seen
  pub so_far : EachSoFar item front rest total

pub each_begins : {A X : Type 0} (item : List ℕ → Option (A × List ℕ)) (view : List A → X) (rest : List ℕ) → EachFound item view (view []) rest (each_of item (length rest) rest)
each_begins item view rest = record { front = []; is = refl; so_far = each_starts item rest }

pub each_passes : {A X : Type 0} (item : List ℕ → Option (A × List ℕ)) (view : List A → X) (seen next : X) (rest : List ℕ) (total : Option (List A)) (a : A) (left : List ℕ)
    → 0 < length rest → length left < length rest → item rest ≡ Some (a, left) → SeesNext view seen a next → EachFound item view seen rest total → EachFound item view next left total
each_passes item view seen next rest total a left some less read sees found = record {
  front = found.front ++ a ∷ [];
  is = sees found.front found.is;
  so_far = each_goes_on item found.front rest total a left some less read found.so_far;
}

pub each_stops : {A X : Type 0} (item : List ℕ → Option (A × List ℕ)) (view : List A → X) (seen : X) (rest : List ℕ) (total : Option (List A))
    → 0 < length rest → item rest ≡ None → EachFound item view seen rest total → total ≡ None
each_stops item view seen rest total some read found = each_fails item found.front rest total some read found.so_far

pub each_is_found : {A X : Type 0} (item : List ℕ → Option (A × List ℕ)) (view : List A → X) (seen : X) (rest : List ℕ) (total : Option (List A))
    → length rest ≡ 0 → EachFound item view seen rest total → (items : List A) × (total ≡ Some items) × (view items ≡ seen)
each_is_found item view seen rest total none found = (found.front, each_ends item found.front rest total none found.so_far, found.is)

-- the same of parts
pub record PartsFound {A X : Type 0} (more : ℕ) (item : List ℕ → Option A) (view : List A → X) (seen : X) (another : Bool) (rest : List ℕ) (total : Option (List A)) : Type 0 where
  pub front : List A
  pub is : view front ≡ seen
  pub so_far : MarkedSoFar more item front another rest total

pub parts_begin : {A X : Type 0} (more : ℕ) (item : List ℕ → Option A) (view : List A → X) (rest : List ℕ) → PartsFound more item view (view []) true rest (marked_of more item (length rest) true rest)
parts_begin more item view rest = record { front = []; is = refl; so_far = marked_starts more item rest }

pub parts_pass : {A X : Type 0} (more : ℕ) (item : List ℕ → Option A) (view : List A → X) (seen next : X) (rest : List ℕ) (total : Option (List A)) (part : Piece) (left : List ℕ) (another : Bool) (a : A)
    → length left < length rest → part_at rest ≡ Some (part, left) → goes_on more part.first ≡ Some another → item part.inside ≡ Some a → SeesNext view seen a next
    → PartsFound more item view seen true rest total → PartsFound more item view next another left total
parts_pass more item view seen next rest total part left another a less read mark inside sees found = record {
  front = found.front ++ a ∷ [];
  is = sees found.front found.is;
  so_far = marked_goes_on more item found.front rest total part left another a less read mark inside found.so_far;
}

pub parts_short : {A X : Type 0} (more : ℕ) (item : List ℕ → Option A) (view : List A → X) (seen : X) (rest : List ℕ) (total : Option (List A)) → part_at rest ≡ None → PartsFound more item view seen true rest total → total ≡ None
parts_short more item view seen rest total read found = marked_short more item found.front rest total read found.so_far

pub parts_astray : {A X : Type 0} (more : ℕ) (item : List ℕ → Option A) (view : List A → X) (seen : X) (rest : List ℕ) (total : Option (List A)) (part : Piece) (left : List ℕ)
    → part_at rest ≡ Some (part, left) → goes_on more part.first ≡ None → PartsFound more item view seen true rest total → total ≡ None
parts_astray more item view seen rest total part left read mark found = marked_astray more item found.front rest total part left read mark found.so_far

pub parts_stop : {A X : Type 0} (more : ℕ) (item : List ℕ → Option A) (view : List A → X) (seen : X) (rest : List ℕ) (total : Option (List A)) (part : Piece) (left : List ℕ) (another : Bool)
    → part_at rest ≡ Some (part, left) → goes_on more part.first ≡ Some another → item part.inside ≡ None → PartsFound more item view seen true rest total → total ≡ None
parts_stop more item view seen rest total part left another read mark inside found = marked_fails more item found.front rest total part left another read mark inside found.so_far

pub parts_are_found : {A X : Type 0} (more : ℕ) (item : List ℕ → Option A) (view : List A → X) (seen : X) (rest : List ℕ) (total : Option (List A))
    → eqb (length rest) 0 ≡ true → PartsFound more item view seen false rest total → (items : List A) × (total ≡ Some items) × (view items ≡ seen)
parts_are_found more item view seen rest total none found = (found.front, marked_ends more item found.front rest total none found.so_far, found.is)

pub parts_trail : {A X : Type 0} (more : ℕ) (item : List ℕ → Option A) (view : List A → X) (seen : X) (rest : List ℕ) (total : Option (List A)) → eqb (length rest) 0 ≡ false → PartsFound more item view seen false rest total → total ≡ None
parts_trail more item view seen rest total some found = marked_trails more item found.front rest total some found.so_far

-- where there is no memory to want, what fails is not in the grammar
pub no_item : {X Y : Type 0} (e : Unread) (view : X → Y) (left : List ℕ) (read : Option (Y × List ℕ)) → e ≡ Malformed → Reads view left (Err e) read → read ≡ None
no_item Malformed view left read is fails = fails
no_item Memory view left read is fails = absurd cc

pub no_mark : (e : Unread) (more mark : ℕ) → e ≡ Malformed → Gives (λ (x : Bool). x) (Err e) (goes_on more mark) → goes_on more mark ≡ None
no_mark Malformed more mark is fails = fails
no_mark Memory more mark is fails = absurd cc
