-- The sequence numbers that a Child SA has taken, of which none is forgotten. A child is an SA pair of the
-- table, named by its serial.
use Rattle.std.specs.Prelude.{◌≡◌, ◌↔◌, ℕ, Option, Some, None, List, [], ◌∷◌, length, slice_get, take}
use Rattle.std.specs.FinSet as set
use Rattle.std.specs.Ordering.{nat_cmp}
use Rattle.replay.specs.Window.{Seen}
use Rattle.esp.specs.Delivery.{all_taken, taken_after}
use Rattle.sadb.specs.Database.{pair_at}
use Rattle.sadb.specs.declared.pair.Pair.{Pair}
use Rattle.traffic.specs.Receiving.{TakesNumberAt}
use Rattle.deliveries.specs.Passages.{Passage, Reception}

-- at this step a packet is judged as this sequence number of the Child SA's, which the child's window takes;
-- the table changes in nothing else
pub record IsJudgedAs (child number : ℕ) (p : Passage) : Type 0 where
  pub reception : Reception
  pub received : p.received ≡ Some reception
  pub takes : TakesNumberAt p.before reception.packet child number p.after

-- the number of the Child SA's that is judged at each step, if any
pub record AreNumbersOf (child : ℕ) (passages : List Passage) (numbers : List (Option ℕ)) : Type 0 where
  pub each : length numbers ≡ length passages
  pub exactly : (place n : ℕ) (p : Passage) → slice_get passages place ≡ Some p
      → (slice_get numbers place ≡ Some (Some n)) ↔ IsJudgedAs child n p

abbrev pub taken_by : Option Pair → set.FinSet nat_cmp
taken_by None = set.empty
taken_by (Some pair) = pair.inbound.window.taken

-- what the Child SA's window held taken when the list began: nothing, where the child came later
abbrev pub taken_at_first : ℕ → List Passage → set.FinSet nat_cmp
taken_at_first child [] = set.empty
taken_at_first child (p ∷ ps) = taken_by (pair_at p.before.pairs child)

-- that, and every sequence number judged at an earlier place
abbrev pub taken_before : ℕ → List Passage → List (Option ℕ) → ℕ → set.FinSet nat_cmp
taken_before child passages numbers place = taken_after (taken_at_first child passages) (take place numbers)

-- these, as a window of the SA pair's size that never forgot one
abbrev pub seen_before : ℕ → Pair → List Passage → List (Option ℕ) → ℕ → Seen
seen_before child pair passages numbers place =
    all_taken pair.inbound.window.size (taken_before child passages numbers place)
