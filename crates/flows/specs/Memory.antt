-- What is remembered of flows: what each place holds.
use Rattle.std.specs.Prelude.{◌≡◌, ◌≢◌, ◌⊎◌, ◌<◌, ◌≤◌, ◌==◌, ℕ, List, Option, Some, None, if◌then◌else◌, length, slice_get}
use Rattle.policy.specs.declared.entry.Entry.{Entry}
use Rattle.policy.specs.declared.flow.Flow.{Flow}
use Rattle.sadb.specs.Database.{PairMap}
use Rattle.flows.specs.declared.memory.Answer.{Answer}
use Rattle.flows.specs.declared.memory.Note.{Note}
use Rattle.flows.specs.declared.treatment.Treatment.{Treatment}
use Rattle.flows.specs.Places.{place_of}
use Rattle.flows.specs.Treatments.{Counts, IsTreatment}

-- a place holds the answer
pub record Holds (memory : List (Option Answer)) (answer : Answer) : Type 0 where
  pub place : ℕ
  pub there : slice_get memory place ≡ Some (Some answer)

-- it stands at the place of its flow, where it is looked for
abbrev pub IsInPlace : List (Option Answer) → Answer → Type 0
IsInPlace memory answer = slice_get memory (place_of answer.flow) ≡ Some (Some answer)

-- all places but one hold what they held
abbrev pub StaysButAt : ℕ → List (Option Answer) → List (Option Answer) → Type 0
StaysButAt place old new = (other : ℕ) → other ≢ place → slice_get new other ≡ slice_get old other

-- where there were places, all but that of a flow hold what they held
abbrev pub StaysBut : Flow → List (Option Answer) → List (Option Answer) → Type 0
StaysBut flow old new = 0 < length old → StaysButAt (place_of flow) old new

abbrev pub HoldsNone : List (Option Answer) → Type 0
HoldsNone memory = (answer : Answer) → ¬ Holds memory answer

-- nothing is held that was not
abbrev pub HoldsNoMore : List (Option Answer) → List (Option Answer) → Type 0
HoldsNoMore old new = (answer : Answer) → Holds new answer → Holds old answer

-- nothing else is held that was not
abbrev pub Notes : List (Option Answer) → Answer → List (Option Answer) → Type 0
Notes old noted new = (answer : Answer) → Holds new answer → (answer ≡ noted) ⊎ Holds old answer

-- The answer is remembered: it is held, and the pair that it names, if it names one, is Live.
pub record Remembers (pairs : PairMap) (memory : List (Option Answer)) (flow : Flow) (treatment : Treatment) : Type 0 where
  pub held : Holds memory (record { flow = flow; treatment = treatment })
  pub counts : Counts pairs treatment

-- each answer that is remembered is what a look-up would find
abbrev pub AllRight : List Entry → PairMap → List (Option Answer) → Type 0
AllRight policy pairs memory = (flow : Flow) (treatment : Treatment) → Remembers pairs memory flow treatment → IsTreatment policy pairs flow treatment

-- the memory has its 4096 places, or none
abbrev pub HasItsPlaces : List (Option Answer) → Type 0
HasItsPlaces memory = 0 < length memory → length memory ≡ 4096

-- what a look-up would find of the flow is held, where it is looked for
pub record HoldsTreatmentOf (policy : List Entry) (pairs : PairMap) (memory : List (Option Answer)) (flow : Flow) : Type 0 where
  pub treatment : Treatment
  pub found : IsTreatment policy pairs flow treatment
  pub held : IsInPlace memory (record { flow = flow; treatment = treatment })

-- How the answers are kept. No public clause speaks of this.

-- the answer of a note that was made since the memory last forgot
abbrev pub answer_in : ℕ → Option Note → Option Answer
answer_in epoch None = None
answer_in epoch (Some note) = if note.epoch == epoch then Some note.answer else None

-- no note is of a later time, and all places are there or none
pub record IsKept (epoch : ℕ) (places : List (Option Note)) : Type 0 where
  pub past : (place : ℕ) (note : Note) → slice_get places place ≡ Some (Some note) → note.epoch ≤ epoch
  pub whole : 0 < length places → length places ≡ 4096
