-- What a step changes of what the machine holds: its result is determined, it is at most two moves, and
-- only a `Tick` touches more than one IKE SA.
use Rattle.std.specs.Prelude.{◌≡◌, false, true, ℕ, List}
use Rattle.base.specs.Octets.{Octets}
use Rattle.policy.specs.declared.entry.Entry.{Entry}
use Rattle.suite.specs.declared.keys.Keys.{Keys}
use Rattle.sadb.specs.Contents.{table_content}
use Rattle.sadb.specs.Database.{Database, IsSoundTable}
use Rattle.association.specs.Receiving.{Opening}
use Rattle.effects.specs.Taking.{Meaning}
use Rattle.ike.specs.Contents.{machine_content}
use Rattle.ike.specs.Faults.{is_want_of_memory}
use Rattle.ike.specs.LawCases.{EachStep, IsStep}
use Rattle.ike.specs.Lengths.{HoldWholeKeys, IsTold}
use Rattle.ike.specs.Machines.{Machine}
use Rattle.ike.specs.Moves.{HasFresh, MovesAt, OpensFresh}
use Rattle.ike.specs.Outputs.{IsQuiet}
use Rattle.ike.specs.Pairs.{ChangesOne}
use Rattle.ike.specs.Soundness.{IsSoundMachine}
use Rattle.ike.specs.StepLaws.{KeepsLaws}
use Rattle.ike.specs.Steps.{is_tick, InputView, Refuses, Steps}
use Rattle.ike.specs.declared.fault.IkeFault.{IkeFault}
use Rattle.ike.specs.declared.output.Stepped.{Stepped}

-- ---- one_association_is_changed
abbrev pub OneAssociationIsChanged : Type 0
OneAssociationIsChanged = EachStep (λ it.
    is_tick it.input ≡ false
    → IsStep it
    → ChangesOne it.old.held it.new.held it.table it.new_table)

-- ---- what_is_quiet_changes_nothing
abbrev pub WhatIsQuietChangesNothing : Type 0
WhatIsQuietChangesNothing = EachStep (λ it.
    IsStep it
    → IsQuiet it.stepped.output
    → (it.new ≡ it.old) × (it.new_table ≡ it.table))

-- ---- steps_are_determined
abbrev pub StepsAreDetermined : Type 0
StepsAreDetermined = (meaning : Meaning) (entries : List Entry) (input : InputView) (old other a b : Machine)
    (table another a_table b_table : Database) (one two : Stepped)
    → IsTold meaning input
    → HoldWholeKeys old.held
    → machine_content old ≡ machine_content other
    → table_content table ≡ table_content another
    → Steps meaning entries input old table one a a_table
    → Steps meaning entries input other another two b b_table
    → (one ≡ two) × (machine_content a ≡ machine_content b) × (table_content a_table ≡ table_content b_table)

abbrev pub WhatIsDoneIsNotRefused : Type 0
WhatIsDoneIsNotRefused = (meaning : Meaning) (entries : List Entry) (input : InputView)
    (old other new : Machine) (table another new_table : Database) (stepped : Stepped) (reason : IkeFault)
    → machine_content old ≡ machine_content other
    → table_content table ≡ table_content another
    → Steps meaning entries input old table stepped new new_table
    → Refuses meaning entries input other another reason
    → is_want_of_memory reason ≡ true

abbrev pub RefusalsAreDetermined : Type 0
RefusalsAreDetermined = (meaning : Meaning) (entries : List Entry) (input : InputView) (old other : Machine)
    (table another : Database) (one two : IkeFault)
    → machine_content old ≡ machine_content other
    → table_content table ≡ table_content another
    → is_want_of_memory one ≡ false
    → is_want_of_memory two ≡ false
    → Refuses meaning entries input old table one
    → Refuses meaning entries input other another two
    → one ≡ two

-- ---- steps_are_moves
abbrev pub StepsAreMoves : Type 0
StepsAreMoves = EachStep (λ it. (serial : ℕ)
    → IsSoundMachine it.old it.table
    → IsStep it
    → MovesAt it.meaning it.input it.old.held it.stepped it.new.held serial)

-- ---- fresh_octets_open
abbrev pub FreshOctetsOpen : (Keys → Octets → Octets → Octets → Octets) → Opening → Type 0
FreshOctetsOpen body_of plain_of = (meaning : Meaning) (input : InputView)
    → meaning.body_of ≡ body_of
    → meaning.plain_of ≡ plain_of
    → HasFresh input
    → OpensFresh meaning input

-- ---- steps_keep_their_laws
abbrev pub StepsKeepTheirLaws : Type 0
StepsKeepTheirLaws = EachStep (λ it.
    IsSoundTable it.table
    → IsSoundMachine it.old it.table
    → IsStep it
    → KeepsLaws it)
