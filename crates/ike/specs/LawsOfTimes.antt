-- What is due, and when it comes.
use Rattle.std.specs.Prelude.{◌≡◌, ◌<◌, ◌^◌, [], false, length, max, true, ℕ, List, Option}
use Rattle.policy.specs.declared.entry.Entry.{Entry}
use Rattle.sadb.specs.Database.{Database}
use Rattle.setup.specs.declared.config.Config.{Config}
use Rattle.moments.specs.Due.{SomethingComes}
use Rattle.moments.specs.Next.{IsBefore, NothingIsDueBefore, SomethingIsDue}
use Rattle.effects.specs.Taking.{Meaning}
use Rattle.ike.specs.Faults.{is_want_of_memory}
use Rattle.ike.specs.LawCases.{EachStep, IsStep}
use Rattle.ike.specs.Machines.{new_machine, Machine}
use Rattle.ike.specs.Moments.{ComesTo, IsTimely, StaysAt}
use Rattle.ike.specs.Outputs.{plain_step}
use Rattle.ike.specs.Soundness.{IsSoundMachine}
use Rattle.ike.specs.Steps.{is_tick, Refuses, Steps, Tick}
use Rattle.ike.specs.Ticking.{TakesMoment}
use Rattle.ike.specs.declared.fault.IkeFault.{IkeFault}
use Rattle.ike.specs.declared.output.IkeOutput.TheVariants as output
use Rattle.ike.specs.declared.output.Stepped.{Stepped}

-- ---- what_is_due_comes_in_time
abbrev pub NewMachinesAreTimely : Type 0
NewMachinesAreTimely = (config : Config) → IsTimely (new_machine config)

abbrev pub MachinesStayTimely : Type 0
MachinesStayTimely = EachStep (λ it.
    IsTimely it.old
    → IsStep it
    → IsTimely it.new)

abbrev pub WhatIsDueComes : Type 0
WhatIsDueComes = (meaning : Meaning) (entries : List Entry) (moment : ℕ) (old : Machine) (table : Database)
    (stepped : Stepped) (new : Machine) (new_table : Database)
    → Steps meaning entries (Tick moment) old table stepped new new_table
    → ComesTo (max old.moment moment) old table stepped new new_table

abbrev pub MomentsAreRefusedForMemoryAlone : Type 0
MomentsAreRefusedForMemoryAlone = (meaning : Meaning) (entries : List Entry) (moment : ℕ) (machine : Machine)
    (table : Database) (reason : IkeFault)
    → Refuses meaning entries (Tick moment) machine table reason
    → is_want_of_memory reason ≡ true

abbrev pub MomentsAreRefusedForWhatComes : Type 0
MomentsAreRefusedForWhatComes = (meaning : Meaning) (entries : List Entry) (moment : ℕ) (machine : Machine)
    (table : Database) (reason : IkeFault)
    → Refuses meaning entries (Tick moment) machine table reason
    → SomethingComes (max machine.moment moment) machine.held.associations

abbrev pub TheTimeStandsStill : Type 0
TheTimeStandsStill = EachStep (λ it.
    is_tick it.input ≡ false
    → IsSoundMachine it.old it.table
    → IsStep it
    → StaysAt it.old it.stepped it.new)

-- ---- nothing_comes_before_the_next_moment
abbrev pub NothingComesBeforeTheNextMoment : Type 0
NothingComesBeforeTheNextMoment = (next : Option ℕ) (moment : ℕ) (old : Machine) (table : Database) (stepped : Stepped)
    (new : Machine) (new_table : Database)
    → IsTimely old
    → NothingIsDueBefore next old.held.associations
    → moment < 2 ^ 64
    → IsBefore moment next
    → TakesMoment moment old table stepped new new_table
    → (stepped ≡ plain_step (output.Ticked (record { requests = []; closed = [] })))
    × (new ≡ record old { moment = max old.moment moment })
    × (new_table ≡ table)

abbrev pub MomentsBeforeTheNextAreNotRefused : Type 0
MomentsBeforeTheNextAreNotRefused = (meaning : Meaning) (entries : List Entry) (next : Option ℕ) (moment : ℕ)
    (machine : Machine) (table : Database) (reason : IkeFault)
    → IsTimely machine
    → NothingIsDueBefore next machine.held.associations
    → moment < 2 ^ 64
    → IsBefore moment next
    → ¬ Refuses meaning entries (Tick moment) machine table reason

-- ---- the_next_moment_brings_something
abbrev pub TheNextMomentBringsSomething : Type 0
TheNextMomentBringsSomething = (moment : ℕ) (old : Machine) (table : Database) (stepped : Stepped) (new : Machine)
    (new_table : Database)
    → SomethingIsDue (max old.moment moment) old.held.associations
    → TakesMoment moment old table stepped new new_table
    → ¬ ((stepped ≡ plain_step (output.Ticked (record { requests = []; closed = [] })))
    × (length new.held.associations ≡ length old.held.associations))
