-- The peer's requests: which are processed, what is remembered of them, and how retransmissions are answered;
-- serials.
use Rattle.std.specs.FinMap as map
use Rattle.std.specs.Prelude.{◌<◌, ◌≡◌, ◌≤◌, ◌⊎◌, true, ℕ, List, None, Option, Some, false}
use Rattle.base.specs.Octets.{Octets}
use Rattle.policy.specs.declared.entry.Entry.{Entry}
use Rattle.sadb.specs.Database.{Database}
use Rattle.requests.specs.Following.{FollowsIncoming}
use Rattle.requests.specs.Numbers.{HasNumber}
use Rattle.association.specs.declared.fault.MessageFault.TheVariants as why
use Rattle.association.specs.declared.phase.Association.{Association}
use Rattle.association.specs.declared.phase.HalfOpen.{HalfOpen}
use Rattle.association.specs.declared.phase.Phase.TheVariants as phase
use Rattle.association.specs.Phases.{IsEstablished}
use Rattle.effects.specs.Requests.{is_concluded, IsSoundlyHeld, KeepsWindow, StaysConcluded, WidensWindow}
use Rattle.effects.specs.Taking.{Meaning}
use Rattle.ike.specs.Faults.{is_want_of_memory}
use Rattle.ike.specs.LawCases.{EachStep, IsStep}
use Rattle.ike.specs.Machines.{association_of, Machine}
use Rattle.ike.specs.Outputs.{IsQuiet}
use Rattle.ike.specs.Requests.{first_requests, ComesIntoEffect, HoldsInEffect, IsAdmitted, IsAnswered, IsFirstReplyKept, IsGivenUp, IsHeldThrough, IsInitialDatagram, IsNewRequest, IsOfOctets, IsReplyKept, OnlySays, OpensAsRequest, PutsOneIntoEffect}
use Rattle.ike.specs.Soundness.{IsSoundMachine}
use Rattle.ike.specs.Steps.{InputView, Refuses}
use Rattle.ike.specs.declared.fault.IkeFault.{IkeFault}
use Rattle.ike.specs.declared.fault.IkeFault.TheVariants as fault
use Rattle.ike.specs.declared.output.IkeOutput.TheVariants as output

-- ---- requests_take_effect
abbrev pub NumbersTakeEffectByTheirDatagramAlone : Type 0
NumbersTakeEffectByTheirDatagramAlone = EachStep (λ it. (serial : ℕ) (a b : Association) (number : ℕ)
    → IsSoundMachine it.old it.table
    → IsStep it
    → IsHeldThrough serial it.old.held it.new.held a b
    → ComesIntoEffect number a b
    → IsNewRequest it.meaning it.input a number × IsAnswered it.stepped number b)

abbrev pub NewRequestsTakeEffect : Type 0
NewRequestsTakeEffect = EachStep (λ it. (serial : ℕ) (a : Association) (number : ℕ)
    → IsSoundMachine it.old it.table
    → IsStep it
    → association_of serial it.old.held.associations ≡ Some a
    → IsNewRequest it.meaning it.input a number
    → HoldsInEffect it.new.held serial number)

abbrev pub RequestsAreQuietOrNew : Type 0
RequestsAreQuietOrNew = EachStep (λ it. (serial : ℕ) (a : Association) (number : ℕ)
    → IsSoundMachine it.old it.table
    → IsStep it
    → association_of serial it.old.held.associations ≡ Some a
    → OpensAsRequest it.meaning it.input a number
    → IsQuiet it.stepped.output ⊎ IsNewRequest it.meaning it.input a number)

abbrev pub OnlyWhatTakesEffectIsRepliedTo : Type 0
OnlyWhatTakesEffectIsRepliedTo = EachStep (λ it. (reply : Octets) (closed : Option ℕ)
    → IsSoundMachine it.old it.table
    → IsStep it
    → it.stepped.output ≡ output.Reply reply closed
    → PutsOneIntoEffect it.old.held it.new.held ⊎ IsInitialDatagram it.input)

-- ---- requests_are_remembered
abbrev pub RequestsFollowThoseBefore : Type 0
RequestsFollowThoseBefore = EachStep (λ it. (serial : ℕ) (a b : Association)
    → IsSoundMachine it.old it.table
    → IsStep it
    → IsHeldThrough serial it.old.held it.new.held a b
    → FollowsIncoming a.incoming b.incoming)

abbrev pub TheConcludedStaysConcluded : Type 0
TheConcludedStaysConcluded = EachStep (λ it. (serial : ℕ) (a b : Association)
    → IsSoundMachine it.old it.table
    → IsStep it
    → IsHeldThrough serial it.old.held it.new.held a b
    → is_concluded a.phase ≡ true
    → StaysConcluded a b)

abbrev pub TheWindowStaysOrIsWidened : Type 0
TheWindowStaysOrIsWidened = EachStep (λ it. (serial : ℕ) (a b : Association)
    → IsSoundMachine it.old it.table
    → IsStep it
    → IsHeldThrough serial it.old.held it.new.held a b
    → KeepsWindow it.old.config.window a b)

abbrev pub TheEstablishedHaveTheirWindowWidened : Type 0
TheEstablishedHaveTheirWindowWidened = EachStep (λ it. (serial : ℕ) (a b : Association)
    → IsSoundMachine it.old it.table
    → IsStep it
    → IsHeldThrough serial it.old.held it.new.held a b
    → is_concluded a.phase ≡ false
    → IsEstablished b.phase
    → WidensWindow it.old.config.window a b)

abbrev pub WhatIsGoneWasGivenUp : Type 0
WhatIsGoneWasGivenUp = EachStep (λ it. (serial : ℕ) (a : Association)
    → IsSoundMachine it.old it.table
    → IsStep it
    → association_of serial it.old.held.associations ≡ Some a
    → association_of serial it.new.held.associations ≡ None
    → IsGivenUp it.input it.old a)

abbrev pub TheHalfOpenWereSoBefore : Type 0
TheHalfOpenWereSoBefore = EachStep (λ it. (serial : ℕ) (a b : Association) (opened : HalfOpen)
    → IsSoundMachine it.old it.table
    → IsStep it
    → IsHeldThrough serial it.old.held it.new.held a b
    → b.phase ≡ phase.HalfOpen opened
    → a.phase ≡ phase.HalfOpen opened)

abbrev pub WhatComesHalfOpenIsAdmitted : Type 0
WhatComesHalfOpenIsAdmitted = EachStep (λ it. (serial : ℕ) (b : Association) (opened : HalfOpen)
    → IsSoundMachine it.old it.table
    → IsStep it
    → association_of serial it.old.held.associations ≡ None
    → association_of serial it.new.held.associations ≡ Some b
    → b.phase ≡ phase.HalfOpen opened
    → IsAdmitted it.input opened it.stepped)

abbrev pub WhatComesHasTheNextSerial : Type 0
WhatComesHasTheNextSerial = EachStep (λ it. (serial : ℕ) (b : Association)
    → IsSoundMachine it.old it.table
    → IsStep it
    → association_of serial it.old.held.associations ≡ None
    → association_of serial it.new.held.associations ≡ Some b
    → (serial ≡ it.old.held.next) × (b.incoming ≡ first_requests b.role))

abbrev pub SerialsAreBelowTheNext : Type 0
SerialsAreBelowTheNext = (machine : Machine) (table : Database) (serial : ℕ) (a : Association)
    → IsSoundMachine machine table
    → association_of serial machine.held.associations ≡ Some a
    → serial < machine.held.next

abbrev pub WhatIsHeldIsSound : Type 0
WhatIsHeldIsSound = (machine : Machine) (table : Database) (serial : ℕ) (a : Association)
    → IsSoundMachine machine table
    → association_of serial machine.held.associations ≡ Some a
    → IsSoundlyHeld a

abbrev pub SerialsRise : Type 0
SerialsRise = EachStep (λ it.
    IsStep it
    → it.old.held.next ≤ it.new.held.next)

-- ---- repeats_are_answered
abbrev pub RepeatsAreAnswered : Type 0
RepeatsAreAnswered = EachStep (λ it. (serial : ℕ) (a : Association) (number : ℕ) (reply : Octets)
    → IsSoundMachine it.old it.table
    → IsStep it
    → association_of serial it.old.held.associations ≡ Some a
    → OpensAsRequest it.meaning it.input a number
    → map.get a.incoming.kept number ≡ Some reply
    → OnlySays (output.Repeat reply) it.old it.table it.stepped it.new it.new_table)

abbrev pub TheForgottenIsDropped : Type 0
TheForgottenIsDropped = EachStep (λ it. (serial : ℕ) (a : Association) (number : ℕ)
    → IsSoundMachine it.old it.table
    → IsStep it
    → association_of serial it.old.held.associations ≡ Some a
    → OpensAsRequest it.meaning it.input a number
    → HasNumber a.incoming.in_effect number
    → map.get a.incoming.kept number ≡ None
    → OnlySays (output.Dropped (fault.Message why.Forgotten)) it.old it.table it.stepped it.new it.new_table)

abbrev pub InitialRepeatsAreAnswered : Type 0
InitialRepeatsAreAnswered = EachStep (λ it. (serial : ℕ) (a : Association) (opened : HalfOpen)
    → IsSoundMachine it.old it.table
    → IsStep it
    → association_of serial it.old.held.associations ≡ Some a
    → a.phase ≡ phase.HalfOpen opened
    → IsOfOctets it.input opened.request
    → OnlySays (output.Repeat opened.reply) it.old it.table it.stepped it.new it.new_table)

abbrev pub OnlyRepeatsAreAnsweredAgain : Type 0
OnlyRepeatsAreAnsweredAgain = EachStep (λ it. (reply : Octets)
    → IsSoundMachine it.old it.table
    → IsStep it
    → it.stepped.output ≡ output.Repeat reply
    → IsReplyKept it.meaning it.input it.old.held reply ⊎ IsFirstReplyKept it.input it.old.held reply)

abbrev pub RequestsAreRefusedForMemoryAlone : Type 0
RequestsAreRefusedForMemoryAlone = (meaning : Meaning) (entries : List Entry) (input : InputView)
    (machine : Machine) (table : Database) (reason : IkeFault) (serial : ℕ) (a : Association) (number : ℕ)
    → IsSoundMachine machine table
    → association_of serial machine.held.associations ≡ Some a
    → OpensAsRequest meaning input a number
    → Refuses meaning entries input machine table reason
    → is_want_of_memory reason ≡ true

abbrev pub InitialRepeatsAreRefusedForMemoryAlone : Type 0
InitialRepeatsAreRefusedForMemoryAlone = (meaning : Meaning) (entries : List Entry) (input : InputView)
    (machine : Machine) (table : Database) (reason : IkeFault) (serial : ℕ) (a : Association)
    (opened : HalfOpen)
    → association_of serial machine.held.associations ≡ Some a
    → a.phase ≡ phase.HalfOpen opened
    → IsOfOctets input opened.request
    → Refuses meaning entries input machine table reason
    → is_want_of_memory reason ≡ true
