-- What an IKE SA was before a step, and what its first request tells.
use Rattle.std.specs.Prelude.{◌≡◌, ◌⊎◌, ◌≤◌, ℕ, None, Some}
use Rattle.base.specs.Octets.{Octets}
use Rattle.initial.specs.Reading.{IsInitSent}
use Rattle.association.specs.Phases.{keys_in}
use Rattle.association.specs.declared.phase.Association.{Association}
use Rattle.association.specs.declared.phase.AuthSent.{AuthSent}
use Rattle.association.specs.declared.phase.HalfOpen.{HalfOpen}
use Rattle.association.specs.declared.phase.InitSent.{InitSent}
use Rattle.association.specs.declared.phase.Phase.TheVariants as phase
use Rattle.ike.specs.Before.{CameNow, How, IsFirstRequest, ReadsNow, WaitedBefore, WasThere}
use Rattle.ike.specs.LawCases.{EachStep, IsStep}
use Rattle.ike.specs.Machines.{association_of}
use Rattle.ike.specs.Soundness.{IsSoundMachine}
use Rattle.ike.specs.declared.output.IkeOutput.TheVariants as output

-- ---- each_association_was_there_or_came
abbrev pub EachAssociationWasThereOrCame : Type 0
EachAssociationWasThereOrCame = EachStep (λ it. (serial : ℕ) (is : Association)
    → IsSoundMachine it.old it.table
    → IsStep it
    → association_of serial it.new.held.associations ≡ Some is
    → WasThere it.meaning it.entries it.input it.old it.table it.new.held it.new_table serial is
    ⊎ CameNow it.meaning it.entries it.input it.old it.stepped it.new.held serial is)

abbrev pub NoSerialIsGivenAgain : Type 0
NoSerialIsGivenAgain = EachStep (λ it. IsStep it → it.old.held.next ≤ it.new.held.next)

-- ---- first_requests_tell_what_is_held
abbrev pub FirstRequestsTellWhatIsHeld : Type 0
FirstRequestsTellWhatIsHeld = EachStep (λ it. (serial : ℕ) (octets : Octets) (is : Association) (sent : InitSent)
    → IsSoundMachine it.old it.table
    → IsStep it
    → it.stepped.output ≡ output.Request serial octets
    → association_of serial it.new.held.associations ≡ Some is
    → is.phase ≡ phase.InitSent sent
    → IsFirstRequest it.meaning is.spi_i sent.secret sent.nonce octets)

-- ---- who_waits_keeps_its_offer
abbrev pub WhoWaitsKeepsItsOffer : Type 0
WhoWaitsKeepsItsOffer = EachStep (λ it. (was is : Association) (sent : InitSent)
    → How it.meaning it.entries it.input it.old it.table it.new.held it.new_table was is
    → is.phase ≡ phase.InitSent sent
    → WaitedBefore was is sent)

-- ---- who_asks_has_read
abbrev pub WhoAsksHasRead : Type 0
WhoAsksHasRead = EachStep (λ it. (was is : Association) (before : InitSent) (told : AuthSent)
    → How it.meaning it.entries it.input it.old it.table it.new.held it.new_table was is
    → was.phase ≡ phase.InitSent before
    → is.phase ≡ phase.AuthSent told
    → ReadsNow it.input before told)

abbrev pub WhoAsksWithoutKeysWaited : Type 0
WhoAsksWithoutKeysWaited = EachStep (λ it. (was is : Association) (told : AuthSent)
    → How it.meaning it.entries it.input it.old it.table it.new.held it.new_table was is
    → is.phase ≡ phase.AuthSent told
    → keys_in was.phase ≡ None
    → IsInitSent was.phase)

-- ---- who_is_half_open_was_so
abbrev pub WhoIsHalfOpenWasSo : Type 0
WhoIsHalfOpenWasSo = EachStep (λ it. (was is : Association) (opened : HalfOpen)
    → How it.meaning it.entries it.input it.old it.table it.new.held it.new_table was is
    → is.phase ≡ phase.HalfOpen opened
    → was.phase ≡ phase.HalfOpen opened)
