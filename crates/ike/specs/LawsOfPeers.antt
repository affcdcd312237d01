-- What a peer has to show before it is served.
use Rattle.std.specs.Prelude.{◌<◌, ◌≡◌, ◌≤◌, ℕ, Some}
use Rattle.suite.specs.declared.key_record.KeyRecord.{KeyRecord}
use Rattle.sa_init.specs.Judging.{COOKIE_THRESHOLD}
use Rattle.association.specs.declared.phase.Association.{Association}
use Rattle.association.specs.declared.phase.Phase.TheVariants as phase
use Rattle.ike.specs.LawCases.{EachDatagram, EachStep, IsStep}
use Rattle.ike.specs.Machines.{association_of, half_open_count}
use Rattle.ike.specs.Proving.{WasKnown}
use Rattle.ike.specs.Reaching.{WasReached}
use Rattle.ike.specs.Soundness.{IsSoundMachine}

-- ---- the_established_proved_themselves
abbrev pub TheEstablishedProvedThemselves : Type 0
TheEstablishedProvedThemselves = EachStep (λ it. (ike : ℕ) (a : Association) (keys : KeyRecord)
    → IsSoundMachine it.old it.table
    → IsStep it
    → association_of ike it.new.held.associations ≡ Some a
    → a.phase ≡ phase.Established keys
    → WasKnown it.meaning it.entries it.input it.old ike keys)

-- ---- no_association_without_a_cookie
abbrev pub NoAssociationWithoutACookie : Type 0
NoAssociationWithoutACookie = EachDatagram (λ from octets fresh it.
    IsStep it
    → COOKIE_THRESHOLD ≤ half_open_count it.old.held.associations
    → half_open_count it.old.held.associations < half_open_count it.new.held.associations
    → WasReached it.old.cookies from octets)
