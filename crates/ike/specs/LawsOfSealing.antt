-- What a step seals, at which IKE SA it took a message, and what holds of an IKE SA that is found.
use Rattle.std.specs.Prelude.{◌≡◌, ℕ, Some}
use Rattle.base.specs.Octets.{Octets}
use Rattle.sadb.specs.Database.{Database}
use Rattle.association.specs.declared.phase.Association.{Association}
use Rattle.effects.specs.Lengths.{HoldsWholeKeys}
use Rattle.ike.specs.LawCases.{EachDatagram, EachStep, IsStep}
use Rattle.ike.specs.Lengths.{HoldWholeKeys}
use Rattle.ike.specs.Machines.{association_of, setup_at, Held, Machine}
use Rattle.ike.specs.Outputs.{octets_in, request_mark}
use Rattle.ike.specs.Sealing.{GoesOutUnderKeys, TakenBy, TellsOfMessageAt}
use Rattle.ike.specs.Soundness.{IsSound, IsSoundMachine}
use Rattle.ike.specs.declared.output.IkeOutput.TheVariants as output
use Rattle.ike.specs.declared.output.Mark.{Mark}

-- ---- what_goes_out_under_keys_is_sealed
abbrev pub WhatGoesOutUnderKeysIsSealed : Type 0
WhatGoesOutUnderKeysIsSealed = EachStep (λ it. (mark : Mark) (sent : Octets)
    → IsSoundMachine it.old it.table
    → IsStep it
    → it.stepped.trace.sent ≡ Some mark
    → octets_in it.stepped.output ≡ Some sent
    → GoesOutUnderKeys it.meaning.body_of it.input it.old.held it.new.held it.old.config.window mark it.stepped.output sent)

abbrev pub KeysComeWithTheFirstRequest : Type 0
KeysComeWithTheFirstRequest = EachDatagram (λ from octets fresh it. (serial : ℕ) (next : Octets)
    → IsStep it
    → it.stepped.output ≡ output.Request serial next
    → it.stepped.trace.keyed ≡ Some serial
    → it.stepped.trace.sent ≡ request_mark serial 1)

-- ---- what_is_told_was_taken
abbrev pub WhatIsToldWasTaken : Type 0
WhatIsToldWasTaken = EachDatagram (λ from octets fresh it. (serial : ℕ)
    → IsSoundMachine it.old it.table
    → IsStep it
    → TellsOfMessageAt it.stepped serial
    → TakenBy it.meaning (setup_at it.old it.entries fresh) octets it.old.held it.table it.new.held it.new_table serial)

-- ---- each_association_is_sound
abbrev pub EachAssociationIsSound : Type 0
EachAssociationIsSound = (machine : Machine) (table : Database) (serial : ℕ) (a : Association)
    → IsSoundMachine machine table
    → association_of serial machine.held.associations ≡ Some a
    → IsSound a machine.held.next table

abbrev pub EachAssociationHoldsWholeKeys : Type 0
EachAssociationHoldsWholeKeys = (held : Held) (serial : ℕ) (a : Association)
    → HoldWholeKeys held
    → association_of serial held.associations ≡ Some a
    → HoldsWholeKeys a.phase
