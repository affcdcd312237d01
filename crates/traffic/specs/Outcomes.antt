-- What becomes of a packet, as plain data.
use Rattle.std.specs.Prelude.{ℕ}
use Rattle.base.specs.Octets.{Octets}
use Rattle.traffic.specs.declared.admission.Admission.{Admission}
use Rattle.traffic.specs.declared.admission.Admission.TheVariants as admission
use Rattle.traffic.specs.declared.arrival.Arrival.{Arrival}
use Rattle.traffic.specs.declared.arrival.Arrival.TheVariants as arrival
use Rattle.traffic.specs.declared.departure.Departure.{Departure}
use Rattle.traffic.specs.declared.departure.Departure.TheVariants as departure
use Rattle.traffic.specs.declared.departure.Laid.{Laid}
use Rattle.traffic.specs.declared.departure.Laid.TheVariants as laid
use Rattle.traffic.specs.declared.fault.PacketFault.{PacketFault}

-- a Child SA is told by the serial of its SA pair
pub data Outcome : Type 0 where
  -- what a Child SA carried under a sequence number goes up
  Up : (child number : ℕ) → Octets → Outcome
  -- a Child SA carried a dummy under a sequence number
  Dummy : (child number : ℕ) → Outcome
  -- an ESP packet goes out by a Child SA under a sequence number
  Sealed : (child number : ℕ) → Octets → Outcome
  -- it goes on as it is
  Clear : Octets → Outcome
  Discarded : Outcome
  Dropped : PacketFault → Outcome

abbrev pub outcome_of_arrival : Arrival → Outcome
outcome_of_arrival (arrival.Up child number packet) = Up child number packet.now
outcome_of_arrival (arrival.Dummy child number) = Dummy child number
outcome_of_arrival (arrival.Dropped fault) = Dropped fault

abbrev pub outcome_of_departure : Departure → Outcome
outcome_of_departure (departure.Sealed child number octets) = Sealed child number octets
outcome_of_departure (departure.Clear packet) = Clear packet.now
outcome_of_departure departure.Discarded = Discarded
outcome_of_departure (departure.Dropped fault) = Dropped fault

-- these octets were appended to a buffer
abbrev pub outcome_of_laid : Laid → Octets → Outcome
outcome_of_laid (laid.Sealed child number) octets = Sealed child number octets
outcome_of_laid (laid.Clear packet) octets = Clear packet.now
outcome_of_laid laid.Discarded octets = Discarded
outcome_of_laid (laid.Dropped fault) octets = Dropped fault

abbrev pub outcome_of_admission : Admission → Outcome
outcome_of_admission (admission.Clear packet) = Clear packet.now
outcome_of_admission admission.Discarded = Discarded
outcome_of_admission (admission.Dropped fault) = Dropped fault
