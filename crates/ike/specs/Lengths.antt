-- What is asked of a machine, an input and a cipher, so that a step seals in one way alone (RFC 7296
-- section 3.14).
use Rattle.std.specs.Prelude.{ℕ, Some, None}
use Rattle.base.specs.Octets.{AreOctets}
use Rattle.association.specs.declared.phase.Association.{Association}
use Rattle.effects.specs.Lengths.{HoldsWholeKeys, TellsLengths}
use Rattle.effects.specs.Taking.{Meaning}
use Rattle.ike.specs.Machines.{Held}
use Rattle.ike.specs.Soundness.{At}
use Rattle.ike.specs.Steps.{InputView, Message, Start, Order, Secret, Tick}

-- the keys of each IKE SA are whole: 32 octets each
abbrev pub HoldWholeKeys : Held → Type 0
HoldWholeKeys held = (place : ℕ) (a : Association) → At held place a → HoldsWholeKeys a.phase

-- A datagram is of octets, and with the fresh octets, of which there are 16, the length of a sealed body
-- follows from that of its plain text.
abbrev pub IsTold : Meaning → InputView → Type 0
IsTold meaning (Message from octets fresh) = AreOctets octets × TellsLengths meaning.body_of fresh.seal
IsTold meaning (Start None place fresh) = Unit {0}
IsTold meaning (Start (Some ike) place fresh) = TellsLengths meaning.body_of fresh.seal
IsTold meaning (Order what fresh) = TellsLengths meaning.body_of fresh.seal
IsTold meaning (Secret secret) = Unit {0}
IsTold meaning (Tick moment) = Unit {0}
