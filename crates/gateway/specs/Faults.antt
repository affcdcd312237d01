-- The error codes of this crate's refusals, and which of them come after the packet's number was taken.
use Rattle.std.specs.Prelude.{ℕ, Bool, true, false}
use Rattle.ike.specs.Faults as ike
use Rattle.traffic.specs.Faults.{code_of_packet_fault, is_after_judging}
use Rattle.gateway.specs.declared.fault.Reason.{Reason}
use Rattle.gateway.specs.declared.fault.Reason.TheVariants.{Ike, Packet, Memory}

abbrev pub code_of_reason : Reason → ℕ
code_of_reason (Ike fault) = ike.code_of_ike_fault fault
code_of_reason (Packet fault) = code_of_packet_fault fault
code_of_reason Memory = 20

-- an ESP packet that is dropped for this reason was accepted before
abbrev pub is_after_judging_packet : Reason → Bool
is_after_judging_packet (Packet fault) = is_after_judging fault
is_after_judging_packet (Ike fault) = false
is_after_judging_packet Memory = false

-- the refusal is an allocation failure
abbrev pub is_want_of_memory : Reason → Bool
is_want_of_memory (Ike fault) = ike.is_want_of_memory fault
is_want_of_memory (Packet fault) = false
is_want_of_memory Memory = true
