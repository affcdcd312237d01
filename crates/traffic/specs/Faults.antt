-- The numbers of this crate's refusals, and which of them leave a sequence number taken.
use Rattle.std.specs.Prelude.{ℕ, Bool, true, false}
use Rattle.esp.specs.Faults.{code_of_esp_fault}
use Rattle.esp.specs.declared.fault.EspFault.TheVariants.{BadPadding}
use Rattle.policy.specs.Faults.{code_of_inner_fault}
use Rattle.traffic.specs.declared.fault.PacketFault.{PacketFault}
use Rattle.traffic.specs.declared.fault.PacketFault.TheVariants.{UnknownAssociation, Esp, Inner, OutsideSelectors}

abbrev pub code_of_packet_fault : PacketFault → ℕ
code_of_packet_fault UnknownAssociation = 28
code_of_packet_fault (Esp fault) = code_of_esp_fault fault
code_of_packet_fault (Inner fault) = code_of_inner_fault fault
code_of_packet_fault OutsideSelectors = 23

-- An ESP packet that is dropped for its padding or for what it carried was judged before, and its sequence
-- number is taken; by every other refusal nothing is changed.
abbrev pub is_after_judging : PacketFault → Bool
is_after_judging UnknownAssociation = false
is_after_judging (Esp BadPadding) = true
is_after_judging (Esp fault) = false
is_after_judging (Inner fault) = true
is_after_judging OutsideSelectors = true
