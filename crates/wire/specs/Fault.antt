-- The numbers of the refusals, and where each one points.
use Rattle.std.specs.Prelude.{ℕ, Option, Some, None}
use Rattle.wire.specs.declared.fault.WireFault.{WireFault}
use Rattle.wire.specs.declared.fault.WireFault.TheVariants.{Short, BadLength, BadVersion, BadChain, BadProposal, BadSelector, BadNonce, BadField, TooLong, Memory}

-- the number that is printed behind an E
abbrev pub fault_number : WireFault → ℕ
fault_number Short = 1
fault_number BadLength = 2
fault_number BadVersion = 3
fault_number (BadChain offset) = 4
fault_number (BadProposal offset) = 5
fault_number (BadSelector offset) = 6
fault_number (BadNonce offset) = 7
fault_number (BadField offset) = 8
fault_number TooLong = 9
fault_number Memory = 10

-- the offset of the payload at fault
abbrev pub fault_offset : WireFault → Option ℕ
fault_offset Short = None
fault_offset BadLength = None
fault_offset BadVersion = None
fault_offset (BadChain offset) = Some offset
fault_offset (BadProposal offset) = Some offset
fault_offset (BadSelector offset) = Some offset
fault_offset (BadNonce offset) = Some offset
fault_offset (BadField offset) = Some offset
fault_offset TooLong = None
fault_offset Memory = None
