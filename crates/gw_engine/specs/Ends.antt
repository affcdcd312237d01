-- How a command ends.
use Rattle.std.specs.Prelude.{◌≡◌, ◌⊎◌, ◌++◌, ℕ, List, Option, Some, None, Result, Ok, Err, codes, decimal}
use Rattle.std.specs.Io.KnownBytes.{Appends, Keeps}
use Rattle.gw_script.specs.declared.fault.LineFault.{LineFault}
use Rattle.gw_script.specs.declared.fault.LineFault.TheVariants as fault
use Rattle.wire.specs.Fault.{fault_number, fault_offset}
use Rattle.wire.specs.declared.fault.WireFault.{WireFault}
use Rattle.wire.specs.declared.fault.WireFault.TheVariants as wire
use Rattle.gw_console.specs.declared.digits.HexFault.{HexFault}
use Rattle.gw_console.specs.declared.digits.HexFault.TheVariants as hex
use Rattle.gw_console.specs.declared.input.InputFault.{InputFault}
use Rattle.gw_console.specs.declared.input.InputFault.TheVariants as input
use Rattle.gw_console.specs.Output.{AppendsBeginning}
use Rattle.gw_console.specs.declared.status.Status.{Status}
use Rattle.gw_console.specs.declared.status.Status.TheVariants.{Done, Refused}
use Rattle.gw_engine.specs.declared.stop.Stop.{Stop}
use Rattle.gw_engine.specs.declared.stop.Stop.TheVariants as stop

-- the status of a command that did its work, or stopped
abbrev pub status_of : Result Unit Stop → Status
status_of (Ok _) = Done
status_of (Err _) = Refused

-- nothing is left to be said at the end
abbrev pub IsQuiet : Result Unit Stop → Type 0
IsQuiet (Ok _) = Unit {0}
IsQuiet (Err why) = why ≡ stop.Output

-- why a command stops whose file was not read
abbrev pub stop_of_input : InputFault → Stop
stop_of_input input.File = stop.File
stop_of_input input.Memory = stop.Memory

-- why a command stops whose digits were not read
abbrev pub stop_of_digits : HexFault → Stop
stop_of_digits hex.NotHex = stop.Hex
stop_of_digits hex.Memory = stop.Memory

-- why a command stops at a line that was not played
abbrev pub stop_of_line : ℕ → LineFault → Stop
stop_of_line number fault.Refused = stop.Line number
stop_of_line number fault.Memory = stop.Memory

-- why a command stops whose octets are no message: the refusal's number, and where it points to a payload
abbrev pub stop_at : ℕ → Option ℕ → Stop
stop_at number None = stop.Message number
stop_at number (Some offset) = stop.Payload number offset

abbrev pub stop_of_fault : WireFault → Stop
stop_of_fault wire.Memory = stop.Memory
stop_of_fault other = stop_at (fault_number other) (fault_offset other)

-- what is printed of it, without the end of the line
abbrev pub stop_text : Stop → List ℕ
stop_text stop.File = codes "refused file"
stop_text stop.Hex = codes "refused hex"
stop_text (stop.Message number) = codes "refused E" ++ decimal number
stop_text (stop.Payload number offset) = codes "refused E" ++ decimal number ++ codes " at " ++ decimal offset
stop_text (stop.Line number) = codes "line " ++ decimal number ++ codes " refused"
stop_text stop.Memory = codes "no memory"
stop_text stop.Output = codes "the output was not written"

-- the line that tells it
abbrev pub stop_line : Stop → List ℕ
stop_line why = stop_text why ++ codes "\n"

-- nothing more goes out where the work is done or the output can't be written; else the line that tells
-- why, or a beginning of it
abbrev pub EndsWith : Result Unit Stop → Option (List ℕ) → Option (List ℕ) → Type 0
EndsWith (Ok _) old new = Keeps old new
EndsWith (Err stop.Output) old new = Keeps old new
EndsWith (Err why) old new = Appends old new (stop_line why) ⊎ AppendsBeginning old new (stop_line why)
