-- The exit status of the program.
use Rattle.std.specs.Prelude.{ℕ}
use Rattle.gw_console.specs.declared.status.Status.{Status}
use Rattle.gw_console.specs.declared.status.Status.TheVariants.{Done, Refused, BadCommand}

abbrev pub exit_code : Status → ℕ
exit_code Done = 0
exit_code Refused = 1
exit_code BadCommand = 2
