-- What a check of exact values prints.
use Rattle.std.specs.Prelude.{◌≡◌, ℕ, ◌+◌, ◌==◌, ◌&&◌, List, ◌++◌, codes, decimal, if◌then◌else◌, Option, Result, Ok, Err}
use Rattle.std.specs.Io.KnownBytes.{Appends, Keeps}
use Rattle.gw_console.specs.Output.{AppendsBeginning}
use Rattle.gw_console.specs.Status.{exit_code}
use Rattle.gw_engine.specs.Ends.{status_of, EndsWith}
use Rattle.gw_engine.specs.declared.stop.Stop.{Stop}
use Rattle.gw_engine.specs.declared.stop.Stop.TheVariants as stop

-- the line that tells how many entries passed, how many failed and how many were not looked at
abbrev pub report_line : ℕ → ℕ → ℕ → List ℕ
report_line passed failed unread = codes "passed " ++ decimal passed ++ codes " failed " ++ decimal failed
    ++ codes " unread " ++ decimal unread ++ codes "\n"

-- the line goes out, or a beginning of it where the output can't be written, or nothing on allocation failure
abbrev pub ReportsBy : List ℕ → Result Unit Stop → Option (List ℕ) → Option (List ℕ) → Type 0
ReportsBy line (Ok _) old new = Appends old new line
ReportsBy line (Err stop.Output) old new = AppendsBeginning old new line
ReportsBy line (Err stop.Memory) old new = Keeps old new
ReportsBy line (Err stop.File) old new = ⊥
ReportsBy line (Err stop.Hex) old new = ⊥
ReportsBy line (Err (stop.Message number)) old new = ⊥
ReportsBy line (Err (stop.Payload number offset)) old new = ⊥
ReportsBy line (Err (stop.Line number)) old new = ⊥

-- What is printed of so many entries. The status is 0 exactly where all passed and the line was written.
pub record Checks (entries status : ℕ) (old new : Option (List ℕ)) : Type 0 where
  pub passed : ℕ
  pub failed : ℕ
  pub unread : ℕ
  pub all : (passed + failed) + unread ≡ entries
  pub outcome : Result Unit Stop
  pub printed : Option (List ℕ)
  pub reports : ReportsBy (report_line passed failed unread) outcome old printed
  pub ends : EndsWith outcome printed new
  pub status_is : status ≡ (if (failed == 0) && (unread == 0) then exit_code (status_of outcome) else 1)
