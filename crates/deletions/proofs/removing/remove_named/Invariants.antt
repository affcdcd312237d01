use Rattle.std.proofs.Common.{take}
use Rattle.deletions.specs.Removing.{RemovesNamed}
use Rattle.deletions.proofs.removing.remove_named.Given as goal

-- those before this one were taken out
abbrev pub invariant-loop-serial : goal.invariant-loop-serial
invariant-loop-serial l = RemovesNamed l.fn.table (take l.serial-index l.serials) l.table
