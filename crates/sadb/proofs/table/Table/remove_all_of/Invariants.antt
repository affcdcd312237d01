use Rattle.sadb.proofs.AssociationLemmas.{RemovedBelow}
use Rattle.sadb.proofs.table.Table.remove_all_of.Given as goal

-- those below this serial were removed
abbrev pub invariant-loop-serial : goal.invariant-loop-serial
invariant-loop-serial l = RemovedBelow l.fn.self l.ike l.serial l.self
