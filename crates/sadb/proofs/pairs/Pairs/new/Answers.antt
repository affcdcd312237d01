use Rattle.sadb.proofs.PairsLemmas.{by_serial_empty}
use Rattle.sadb.proofs.pairs.Pairs.new.Goals as goal

pub invariant_of-result : goal.invariant_of-result
invariant_of-result c = by_serial_empty c.new.result.items c.new-2.result c.new.ensures.items c.new-2.ensures.empty
