use Rattle.sadb.proofs.TableLemmas.{new_table}
use Rattle.sadb.proofs.table.Table.new.Goals as goal

pub invariant_of-result : goal.invariant_of-result
invariant_of-result c = new_table c.new.result c.new-2.result c.args.start c.new.ensures c.new-2.ensures
