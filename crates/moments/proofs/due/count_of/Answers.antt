use Rattle.std.proofs.Common.{arith}
use Rattle.std.specs.FinMap as numbers
use Rattle.moments.proofs.due.count_of.Goals as goal

pub returns-clause-count : goal.returns-clause-count
returns-clause-count c = let same = numbers.len-entries c.args.association.now.outgoing.outstanding in omega arith
