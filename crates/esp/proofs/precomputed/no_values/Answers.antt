use Rattle.std.proofs.lemmas.List.{length-replicate}
use Rattle.std.proofs.Common.{None}
use Rattle.esp.proofs.PrecomputedLemmas.{none_precomputed}
use Rattle.esp.proofs.precomputed.no_values.Goals as goal

pub returns-clause-none : goal.returns-clause-none
returns-clause-none g c = λ packets. none_precomputed packets g.row.N
