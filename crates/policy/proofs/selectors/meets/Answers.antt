use Rattle.policy.proofs.PointLemmas.{part_meets}
use Rattle.policy.proofs.selectors.meets.Goals as goal

pub returns : goal.returns
returns c = rw c.is_some.ensures (part_meets c.args.one.now c.args.other.now c.common_part.result c.common_part.ensures)
