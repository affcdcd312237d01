use Rattle.policy.proofs.PointLemmas.{first_to, first_from}
use Rattle.policy.proofs.narrowing.holds_first.Goals as goal

pub returns-then-has_point : goal.returns-then-has_point
returns-then-has_point c = (
  λ yes. first_to c.args.side.now c.args.offered.now _ c.in-len1-up.len_at_least (c.has_point.ensures.0 c.if-has_point.true) (c.lies_in.ensures.0 yes),
  λ holds. c.lies_in.ensures.1 (first_from c.args.side.now c.args.offered.now _ c.in-len1-up.len_at_least holds).1,
)
