use Rattle.gateway.specs.Laying.{laid_at}
use Rattle.gateway.proofs.laying.finish_by_lanes.Goals as goal

pub finish_with-requires : goal.finish_with-requires
finish_with-requires g c = c.set_values.ensures.right (c.no_values-values.ensures.none (laid_at c.args.laid.now))
