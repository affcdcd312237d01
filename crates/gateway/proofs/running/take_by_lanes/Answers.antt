use Rattle.std.proofs.Common.{map}
use Rattle.gateway.specs.Groups.{packets_in}
use Rattle.gateway.specs.Inputs.{input_view}
use Rattle.gateway.proofs.running.take_by_lanes.Goals as goal

pub take_each-requires-clause-ahead : goal.take_each-requires-clause-ahead
take_each-requires-clause-ahead g c = c.set_ahead.ensures.right (c.no_values-ahead.ensures.none (packets_in (map input_view c.args.inputs.now)))
