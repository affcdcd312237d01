use Rattle.gateway.specs.Rows.{packet_in_row}
use Rattle.gateway.proofs.row.finish_by_lanes.Goals as goal

pub finish_each-requires-clause-ahead : goal.finish_each-requires-clause-ahead
finish_each-requires-clause-ahead g c = c.set_values.ensures.right (c.no_values-values.ensures.none (packet_in_row c.args.spans.now c.args.packets.now))
