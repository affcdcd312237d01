use Rattle.std.proofs.Common.{map}
use Rattle.gateway.specs.Groups.{packets_in}
use Rattle.gateway.specs.Inputs.{input_view}
use Rattle.sukperin.proofs.ListLemmas.{values_at_places}
use Rattle.sukperin.proofs.lists.open_group.Goals as goal

pub open_each-requires-clause-ahead : goal.open_each-requires-clause-ahead
open_each-requires-clause-ahead c =
    let inputs = c.set_inputs.new.inputs in
    values_at_places c.args.octets.now c.args.places.now inputs c.compute_ahead.new.values c.set_inputs.ensures.each
    (c.compute_ahead.ensures.right (c.no_values-ahead.ensures.none (packets_in (map input_view inputs))))
