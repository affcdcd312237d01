use Rattle.gateway.specs.Outputs.{output_view}
use Rattle.gateway.proofs.world.log.take.Goals as goal

pub child-requires-clause-fits : goal.child-requires-clause-fits
child-requires-clause-fits g c =
    let t = c.traced_step-output in
    c.what_is_made_fits.ensures _ _ (output_view t.result.output) t.result.trace c.args.gateway.now t.new.self c.invariants_hold.ensures.table c.invariants_hold.ensures.machine t.ensures

pub datagram-requires-clause-fits : goal.datagram-requires-clause-fits
datagram-requires-clause-fits g c =
    let t = c.traced_step-output in
    c.what_is_sent_fits.ensures _ _ (output_view t.result.output) t.result.trace c.args.gateway.now t.new.self c.invariants_hold.ensures.machine t.ensures
