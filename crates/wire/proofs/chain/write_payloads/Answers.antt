use Rattle.std.proofs.Common.{◌≡◌, ◌≢◌, ◌+◌, List, Ok, Err, subst}
use Rattle.wire.specs.declared.payload.Payload.{Payload}
use Rattle.wire.specs.declared.fault.WireFault.TheVariants.{Memory}
use Rattle.std.proofs.lemmas.Result.{err_from_is_err_and}
use Rattle.wire.specs.Writing.{link_onto, payloads_onto}
use Rattle.wire.proofs.WritingLoops.{links_next, links_stop, links_done, rest_is}
use Rattle.wire.proofs.chain.write_payloads.Goals as goal

pub returns-in_err-write_link : goal.returns-in_err-write_link
returns-in_err-write_link c =
    let p = err_from_is_err_and c.from_residual.result c.from_residual.ensures.1 in
    let f = c.in_err-write_link.field-0.0 in
    let refused = subst (λ (qs : List Payload). f ≢ Memory → link_onto c.index-payloads-place.result qs c.loop-place.out.items ≡ Err f) (rest_is c.args.payloads.now (c.loop-place.place + 1)) c.in_err-write_link.ensures in
    rw (p.1, p.2) (links_stop c.in_err-write_link.field-0.0 c.args.payloads.now c.loop-place.place c.index-payloads-place.result c.loop-place.out.items (payloads_onto c.args.payloads.now c.args.out.now.items) c.loop-place-test.true c.index-payloads-place.is c.loop-place.invariant refused)

pub loop-place-preserved : goal.loop-place-preserved
loop-place-preserved c =
    let made = subst (λ (qs : List Payload). link_onto c.index-payloads-place.result qs c.loop-place.out.items ≡ Ok c.write_link.new.out.items) (rest_is c.args.payloads.now (c.loop-place.place + 1)) c.in_ok-write_link.ensures in
    links_next c.args.payloads.now c.loop-place.place c.index-payloads-place.result c.loop-place.out.items c.write_link.new.out.items (payloads_onto c.args.payloads.now c.args.out.now.items) c.loop-place-test.true c.index-payloads-place.is c.loop-place.invariant made

pub returns : goal.returns
returns c = links_done c.args.payloads.now c.loop-place.place c.loop-place.out.items (payloads_onto c.args.payloads.now c.args.out.now.items) c.loop-place-test.false c.loop-place.invariant
