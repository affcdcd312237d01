use Rattle.std.proofs.Common.{◌≡◌, ◌+◌, slice_index, ap, ◌∙◌, inr, arith}
use Rattle.std.proofs.lemmas.List.{length-set}
use Rattle.lanes.proofs.LaneLemmas.{same_at}
use Rattle.lanes.proofs.StreamLemmas.{all_written, begun_next, common_is, eight_fit, first-is, first_ended, fit_put, rest_ended, sums_fit, turn-is}
use Rattle.lanes.proofs.stream.inner_digests.Goals as goal

pub loop-next-init : goal.loop-next-init
loop-next-init c =
    let places = c.next_eight-places.ensures in
    let queue = c.args.queue.now in (
      λ j fits m given. first-is c.args.tasks.now (slice_index c.next_eight-places.result j) m _ _ (same_at 0 j fits)
          (λ task at. c.messages_at-messages.ensures j fits m given task at) (λ task at. c.inner_states-state.ensures j fits task at),
      λ k below inside. let here : 0 + k ≡ k = omega arith in inr (k, (below, places.next k below (omega arith) ∙ ap (slice_index queue) here)),
      eight_fit c.args.tasks.now queue c.next_eight-places.result 0 c.requires.some c.requires.fit places.next places.left,
      omega arith,
      omega arith,
    )

pub absorb_common-ended-requires-clause-common : goal.absorb_common-ended-requires-clause-common
absorb_common-ended-requires-clause-common c =
    common_is c.args.tasks.now c.loop-next.places c.loop-next.messages c.loop-next.taken c.loop-next.state c.all_left-left.result c.first_to_end-j.result
    c.loop-next.invariant.0 (omega arith) c.all_left-left.ensures c.first_to_end-j.ensures.least

pub all_taken-taken-requires : goal.all_taken-taken-requires
all_taken-taken-requires c =
    sums_fit c.loop-next.messages c.loop-next.taken (slice_index c.all_left-left.result c.first_to_end-j.result) (omega arith)
    (common_is c.args.tasks.now c.loop-next.places c.loop-next.messages c.loop-next.taken c.loop-next.state c.all_left-left.result c.first_to_end-j.result
    c.loop-next.invariant.0 (omega arith) c.all_left-left.ensures c.first_to_end-j.ensures.least)

pub loop-next-preserved : goal.loop-next-preserved
loop-next-preserved c =
    let tasks = c.args.tasks.now in
    let places = c.loop-next.places in
    let messages = c.loop-next.messages in
    let taken = c.loop-next.taken in
    let state = c.loop-next.state in
    let left = c.all_left-left.result in
    let j = c.first_to_end-j.result in
    let in_lane = c.first_to_end-j.ensures.lane in
    let held = c.loop-next.invariant.0 in
    let place = slice_index c.args.queue.now c.loop-next.next in
    let common = common_is tasks places messages taken state left j held (omega arith) c.all_left-left.ensures c.first_to_end-j.ensures.least in
    let ended = first_ended tasks places messages taken state left c.absorb_common-ended.result j held (omega arith) in_lane c.all_left-left.ensures c.absorb_common-ended.ensures in
    let fit = c.loop-next.invariant.2 j in_lane in
    let within = fit.within in
    let long = c.loop-next.invariant.3 in
    let room = c.loop-next.invariant.4 in (
      turn-is tasks places messages taken c.all_taken-taken.result state c.absorb_common-ended.result c.with_lane-begun.result j place (slice_index left j) c.message.result
          held in_lane (omega arith) (omega arith) (omega arith) c.absorb_common-ended.ensures common c.all_taken-taken.ensures
          c.message.ensures (λ task at. c.with_lane-begun.ensures.here ∙ c.inner_state.ensures task at) c.with_lane-begun.ensures.others,
      begun_next tasks c.args.queue.now places c.loop-next.digests c.loop-next.next j c.state_of_lane.result c.loop-next.invariant.1 in_lane (omega arith) (omega arith)
          (λ task at. c.state_of_lane.ensures ∙ ended task at),
      fit_put tasks places place j (omega arith) (c.requires.fit c.loop-next.next (omega arith)) c.loop-next.invariant.2,
      length-set places j place ∙ long,
      length-set c.loop-next.digests (slice_index places j) c.state_of_lane.result ∙ room,
    )

pub returns : goal.returns
returns c = λ k inside.
    all_written c.args.tasks.now c.args.queue.now c.loop-next.places c.loop-next.digests c.write_digests.new.digests c.loop-next.next c.loop-next.invariant.1
    (c.write_digests.ensures c.args.tasks.now (λ j fits. rest_ended c.args.tasks.now c.loop-next.places c.loop-next.messages c.loop-next.taken c.loop-next.state c.absorb_rest-ended.result j
    c.loop-next.invariant.0 (omega arith) fits (c.absorb_rest-ended.ensures j fits)))
    k (omega arith) inside
