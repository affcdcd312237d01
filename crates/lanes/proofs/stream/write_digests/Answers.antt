use Rattle.std.proofs.Common.{◌≡◌, ℕ, slice_index, ◌∙◌, arith, subst}
use Rattle.std.proofs.lemmas.List.{length-set}
use Rattle.lanes.specs.Stream.{DigestsWritten}
use Rattle.lanes.proofs.StreamLemmas.{digests_next}
use Rattle.lanes.proofs.stream.write_digests.Goals as goal

pub loop-j-preserved : goal.loop-j-preserved
loop-j-preserved c =
    let j = c.loop-j.j in
    let place = c.requires j (omega arith) in
    let long = c.loop-j.invariant.0 in (
      length-set c.loop-j.digests (slice_index c.args.places.now j) c.state_of_lane.result ∙ long,
      λ tasks is. digests_next tasks c.args.digests.now c.loop-j.digests c.args.places.now j c.state_of_lane.result (c.loop-j.invariant.1 tasks is) (omega arith)
          (λ task at. c.state_of_lane.ensures ∙ is j (omega arith) task at),
    )

pub returns : goal.returns
returns c = λ tasks is.
    let all : c.loop-j.j ≡ 8 = omega arith in
    subst (λ (n : ℕ). DigestsWritten tasks c.args.digests.now c.loop-j.digests c.args.places.now n) all (c.loop-j.invariant.1 tasks is)
