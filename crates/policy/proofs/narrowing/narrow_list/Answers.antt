use Rattle.std.proofs.Common.{◌∙◌}
use Rattle.policy.proofs.NarrowLemmas.{narrowed_keep, narrowed_skip, narrowed_all}
use Rattle.policy.proofs.narrowing.narrow_list.Goals as goal
use Rattle.policy.proofs.narrowing.narrow_list.Goals.{in-Some+in_ok-push, in_default}

pub loop-selector-preserved : goal.loop-selector-preserved
loop-selector-preserved c =
    elim c.match-common_part.branch [
      | in-Some+in_ok-push w ↦ narrowed_keep c.args.side.now c.args.offered.now c.loop-selector.selector-index _ c.loop-selector.narrowed c.match-common_part.narrowed _ c.loop-selector-test.true w.in-Some.ensures (w.narrowed-is ∙ w.in_ok-push.ensures.ok) c.loop-selector.invariant
      | in_default w ↦ narrowed_skip c.args.side.now c.args.offered.now c.loop-selector.selector-index _ c.loop-selector.narrowed c.match-common_part.narrowed c.loop-selector-test.true w.in_default.ensures w.narrowed-is c.loop-selector.invariant
    ]

pub returns : goal.returns
returns c = narrowed_all c.args.side.now c.args.offered.now c.loop-selector.selector-index c.loop-selector.narrowed c.loop-selector-test.false c.loop-selector.invariant
