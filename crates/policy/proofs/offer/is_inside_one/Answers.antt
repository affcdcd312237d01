use Rattle.std.proofs.lemmas.Option.{slice_get-get_or}
use Rattle.policy.specs.Points.{HoldsPoint, LiesIn}
use Rattle.policy.proofs.Scanning.{none_more, none_at_all}
use Rattle.policy.proofs.offer.is_inside_one.Goals as goal

pub loop-other-preserved : goal.loop-other-preserved
loop-other-preserved c =
    none_more (λ other. LiesIn (HoldsPoint c.args.selector.now) (HoldsPoint other)) c.args.offered.now c.loop-other.other-index _
    (slice_get-get_or c.args.offered.now c.loop-other.other-index _ c.loop-other-test.true) (λ inside. let yes = c.lies_in.ensures.1 inside in absurd (cc)) c.loop-other.invariant

pub returns : goal.returns
returns c = (
  λ is. absurd (cc),
  λ inside.
      absurd (none_at_all (λ other. LiesIn (HoldsPoint c.args.selector.now) (HoldsPoint other)) c.args.offered.now c.loop-other.other-index c.loop-other-test.false c.loop-other.invariant inside.place inside.selector inside.there inside.inside),
)
