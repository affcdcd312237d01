use Rattle.std.proofs.Common.{refl, rules}
use Rattle.std.proofs.lemmas.Option.{slice_get-get_or}
use Rattle.policy.specs.Narrowing.{LiesInOffer}
use Rattle.policy.proofs.Scanning.{each_more, each_of_all}
use Rattle.policy.proofs.offer.are_inside.Goals as goal

pub loop-selector-preserved : goal.loop-selector-preserved
loop-selector-preserved c =
    each_more (LiesInOffer c.args.offered.now) c.args.answer.now c.loop-selector.selector-index _ (slice_get-get_or c.args.answer.now c.loop-selector.selector-index _ c.loop-selector-test.true)
    (c.is_inside_one.ensures.0 c.if-not-is_inside_one.false) c.loop-selector.invariant

pub returns : goal.returns
returns c = (
  λ is. record {
    some = search rules;
    each = each_of_all (LiesInOffer c.args.offered.now) c.args.answer.now c.loop-selector.selector-index c.loop-selector-test.false c.loop-selector.invariant;
  },
  λ answers. refl,
)
