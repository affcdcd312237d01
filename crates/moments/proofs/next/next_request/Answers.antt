use Rattle.std.proofs.Common.{◌∙◌, ap}
use Rattle.requests.specs.Outstanding.{requests_left}
use Rattle.moments.proofs.NextLemmas.{none_walked, walked_all, walked_one}
use Rattle.moments.proofs.next.next_request.Goals as goal

pub loop-request-init : goal.loop-request-init
loop-request-init c = none_walked c.args.association.now _ (ap requests_left c.into_iter-request-iterator.ensures.into_iter_gives ∙ c.iter-request-items.ensures)

pub loop-request-preserved : goal.loop-request-preserved
loop-request-preserved c =
    walked_one _ _ c.loop-request.first c.moment.result _ c.args.association.now c.in-Some.field-0-0 c.in-Some.request.now c.in-Some.ensures.steps c.loop-request.invariant c.moment.ensures c.earlier-first.ensures

pub returns-clause-early : goal.returns-clause-early
returns-clause-early c = walked_all _ c.loop-request.first c.args.association.now (c.in-None.ensures.steps).0 c.loop-request.invariant
