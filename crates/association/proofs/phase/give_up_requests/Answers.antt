use Rattle.association.proofs.GivingUpLemmas.{all_requests, all_spis, fewer_left, none_yet, not_yet, one_more}
use Rattle.association.proofs.phase.give_up_requests.Goals as goal

pub loop-number-init : goal.loop-number-init
loop-number-init c = none_yet c.args.requests.now c.args.table.now

pub give_up_request-requires-clause-reserved : goal.give_up_request-requires-clause-reserved
give_up_request-requires-clause-reserved c = λ spi awaits.
    not_yet c.args.requests.now c.args.table.now c.loop-number.requests c.loop-number.table c.in-Some.number _ spi c.requires.reserved c.requires.one c.loop-number.invariant c.in-Some.ensures.some.there awaits

pub loop-number-preserved : goal.loop-number-preserved
loop-number-preserved c =
    one_more c.args.requests.now c.args.table.now c.loop-number.requests c.loop-number.table c.in-Some.number c.give_up_request.new.requests c.give_up_request.new.table c.loop-number.invariant c.give_up_request.ensures

pub loop-number-smaller : goal.loop-number-smaller
loop-number-smaller c = fewer_left c.loop-number.requests c.give_up_request.new.requests c.in-Some.number _ c.give_up_request.ensures.withdrawn

pub returns-clause-requests : goal.returns-clause-requests
returns-clause-requests c = all_requests c.args.requests.now c.args.table.now c.loop-number.requests c.loop-number.table c.loop-number.invariant (λ q. c.in_default.ensures.none q tt)

pub returns-clause-spis : goal.returns-clause-spis
returns-clause-spis c = all_spis c.args.requests.now c.args.table.now c.loop-number.requests c.loop-number.table c.loop-number.invariant (λ q. c.in_default.ensures.none q tt)
