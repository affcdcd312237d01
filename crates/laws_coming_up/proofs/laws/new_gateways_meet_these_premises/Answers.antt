use Rattle.effects.specs.Taking.{meaning_of}
use Rattle.laws_coming_up.proofs.SetUpLemmas.{has_place, is_beside, set_up_beside}
use Rattle.laws_coming_up.proofs.laws.new_gateways_meet_these_premises.Goals as goal

pub returns-clause-set_up : goal.returns-clause-set_up
returns-clause-set_up g c one other a b place entry asking answering reading shared p q r s t can one_can other_can are =
    let m = meaning_of g.C.Sealer g.C.Agreement g.C.Proof in
    let h = c.two_new_gateways_come_to_keys.ensures one other a b place entry asking answering reading shared p q r can are.opens in
    let opens = is_beside m (c.a_gateway_that_can_begin_asks.ensures.asks m) c.a_gateway_that_can_begin_asks.ensures.waits (m a) one other a b place entry asking answering reading
    shared p q r can are.opens in
    let k = c.two_gateways_come_to_keys.ensures place entry asking answering reading shared p q r opens can.asking_drawn can.answering_drawn can.agrees in
    set_up_beside m one other a b place entry asking answering reading shared p q r s t can can.agrees one_can other_can are h opens k

pub returns-clause-place : goal.returns-clause-place
returns-clause-place g c one other a b place entry asking answering reading shared p q r s t can one_can other_can are =
    let m = meaning_of g.C.Sealer g.C.Agreement g.C.Proof in
    let h = c.two_new_gateways_come_to_keys.ensures one other a b place entry asking answering reading shared p q r can are.opens in
    let opens = is_beside m (c.a_gateway_that_can_begin_asks.ensures.asks m) c.a_gateway_that_can_begin_asks.ensures.waits (m a) one other a b place entry asking answering reading
    shared p q r can are.opens in
    let k = c.two_gateways_come_to_keys.ensures place entry asking answering reading shared p q r opens can.asking_drawn can.answering_drawn can.agrees in
    has_place m one other a b place entry asking answering reading shared p q r s t can can.agrees one_can other_can are h opens k
