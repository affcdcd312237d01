use Rattle.effects.specs.Taking.{meaning_of}
use Rattle.laws_opening.proofs.OpeningLemmas.{opens_beside}
use Rattle.laws_opening.proofs.laws.two_gateways_come_to_keys.Goals as goal

pub returns : goal.returns
returns g c =
    opens_beside g.C.Sealer g.C.Agreement g.C.Proof (c.a_gateway_that_can_begin_asks.ensures.asks (meaning_of g.C.Sealer g.C.Agreement g.C.Proof))
    (c.a_gateway_with_room_answers.ensures (meaning_of g.C.Sealer g.C.Agreement g.C.Proof)) c.a_gateway_that_waits_takes_the_answer_up.ensures
