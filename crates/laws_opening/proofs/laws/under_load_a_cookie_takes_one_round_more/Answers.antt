use Rattle.effects.specs.Taking.{meaning_of}
use Rattle.laws_opening.proofs.OpeningLemmas.{opens_under_load}
use Rattle.laws_opening.proofs.laws.under_load_a_cookie_takes_one_round_more.Goals as goal

pub returns : goal.returns
returns g c =
    opens_under_load g.C.Sealer g.C.Agreement g.C.Proof (c.a_gateway_that_can_begin_asks.ensures.asks (meaning_of g.C.Sealer g.C.Agreement g.C.Proof))
    (c.a_gateway_under_load_asks_for_a_cookie.ensures.none (meaning_of g.C.Sealer g.C.Agreement g.C.Proof))
    (c.the_cookie_is_brought.ensures.brings (meaning_of g.C.Sealer g.C.Agreement g.C.Proof))
    (c.a_right_cookie_is_accepted.ensures (meaning_of g.C.Sealer g.C.Agreement g.C.Proof)) c.a_gateway_that_waits_takes_the_answer_up.ensures
