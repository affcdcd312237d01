use Rattle.effects.specs.Taking.{meaning_of}
use Rattle.laws_opening.proofs.OpeningLemmas.{opens}
use Rattle.laws_opening.proofs.laws.two_new_gateways_come_to_keys.Goals as goal

pub returns : goal.returns
returns g c =
    opens g.C.Sealer g.C.Agreement g.C.Proof (c.a_new_gateway_asks.ensures (meaning_of g.C.Sealer g.C.Agreement g.C.Proof))
    (c.a_new_gateway_answers.ensures (meaning_of g.C.Sealer g.C.Agreement g.C.Proof)) c.the_answer_is_taken_up.ensures
