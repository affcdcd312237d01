use Rattle.laws_two_ends.specs.WorkedRuns.{run_meaning}
use Rattle.laws_coming_up.proofs.WorkedLemmas.{is_met}
use Rattle.laws_coming_up.proofs.laws.the_premises_of_a_tunnel_are_met.Goals as goal

pub returns : goal.returns
returns g c = λ a b.
    is_met a b c.octets_spell_one_message.ensures.message c.what_is_spelled_has_no_fault.ensures c.plain_spellings_are_spellings.ensures.message
    (c.a_new_gateway_asks.ensures (λ _. run_meaning)) (c.a_new_gateway_answers.ensures (λ _. run_meaning)) (c.the_premises_are_met_from_new_gateways_on.ensures a b)
