use Rattle.further.proofs.DeterminedFurther.{one_conclusion, one_decision, AnswerLaws}
use Rattle.further.proofs.JudgementLemmas.{judged_once}
use Rattle.further.proofs.laws.further_children_are_determined.Goals as goal

pub returns-clause-judged : goal.returns-clause-judged
returns-clause-judged c = judged_once

pub returns-clause-decided : goal.returns-clause-decided
returns-clause-decided c =
    let laws : AnswerLaws = record {
      chain = c.octets_spell_one_message.ensures.chain;
      response = c.answers_are_determined.ensures.response;
      moved = c.children_are_determined.ensures.answered;
      accepted = c.answers_are_determined.ensures.accepted;
      acceptable = c.children_are_determined.ensures.acceptable;
    } in
    λ setup ike keys table other deleting plain one another same is also. one_decision laws setup ike keys table other same deleting plain one another is also

pub returns-clause-concluded : goal.returns-clause-concluded
returns-clause-concluded c =
    let laws : AnswerLaws = record {
      chain = c.octets_spell_one_message.ensures.chain;
      response = c.answers_are_determined.ensures.response;
      moved = c.children_are_determined.ensures.answered;
      accepted = c.answers_are_determined.ensures.accepted;
      acceptable = c.children_are_determined.ensures.acceptable;
    } in
    λ blocks ike keys asked own_nonce plain one another is also. one_conclusion laws blocks ike keys asked own_nonce plain one another is also
