use Rattle.ike.proofs.OfferLemmas.{step_first_offer, step_no_offer, step_sealed_offer, AnswerLaws}
use Rattle.ike.proofs.laws.made_children.answers_keep_to_their_offers.Goals as goal

pub returns : goal.returns
returns c =
    let laws : AnswerLaws = record {
      initial = c.answers_keep_to_their_offers.ensures.initial;
      message = c.answers_keep_to_their_offers.ensures.message;
    } in
    record { initial = step_first_offer laws; sealed = step_sealed_offer laws; other = step_no_offer }
