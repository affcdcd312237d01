use Rattle.ike.proofs.LawfulLemmas.{step_lawful, Laws}
use Rattle.ike.proofs.laws.steps.steps_keep_their_laws.Goals as goal

pub returns : goal.returns
returns c =
    let laws : Laws = record {
      moves = c.steps_are_moves.ensures;
      in_effect = c.requests_take_effect.ensures.alone;
      established = c.the_established_proved_themselves.ensures;
      traced = c.traces_name_what_is_held.ensures.traced;
      clear = c.traces_name_what_is_held.ensures.clear;
      one = c.one_association_is_changed.ensures;
      few = c.children_have_few_selectors.ensures;
      made = c.children_are_made_of_their_messages.ensures.made;
      extended = c.children_are_extended_where_allowed.ensures;
      initial = c.answers_keep_to_their_offers.ensures.initial;
      sealed = c.answers_keep_to_their_offers.ensures.sealed;
      other = c.answers_keep_to_their_offers.ensures.other;
      cookie = c.no_association_without_a_cookie.ensures;
    } in
    step_lawful laws
