use Rattle.effects.proofs.MadeLemmas.{asked_before, asks_for_child, asks_further, makes_child, waits_for_child}
use Rattle.effects.proofs.WaitLemmas.{ordered_further, waits_further}
use Rattle.effects.proofs.laws.payloads.children_are_made_of_their_messages.Goals as goal

pub returns-clause-made : goal.returns-clause-made
returns-clause-made c =
    makes_child
    (record {
      made = c.pairs_are_children.ensures.made;
      accepted = c.pairs_are_children.ensures.accepted;
      asked = c.what_is_accepted_was_asked.ensures;
      offer = c.responses_keep_to_their_offers.ensures.offer;
      policy = c.responses_keep_to_their_offers.ensures.policy;
      narrowed = c.responses_keep_to_their_offers.ensures.narrowed;
      extension = c.responses_keep_to_their_offers.ensures.extension;
      few_made = c.pairs_have_few_selectors.ensures.made;
      few_accepted = c.pairs_have_few_selectors.ensures.accepted;
      fit = c.what_is_read_fits.ensures;
      ts_i = c.what_counts_fits.ensures.ts_i;
      ts_r = c.what_counts_fits.ensures.ts_r;
      effective = c.receptions_say_why.ensures.effective;
      answering = c.receptions_say_why.ensures.answering;
    })
    (record {
      made = c.further_pairs_are_children.ensures.made;
      accepted = c.further_pairs_are_children.ensures.accepted;
      offer = c.further_children_keep_to_their_offers.ensures.offer;
      policy = c.further_children_keep_to_their_offers.ensures.policy;
      narrowed = c.further_children_keep_to_their_offers.ensures.narrowed;
      extension = c.further_children_keep_to_their_offers.ensures.extension;
      asked = c.further_children_keep_to_their_offers.ensures.accepted;
      few_made = c.further_pairs_have_few_selectors.ensures.made;
      few_accepted = c.further_pairs_have_few_selectors.ensures.accepted;
    })

pub returns-clause-asked : goal.returns-clause-asked
returns-clause-asked c = asks_for_child

pub returns-clause-waits : goal.returns-clause-waits
returns-clause-waits c = waits_for_child

pub returns-clause-asked_further : goal.returns-clause-asked_further
returns-clause-asked_further c = asks_further

pub returns-clause-waits_further : goal.returns-clause-waits_further
returns-clause-waits_further c = waits_further (record {
  reflexive = c.later_incoming_follow.ensures.reflexive;
  transitive = c.later_incoming_follow.ensures.transitive;
  preparing = c.later_incoming_follow.ensures.preparing;
  taking = c.later_incoming_follow.ensures.taking;
  sizing = c.later_incoming_follow.ensures.sizing;
}) c.windows_are_read_again.ensures.bounds

pub returns-clause-ordered_further : goal.returns-clause-ordered_further
returns-clause-ordered_further c = ordered_further

pub returns-clause-asked_first : goal.returns-clause-asked_first
returns-clause-asked_first c = asked_before
