use Rattle.further.proofs.OfferLemmas.{plain_extension_allowed, plain_offer_kept, plain_offer_narrowed, plain_policy_obeyed, plain_proposal_taken, plain_request_kept}
use Rattle.further.proofs.laws.further_children_keep_to_their_offers.Goals as goal

pub returns-clause-offer : goal.returns-clause-offer
returns-clause-offer c = λ setup ike keys table deleting plain made.
    plain_offer_kept setup ike keys table deleting plain made c.octets_spell_one_message.ensures.chain c.responses_keep_to_their_offers.ensures.offer

pub returns-clause-policy : goal.returns-clause-policy
returns-clause-policy c = λ setup ike keys table deleting plain made. plain_policy_obeyed setup ike keys table deleting plain made c.responses_keep_to_their_offers.ensures.policy

pub returns-clause-narrowed : goal.returns-clause-narrowed
returns-clause-narrowed c = λ setup ike keys table deleting plain made.
    plain_offer_narrowed setup ike keys table deleting plain made c.octets_spell_one_message.ensures.chain c.responses_keep_to_their_offers.ensures.narrowed

pub returns-clause-extension : goal.returns-clause-extension
returns-clause-extension c = λ setup ike keys table deleting plain made.
    plain_extension_allowed setup ike keys table deleting plain made c.responses_keep_to_their_offers.ensures.extension

pub returns-clause-proposal : goal.returns-clause-proposal
returns-clause-proposal c = λ setup ike keys table deleting plain made.
    plain_proposal_taken setup ike keys table deleting plain made c.octets_spell_one_message.ensures.chain c.responses_keep_to_their_offers.ensures.proposal

pub returns-clause-accepted : goal.returns-clause-accepted
returns-clause-accepted c = plain_request_kept c.what_is_accepted_was_asked.ensures
