use Rattle.ike.proofs.FurtherLemmas.{step_asks_now, step_further, FurtherLaws}
use Rattle.ike.proofs.TraceLemmas.{step_asks, step_makes, step_waits, TraceFacts}
use Rattle.ike.proofs.laws.made_children.children_are_made_of_their_messages.Goals as goal

pub returns : goal.returns
returns c =
    let facts : TraceFacts = record {
      itself = c.associations_stay_themselves.ensures;
      keyed = c.keys_stay.ensures.keyed;
      stay = c.keys_stay.ensures.stay;
      made = c.children_are_made_of_their_messages.ensures.made;
      asks = c.children_are_made_of_their_messages.ensures.asked;
      waits = c.children_are_made_of_their_messages.ensures.waits;
      sound = c.soundness_stays.ensures;
    } in
    let further : FurtherLaws = record {
      itself = c.associations_stay_themselves.ensures;
      waits = c.children_are_made_of_their_messages.ensures.waits_further;
      ordered = c.children_are_made_of_their_messages.ensures.ordered_further;
      asked = c.children_are_made_of_their_messages.ensures.asked_further;
      next = c.requests_wait_on.ensures.next;
      begun_soundly = c.requests_are_remembered.ensures.begun;
    } in
    record {
      made = step_makes facts;
      asked = step_asks facts;
      waits = step_waits facts c.some_are_held_on.ensures.held;
      asked_further = step_asks_now further;
      waits_further = step_further further c.some_are_held_on.ensures.held;
    }
