use Rattle.gateway.proofs.InsideLemmas.{InsideFacts}
use Rattle.gateway.proofs.InsideRunLemmas.{before_each, begun, ended}
use Rattle.gateway.proofs.InsideRunLemmas as lemma
use Rattle.gateway.proofs.StandingLemmas.{StepFacts}
use Rattle.laws_authenticated.proofs.laws.children_lie_inside_the_policy.Goals as goal

pub returns : goal.returns
returns g c =
    let steps : StepFacts = record {
      laws = c.steps_keep_their_laws.ensures;
      waits = c.children_are_made_of_their_messages.ensures.waits;
      half_open = c.requests_are_remembered.ensures.half_open;
      stay = c.traces_name_what_is_held.ensures.keys;
      held = c.what_is_held_was_held.ensures;
      go = c.pairs_go_with_their_associations.ensures;
    } in
    let facts : InsideFacts = record {
      first = c.children_are_made_of_their_messages-2.ensures.asked_first;
      further = c.children_are_made_of_their_messages-2.ensures.waits_further;
      ordered = c.children_are_made_of_their_messages-2.ensures.ordered_further;
      held = c.some_are_held_on.ensures.held;
    } in
    record {
      begun = λ config entries start caller. begun config entries start caller;
      stepped = λ meaning_of p is all. lemma.stepped steps facts meaning_of p is all;
      kept = λ meaning_of inputs outputs old new passages place p history all there.
          (before_each steps facts meaning_of old new passages place p history.trail all there, ended steps facts meaning_of old new passages history.trail all);
    }
