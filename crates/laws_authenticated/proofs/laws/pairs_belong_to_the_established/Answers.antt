use Rattle.gateway.proofs.CarryingLemmas as lemma
use Rattle.gateway.proofs.StandingLemmas.{StepFacts}
use Rattle.laws_authenticated.proofs.laws.pairs_belong_to_the_established.Goals as goal

pub returns : goal.returns
returns g c =
    let facts : StepFacts = record {
      laws = c.steps_keep_their_laws.ensures;
      waits = c.children_are_made_of_their_messages.ensures.waits;
      half_open = c.requests_are_remembered.ensures.half_open;
      stay = c.traces_name_what_is_held.ensures.keys;
      held = c.what_is_held_was_held.ensures;
      go = c.pairs_go_with_their_associations.ensures;
    } in
    record {
      begun = λ config entries start caller. lemma.begun config entries start caller;
      stepped = λ meaning_of p is all. lemma.stepped facts meaning_of p is all;
    }
