use Rattle.gateway.proofs.CarryingLemmas.{ended, only_the_known, only_the_proved, sealed_is_protected, settings_kept}
use Rattle.gateway.proofs.StandingLemmas.{StepFacts}
use Rattle.laws_authenticated.proofs.laws.only_the_authenticated_carry.Goals as goal

pub returns : goal.returns
returns g c =
    let facts : StepFacts = record {
      laws = c.steps_keep_their_laws.ensures;
      waits = c.children_are_made_of_their_messages.ensures.waits;
      half_open = c.requests_are_remembered.ensures.half_open;
      stay = c.traces_name_what_is_held.ensures.keys;
      held = c.what_is_held_was_held.ensures;
      go = c.pairs_go_with_their_associations.ensures;
    } in
    record {
      known = λ meaning_of inputs outputs old new passages history all.
          (only_the_known facts meaning_of old new passages history.trail all, ended facts meaning_of old new passages history.trail all);
      proved = λ meaning_of config entries start caller inputs outputs new passages history.
          only_the_proved meaning_of config entries start caller new passages history.trail facts;
      settings = λ meaning_of inputs outputs old new passages place p history there. settings_kept meaning_of old new passages place p history.trail there;
      sealed = λ meaning_of p child number octets is says. sealed_is_protected meaning_of p child number octets is says;
    }
