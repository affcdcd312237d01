use Rattle.ike.proofs.InitialLemmas.{first_unrefused, opens_unrefused, step_repeats_first}
use Rattle.ike.proofs.OutputLemmas.{step_repeats_only, MoreLaws}
use Rattle.ike.proofs.RequestLemmas.{step_forgets, step_repeats, Laws}
use Rattle.ike.proofs.laws.taking_effect.repeats_are_answered.Goals as goal

pub returns : goal.returns
returns c =
    let laws : Laws = record {
      itself = c.associations_stay_themselves.ensures;
      alone = c.requests_take_effect.ensures.alone;
      always = c.requests_take_effect.ensures.always;
      follows = c.requests_are_remembered.ensures.follows;
      concluded = c.requests_are_remembered.ensures.concluded;
      opened = c.requests_are_remembered.ensures.half_open;
      repeated = c.repeats_are_answered.ensures.repeated;
      forgotten = c.repeats_are_answered.ensures.forgotten;
      reflexive = c.later_incoming_follow.ensures.reflexive;
      message = c.octets_spell_one_message.ensures.message;
      faultless = c.what_is_spelled_has_no_fault.ensures;
    } in
    let more : MoreLaws = record {
      laws = laws;
      otherwise = c.requests_take_effect.ensures.otherwise;
      replied = c.requests_take_effect.ensures.replied;
      only = c.repeats_are_answered.ensures.only;
      window = c.requests_are_remembered.ensures.window;
    } in
    record {
      repeated = step_repeats laws c.what_is_quiet_changes_nothing.ensures;
      forgotten = step_forgets laws c.what_is_quiet_changes_nothing.ensures;
      first = step_repeats_first laws c.what_is_quiet_changes_nothing.ensures;
      unrefused = opens_unrefused laws;
      unrefused_first = first_unrefused;
      only = step_repeats_only more;
    }
