use Rattle.ike.proofs.OutputLemmas.{step_otherwise, step_replied, MoreLaws}
use Rattle.ike.proofs.RequestLemmas.{step_brings, step_takes, Laws}
use Rattle.ike.proofs.laws.taking_effect.requests_take_effect.Goals as goal

pub returns : goal.returns
returns c =
    let laws : Laws = record {
      itself = c.associations_stay_themselves.ensures;
      alone = c.requests_take_effect.ensures.alone;
      always = c.requests_take_effect.ensures.always;
      follows = c.requests_are_remembered.ensures.follows;
      concluded = c.requests_are_remembered.ensures.concluded;
      opened = c.requests_are_remembered.ensures.half_open;
      repeated = c.repeats_are_answered.ensures.repeated;
      forgotten = c.repeats_are_answered.ensures.forgotten;
      reflexive = c.later_incoming_follow.ensures.reflexive;
      message = c.octets_spell_one_message.ensures.message;
      faultless = c.what_is_spelled_has_no_fault.ensures;
    } in
    let more : MoreLaws = record {
      laws = laws;
      otherwise = c.requests_take_effect.ensures.otherwise;
      replied = c.requests_take_effect.ensures.replied;
      only = c.repeats_are_answered.ensures.only;
      window = c.requests_are_remembered.ensures.window;
    } in
    record {
      alone = step_brings laws c.some_are_held_on.ensures.held;
      always = step_takes laws;
      otherwise = step_otherwise more;
      replied = step_replied more;
    }
