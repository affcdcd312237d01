use Rattle.ike.proofs.InitialLemmas.{step_admits, step_next, step_rises}
use Rattle.ike.proofs.OutputLemmas.{step_gone, step_widens, step_window, MoreLaws}
use Rattle.ike.proofs.RequestLemmas.{below, held_soundly, step_concludes, step_follows, step_opened, Laws}
use Rattle.ike.proofs.laws.taking_effect.requests_are_remembered.Goals as goal

pub returns : goal.returns
returns c =
    let laws : Laws = record {
      itself = c.associations_stay_themselves.ensures;
      alone = c.requests_take_effect.ensures.alone;
      always = c.requests_take_effect.ensures.always;
      follows = c.requests_are_remembered.ensures.follows;
      concluded = c.requests_are_remembered.ensures.concluded;
      opened = c.requests_are_remembered.ensures.half_open;
      repeated = c.repeats_are_answered.ensures.repeated;
      forgotten = c.repeats_are_answered.ensures.forgotten;
      reflexive = c.later_incoming_follow.ensures.reflexive;
      message = c.octets_spell_one_message.ensures.message;
      faultless = c.what_is_spelled_has_no_fault.ensures;
    } in
    let more : MoreLaws = record {
      laws = laws;
      otherwise = c.requests_take_effect.ensures.otherwise;
      replied = c.requests_take_effect.ensures.replied;
      only = c.repeats_are_answered.ensures.only;
      window = c.requests_are_remembered.ensures.window;
    } in
    record {
      follows = step_follows laws c.some_are_held_on.ensures.held;
      concluded = step_concludes laws c.some_are_held_on.ensures.held;
      half_open = step_opened laws c.some_are_held_on.ensures.held;
      admitted = step_admits laws c.some_are_held_on.ensures.held;
      begun = step_next laws c.some_are_held_on.ensures.held;
      rises = step_rises;
      given = λ machine table serial a sound stands. below machine.held table serial a sound.held stands;
      soundly = λ machine table serial a sound stands. held_soundly machine.held table serial a sound.held stands;
      window = step_window more c.some_are_held_on.ensures.held;
      widens = step_widens laws c.some_are_held_on.ensures.held
          (λ meaning setup old table octets m e new new_table open_yet stands is. (c.requests_are_remembered.ensures.widens meaning setup old table octets m e new new_table open_yet stands is).0);
      gone = step_gone laws c.what_is_held_was_held.ensures;
    }
