use Rattle.std.specs.Prelude.{List, flat_map}
use Rattle.gateway.specs.Inputs.{Event}
use Rattle.gateway.specs.WorldParties.{parties_of}
use Rattle.gateway.specs.Worlds.{new_world}
use Rattle.gateway.specs.declared.output.Output.{Output}
use Rattle.gateway.specs.declared.world.stored.End.TheVariants.{A, B}
use Rattle.gateway.proofs.MoveLemmas.{TurnLaws}
use Rattle.gateway.proofs.SoundWorldLemmas.{by_then_unforged, new_party, not_twice_before, still_sent, trail_sound, world_calls_joined, world_promises, PartyLaws, StepLaws}
use Rattle.gateway.proofs.laws.worlds.every_world_stays_sound.Goals as goal

pub returns : goal.returns
returns g c =
    let turns : TurnLaws = record {
      moves = c.steps_are_moves.ensures;
      traces = record { traced = c.traces_name_what_is_held.ensures.traced };
      again = c.traces_name_what_is_held.ensures.again;
      keys = c.traces_name_what_is_held.ensures.keys;
    } in
    let laws : PartyLaws = record {
      kept = c.each_party_stays_sound.ensures.kept;
      later = c.each_party_stays_sound.ensures.later;
      told = c.what_was_sent_under_keys_is_told.ensures.there;
      appended = c.what_was_sent_under_keys_is_told.ensures.later;
      counted = c.what_was_sent_under_keys_is_told.ensures.counted;
    } in
    let steps : StepLaws = record {
      issued = c.parties_keep_in_step.ensures.issued;
      windows = c.parties_keep_in_step.ensures.windows;
      steps = c.parties_keep_in_step.ensures.steps;
    } in
    record {
      begun = λ keys a b first second. c.parties_stay_sound.ensures.begun keys (parties_of (new_world a b)) (new_party A a b first second) (new_party B a b first second);
      trail = λ meaning_of happenings old new trail. trail_sound turns laws steps meaning_of happenings old new trail;
      run = λ meaning_of events outputs old new run. world_promises turns laws steps meaning_of events outputs old new run;
      calls = λ meaning_of lists outputs old new calls.
          world_promises turns laws steps meaning_of (flat_map (λ (events : List Event). events) lists) (flat_map (λ (list : List Output). list) outputs) old new
          (world_calls_joined meaning_of lists outputs old new calls);
      by_then = λ meaning_of keys happenings old new trail unforged. by_then_unforged meaning_of keys happenings old new trail unforged;
      not_twice = λ keys now later since once. not_twice_before laws keys now later since once;
      still_sent = λ end keys response number octets now later since sent. still_sent end keys response number octets now later since sent;
    }
