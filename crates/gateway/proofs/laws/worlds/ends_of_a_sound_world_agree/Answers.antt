use Rattle.gateway.proofs.SoundWorldLemmas.{ends_agree, PartyLaws, StepLaws}
use Rattle.gateway.proofs.laws.worlds.ends_of_a_sound_world_agree.Goals as goal

pub returns : goal.returns
returns g c =
    let laws : PartyLaws = record {
      kept = c.each_party_stays_sound.ensures.kept;
      later = c.each_party_stays_sound.ensures.later;
      told = c.what_was_sent_under_keys_is_told.ensures.there;
      appended = c.what_was_sent_under_keys_is_told.ensures.later;
      counted = c.what_was_sent_under_keys_is_told.ensures.counted;
    } in
    let steps : StepLaws = record {
      issued = c.parties_keep_in_step.ensures.issued;
      windows = c.parties_keep_in_step.ensures.windows;
      steps = c.parties_keep_in_step.ensures.steps;
    } in
    λ keys world sound. ends_agree laws steps keys world sound
