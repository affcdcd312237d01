use Rattle.lockstep.proofs.PromiseLemmas.{always_sound, sound_in_step}
use Rattle.lockstep.proofs.laws.windows_of_one_keep_in_step.Goals as goal

pub returns-clause-sound : goal.returns-clause-sound
returns-clause-sound c = sound_in_step

pub returns-clause-always : goal.returns-clause-always
returns-clause-always c = λ old new steps asking answering begun is held window.
    sound_in_step new asking answering (always_sound old new steps begun is) held window
