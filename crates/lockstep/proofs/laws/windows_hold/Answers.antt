use Rattle.lockstep.proofs.PromiseLemmas.{always_sound, sound_windows}
use Rattle.lockstep.proofs.laws.windows_hold.Goals as goal

pub returns-clause-sound : goal.returns-clause-sound
returns-clause-sound c = sound_windows

pub returns-clause-always : goal.returns-clause-always
returns-clause-always c = λ old new steps asking answering begun is held. sound_windows new asking answering (always_sound old new steps begun is) held
