use Rattle.lockstep.proofs.LogLemmas.{sound_later}
use Rattle.lockstep.proofs.RunLemmas.{sound_done}
use Rattle.lockstep.proofs.laws.each_end_stays_sound.Goals as goal

pub returns-clause-kept : goal.returns-clause-kept
returns-clause-kept c = λ deed old new others sound does genuine once. sound_done deed old new others does genuine once sound

pub returns-clause-later : goal.returns-clause-later
returns-clause-later c = λ e others later sound all. sound_later e others later all sound
