use Rattle.lockstep.proofs.RunLemmas.{begins_sound, stays_sound, step_stays_sound}
use Rattle.lockstep.proofs.laws.ends_stay_sound.Goals as goal

pub returns-clause-begun : goal.returns-clause-begun
returns-clause-begun c = begins_sound

pub returns-clause-kept : goal.returns-clause-kept
returns-clause-kept c = stays_sound

pub returns-clause-stepped : goal.returns-clause-stepped
returns-clause-stepped c = step_stays_sound
