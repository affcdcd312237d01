use Rattle.esp.proofs.Runs.{sound_shown, takes_shown}
use Rattle.esp.proofs.laws.windows_show_what_was_taken.Goals as goal

pub returns-clause-sound : goal.returns-clause-sound
returns-clause-sound c = sound_shown

pub returns-clause-taking : goal.returns-clause-taking
returns-clause-taking c = takes_shown
