use Rattle.replay.proofs.WindowFacts.{fresh, takes_sound}
use Rattle.replay.proofs.laws.taking_keeps_windows_sound.Goals as goal

pub returns : goal.returns
returns c = λ old new n sound is_fresh small takes. takes_sound old new n sound (fresh old n is_fresh) small takes
