use Rattle.ike.proofs.WholeKeyLemmas.{new_whole, stepped_whole}
use Rattle.ike.proofs.laws.soundness.keys_stay_whole.Goals as goal

pub returns-clause-sound : goal.returns-clause-sound
returns-clause-sound c = λ machine table sound place a there. (sound.held.each place a there).whole

pub returns-clause-begun : goal.returns-clause-begun
returns-clause-begun c = new_whole

pub returns-clause-stepped : goal.returns-clause-stepped
returns-clause-stepped c = stepped_whole (record { held = c.some_are_held_on.ensures.held; admitted = c.keys_stay_whole.ensures.admitted; taken = c.keys_stay_whole.ensures.taken })
