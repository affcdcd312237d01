use Rattle.ike.proofs.ProvingLemmas.{step_known}
use Rattle.ike.proofs.laws.peers.the_established_proved_themselves.Goals as goal

pub returns : goal.returns
returns c = step_known (record { itself = c.associations_stay_themselves.ensures; proves = c.the_established_proved_themselves.ensures.message }) c.some_are_held_on.ensures.held
