use Rattle.lockstep.proofs.RunLemmas.{again_sent}
use Rattle.lockstep.proofs.laws.what_goes_out_again_went_out.Goals as goal

pub returns : goal.returns
returns c = λ deed old new others entry sound does there. again_sent old others deed.again sound does.repeats entry there
