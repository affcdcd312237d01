use Rattle.moments.proofs.HeldLemmas.{sent_outstanding}
use Rattle.moments.proofs.laws.what_goes_out_again_is_outstanding.Goals as goal

pub returns : goal.returns
returns c = sent_outstanding
