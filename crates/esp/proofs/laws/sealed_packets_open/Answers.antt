use Rattle.esp.proofs.PacketLemmas.{openable}
use Rattle.esp.proofs.laws.sealed_packets_open.Goals as goal

pub returns : goal.returns
returns c = λ a n next payload b s small. openable a n next payload b s small
