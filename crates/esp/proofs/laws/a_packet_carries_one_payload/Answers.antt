use Rattle.esp.proofs.PacketLemmas.{one_contents}
use Rattle.esp.proofs.laws.a_packet_carries_one_payload.Goals as goal

pub returns : goal.returns
returns c = one_contents
