use Rattle.proved_octets.proofs.PartLemmas.{proved_tells}
use Rattle.proved_octets.proofs.laws.what_is_proved_tells_its_parts.Goals as goal

pub returns : goal.returns
returns c = proved_tells
