use Rattle.base.proofs.OctetLemmas.{octets_from_fits}
use Rattle.auth.proofs.proving.are_octets.Goals as goal

pub returns : goal.returns
returns c = octets_from_fits c.args.octets.now c.type_inv.octets
