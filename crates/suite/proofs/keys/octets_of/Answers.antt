use Rattle.base.proofs.OctetLemmas.{octets_from}
use Rattle.suite.proofs.keys.octets_of.Goals as goal

pub returns-clause-octets : goal.returns-clause-octets
returns-clause-octets c = octets_from c.args.key.now c.fits-key
