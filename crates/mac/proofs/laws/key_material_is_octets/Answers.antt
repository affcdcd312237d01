use Rattle.mac.proofs.MaterialLemmas.{material_long, material_octets}
use Rattle.mac.proofs.laws.key_material_is_octets.Goals as goal

pub returns-clause-length : goal.returns-clause-length
returns-clause-length c = material_long

pub returns-clause-octets : goal.returns-clause-octets
returns-clause-octets c = material_octets
