use Rattle.exchange.proofs.DeterminedSealing.{tells_length}
use Rattle.exchange.proofs.laws.ciphers_tell_lengths.Goals as goal

pub returns : goal.returns
returns g c = tells_length g.S.Sealer.body_of g.S.Sealer.sealed_size g.met.S.Sealer.length_told
