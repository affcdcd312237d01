use Rattle.std.proofs.Common.{rules}
use Rattle.ike.proofs.laws.given.seals_at_one_length.Goals as goal

pub returns : goal.returns
returns g c = record { told = λ keys keyed. c.ciphers_tell_lengths.ensures keys c.args.seal.now keyed c.are_octets.ensures (search rules) }
