use Rattle.std.proofs.Common.{refl}
use Rattle.sha2.specs.Sha256.{digest_bytes}
use Rattle.lanes.proofs.tagging.first_octets.Goals as goal

pub returns : goal.returns
unfolding digest_bytes
returns c = rw (c.to_be_bytes.ensures, c.to_be_bytes-2.ensures, c.to_be_bytes-3.ensures, c.to_be_bytes-4.ensures) refl
