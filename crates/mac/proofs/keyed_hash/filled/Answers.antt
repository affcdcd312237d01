use Rattle.std.proofs.lemmas.List.{drop-replicate}
use Rattle.mac.proofs.keyed_hash.filled.Goals as goal

pub returns : goal.returns
returns c = rw (drop-replicate, c.copy_from_slice.ensures.after)
