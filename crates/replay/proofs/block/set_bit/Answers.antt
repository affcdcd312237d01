use Rattle.std.proofs.Common.{◌/◌, length, arith}
use Rattle.std.proofs.lemmas.Nat.{mod_below}
use Rattle.replay.proofs.BlockCountLemmas.{at_least_two}
use Rattle.replay.proofs.BlockLemmas.{set_marks}
use Rattle.replay.proofs.block.set_bit.Goals as goal

pub returns-clause-marked : goal.returns-clause-marked
returns-clause-marked c =
    λ q. set_marks c.args.blocks.now c.args.n q c.place-place.result c.place-place.ensures (rw c.place-place.ensures (mod_below (c.args.n / 64) (length c.args.blocks.now) (let two = at_least_two _ c.requires in omega arith)))
