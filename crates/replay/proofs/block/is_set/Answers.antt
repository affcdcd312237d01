use Rattle.std.proofs.Common.{◌%◌, get_or, nat_eq, ap, ◌∙◌}
use Rattle.std.proofs.lemmas.Nat.Bits.{shr_and_one}
use Rattle.std.specs.Int.{bit_at}
use Rattle.replay.specs.Blocks.{is_marked}
use Rattle.replay.proofs.block.is_set.Goals as goal

pub returns : goal.returns
unfolding is_marked
returns c =
    ap (λ b. nat_eq b 1) (shr_and_one (get_or c.args.blocks.now c.place.result 0) (c.args.n % 64))
    ∙ ap (λ p. nat_eq (bit_at (get_or c.args.blocks.now p 0) (c.args.n % 64)) 1) c.place.ensures
