use Rattle.std.proofs.Common.{◌%◌, ◌-◌, ap, sym, ◌∙◌, arith}
use Rattle.std.specs.Prelude.{bit_and}
use Rattle.std.proofs.lemmas.Nat.{and_mask}
use Rattle.replay.proofs.BlockCountLemmas.{at_least_two}
use Rattle.replay.proofs.block.place.Goals as goal

pub overflow_sub-result : goal.overflow_sub-result
overflow_sub-result c = let two = at_least_two _ c.requires in omega arith

pub returns : goal.returns
returns c =
    let count = c.requires in
    ap (λ m. bit_and c.args.block (m - 1)) count.3 ∙ and_mask c.args.block count.0 ∙ ap (λ m. c.args.block % m) (sym count.3)
