use Rattle.std.proofs.Common.{◌≡◌, ◌+◌, ◌%◌, ◌≤◌, length, arith, ◌∙◌, ap, sym, subst}
use Rattle.std.proofs.lemmas.List.{length-set}
use Rattle.replay.specs.Window.{IsBlockCount}
use Rattle.replay.proofs.BlockCountLemmas.{at_least_two}
use Rattle.replay.proofs.BlockLemmas.{cleared_more, kept_more}
use Rattle.replay.proofs.block.clear_passed.Goals as goal

pub place-place-requires : goal.place-place-requires
place-place-requires c = subst IsBlockCount (sym c.loop-block.invariant.0) c.requires.count

pub loop-block-preserved : goal.loop-block-preserved
loop-block-preserved c =
    let count : length c.loop-block.blocks ≡ length c.args.blocks.now = c.loop-block.invariant.0 in
    let some : 1 ≤ length c.args.blocks.now = let two = at_least_two _ c.requires.count in omega arith in
    let place : c.place-place.result ≡ (c.loop-block.block + 1) % length c.args.blocks.now = c.place-place.ensures ∙ ap (λ m. (c.loop-block.block + 1) % m) count in (
      length-set c.loop-block.blocks c.place-place.result 0 ∙ count,
      λ block behind up_to. cleared_more c.loop-block.blocks _ _ block _ count some place (λ before. c.loop-block.invariant.1 block behind before) up_to,
      λ block before after. let from = c.loop-block.auto.block in kept_more c.loop-block.blocks _ _ block c.loop-block.block _ place (c.loop-block.invariant.2 block before (omega arith)) (omega arith) after,
    )
