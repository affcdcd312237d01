use Rattle.std.proofs.Common.{rules, ◌≡◌, ℕ, replicate}
use Rattle.replay.proofs.BlockLemmas.{ring_start, shown_start, shown_sound}
use Rattle.replay.proofs.BlockCountLemmas.{at_least_two, at_most_128, count_power}
use Rattle.replay.proofs.block.BlockWindow.new.Goals as goal

pub invariant_of-result : goal.invariant_of-result
invariant_of-result c =
    let zeros : c.in_ok-blocks.blocks.items ≡ replicate {A = ℕ} c.args.blocks 0 = search rules in
    let ring = ring_start c.args.blocks (count_power _ c.requires) (at_least_two _ c.requires) (at_most_128 _ c.requires) in
    record { ring = rw zeros ring; sound = rw zeros (shown_sound _ _ ring) }

pub returns : goal.returns
returns c =
    let zeros : c.in_ok-blocks.blocks.items ≡ replicate {A = ℕ} c.args.blocks 0 = search rules in
    rw zeros (shown_start c.args.blocks)
