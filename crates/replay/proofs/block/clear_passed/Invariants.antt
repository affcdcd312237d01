-- The blocks behind the start, up to this one, are cleared; the others less than a round back are as they
-- were.
use Rattle.std.proofs.Common.{◌≡◌, ℕ, ◌+◌, ◌%◌, ◌<◌, ◌≤◌, length, get_or}
use Rattle.replay.proofs.block.clear_passed.Given as goal

abbrev pub invariant-loop-block : goal.invariant-loop-block
invariant-loop-block l =
    (length l.blocks ≡ length l.initial.blocks)
    × ((block : ℕ) → l.from < block → block ≤ l.block → get_or l.blocks (block % length l.initial.blocks) 0 ≡ 0)
    × ((block : ℕ) → block ≤ l.from → l.block < block + length l.initial.blocks → get_or l.blocks (block % length l.initial.blocks) 0 ≡ get_or l.initial.blocks (block % length l.initial.blocks) 0)
