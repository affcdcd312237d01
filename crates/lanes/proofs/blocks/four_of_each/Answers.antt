use Rattle.std.proofs.Common.{◌≡◌, ℕ, List, take, drop, ap, ◌∙◌, arith}
use Rattle.lanes.specs.Blocks.{block_in, four_words}
use Rattle.lanes.specs.Lane.{lane}
use Rattle.lanes.proofs.BlockLemmas.{block_at}
use Rattle.lanes.proofs.LaneLemmas.{each_lane}
use Rattle.lanes.proofs.blocks.four_of_each.Goals as goal

pub pair-requires-2-clause-low : goal.pair-requires-2-clause-low
pair-requires-2-clause-low c = rw (block_at c.args.blocks 1) (c.requires 1 (omega arith))

pub pair-requires-2-clause-high : goal.pair-requires-2-clause-high
pair-requires-2-clause-high c = rw (block_at c.args.blocks 5) (c.requires 5 (omega arith))

pub pair-requires-3-clause-low : goal.pair-requires-3-clause-low
pair-requires-3-clause-low c = rw (block_at c.args.blocks 2) (c.requires 2 (omega arith))

pub pair-requires-3-clause-high : goal.pair-requires-3-clause-high
pair-requires-3-clause-high c = rw (block_at c.args.blocks 6) (c.requires 6 (omega arith))

pub pair-requires-4-clause-low : goal.pair-requires-4-clause-low
pair-requires-4-clause-low c = rw (block_at c.args.blocks 3) (c.requires 3 (omega arith))

pub pair-requires-4-clause-high : goal.pair-requires-4-clause-high
pair-requires-4-clause-high c = rw (block_at c.args.blocks 7) (c.requires 7 (omega arith))

pub returns : goal.returns
returns c =
    let blocks = c.args.blocks in
    let low = c.transposed.ensures.low in
    let high = c.transposed.ensures.high in
    each_lane (λ j. lane j c.transposed.result ≡ four_words (block_in blocks j) c.args.at)
    (low 0 (omega arith) ∙ ap (λ (l : List ℕ). take 4 l) c.pair.ensures ∙ ap (λ (b : List ℕ). four_words b c.args.at) (block_at blocks 0))
    (low 1 (omega arith) ∙ ap (λ (l : List ℕ). take 4 l) c.pair-2.ensures ∙ ap (λ (b : List ℕ). four_words b c.args.at) (block_at blocks 1))
    (low 2 (omega arith) ∙ ap (λ (l : List ℕ). take 4 l) c.pair-3.ensures ∙ ap (λ (b : List ℕ). four_words b c.args.at) (block_at blocks 2))
    (low 3 (omega arith) ∙ ap (λ (l : List ℕ). take 4 l) c.pair-4.ensures ∙ ap (λ (b : List ℕ). four_words b c.args.at) (block_at blocks 3))
    (high 0 (omega arith) ∙ ap (λ (l : List ℕ). drop 4 l) c.pair.ensures ∙ ap (λ (b : List ℕ). four_words b c.args.at) (block_at blocks 4))
    (high 1 (omega arith) ∙ ap (λ (l : List ℕ). drop 4 l) c.pair-2.ensures ∙ ap (λ (b : List ℕ). four_words b c.args.at) (block_at blocks 5))
    (high 2 (omega arith) ∙ ap (λ (l : List ℕ). drop 4 l) c.pair-3.ensures ∙ ap (λ (b : List ℕ). four_words b c.args.at) (block_at blocks 6))
    (high 3 (omega arith) ∙ ap (λ (l : List ℕ). drop 4 l) c.pair-4.ensures ∙ ap (λ (b : List ℕ). four_words b c.args.at) (block_at blocks 7))
