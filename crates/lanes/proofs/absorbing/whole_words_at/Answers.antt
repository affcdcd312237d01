use Rattle.std.proofs.Common.{◌≡◌, ℕ, ◌*◌, List, [], ◌∷◌, Some, take, drop, slice_get, ap, ◌∙◌}
use Rattle.sha2.specs.Sha256.{first_words}
use Rattle.lanes.specs.Blocks.{block_in}
use Rattle.lanes.specs.Message.{HasBlocks}
use Rattle.lanes.specs.declared.message.Message.{Message}
use Rattle.lanes.proofs.LaneLemmas.{each_lane}
use Rattle.lanes.proofs.absorbing.whole_words_at.Goals as goal

pub returns : goal.returns
returns c = λ j fits m octets given has.
    let blocks = c.whole_block.result ∷ c.whole_block-2.result ∷ c.whole_block-3.result ∷ c.whole_block-4.result ∷ c.whole_block-5.result ∷ c.whole_block-6.result ∷ c.whole_block-7.result ∷ c.whole_block-8.result ∷ [] in
    let each = each_lane (λ j. (m : Message) (octets : List ℕ) → slice_get c.args.messages.now j ≡ Some m → HasBlocks m octets
    → block_in blocks j ≡ take 64 (drop (c.args.index * 64) octets))
    c.whole_block.ensures.block c.whole_block-2.ensures.block c.whole_block-3.ensures.block c.whole_block-4.ensures.block c.whole_block-5.ensures.block c.whole_block-6.ensures.block c.whole_block-7.ensures.block c.whole_block-8.ensures.block in
    c.words_in_lanes.ensures j fits ∙ ap (λ (b : List ℕ). first_words b 16) (each j fits m octets given has)
