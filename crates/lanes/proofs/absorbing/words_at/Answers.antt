use Rattle.std.proofs.Common.{◌≡◌, ℕ, ◌*◌, ◌<◌, List, [], ◌∷◌, Some, take, drop, slice_get, slice_index, ◌+◌, ap, ◌∙◌}
use Rattle.sha2.specs.Sha256.{first_words}
use Rattle.lanes.specs.Blocks.{block_in}
use Rattle.lanes.specs.Message.{HasBlocks}
use Rattle.lanes.specs.declared.message.Message.{Message}
use Rattle.lanes.proofs.LaneLemmas.{each_lane}
use Rattle.lanes.proofs.absorbing.words_at.Goals as goal

pub returns : goal.returns
returns c = λ j fits m octets given has below.
    let blocks = c.block.result ∷ c.block-2.result ∷ c.block-3.result ∷ c.block-4.result ∷ c.block-5.result ∷ c.block-6.result ∷ c.block-7.result ∷ c.block-8.result ∷ [] in
    let each = each_lane (λ j. (m : Message) (octets : List ℕ) → slice_get c.args.messages.now j ≡ Some m → HasBlocks m octets → slice_index c.args.taken.now j + c.args.ahead < m.count
    → block_in blocks j ≡ take 64 (drop ((slice_index c.args.taken.now j + c.args.ahead) * 64) octets))
    c.block.ensures.block c.block-2.ensures.block c.block-3.ensures.block c.block-4.ensures.block c.block-5.ensures.block c.block-6.ensures.block c.block-7.ensures.block c.block-8.ensures.block in
    c.words_in_lanes.ensures j fits ∙ ap (λ (b : List ℕ). first_words b 16) (each j fits m octets given has below)
