use Rattle.std.proofs.Common.{◌≡◌, ◌+◌, [], ◌∷◌, Some, slice_get, slice_index}
use Rattle.lanes.specs.Lane.{IsLive}
use Rattle.lanes.specs.declared.message.Message.{Message}
use Rattle.lanes.proofs.LaneLemmas.{each_lane}
use Rattle.lanes.proofs.absorbing.live.Goals as goal

pub returns : goal.returns
returns c = each_lane (λ j. (m : Message) → slice_get c.args.messages.now j ≡ Some m → IsLive (slice_index c.args.taken.now j + c.args.ahead) m.count
    (slice_index (c.is_live.result ∷ c.is_live-2.result ∷ c.is_live-3.result ∷ c.is_live-4.result ∷ c.is_live-5.result ∷ c.is_live-6.result ∷ c.is_live-7.result ∷ c.is_live-8.result ∷ []) j))
    c.is_live.ensures c.is_live-2.ensures c.is_live-3.ensures c.is_live-4.ensures c.is_live-5.ensures c.is_live-6.ensures c.is_live-7.ensures c.is_live-8.ensures
