use Rattle.std.proofs.Common.{◌≡◌, ◌-◌, [], ◌∷◌, Some, slice_get, slice_index}
use Rattle.lanes.specs.declared.message.Message.{Message}
use Rattle.lanes.proofs.LaneLemmas.{each_lane}
use Rattle.lanes.proofs.stream.all_left.Goals as goal

pub returns : goal.returns
returns c = each_lane (λ j. (m : Message) → slice_get c.args.messages.now j ≡ Some m → slice_index (c.left.result ∷ c.left-2.result ∷ c.left-3.result ∷ c.left-4.result ∷ c.left-5.result ∷ c.left-6.result ∷ c.left-7.result ∷ c.left-8.result ∷ []) j ≡ m.count - slice_index c.args.taken.now j)
    c.left.ensures c.left-2.ensures c.left-3.ensures c.left-4.ensures c.left-5.ensures c.left-6.ensures c.left-7.ensures c.left-8.ensures
