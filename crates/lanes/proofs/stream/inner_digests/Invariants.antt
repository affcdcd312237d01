use Rattle.std.proofs.Common.{◌≡◌, ℕ, length, slice_index}
use Rattle.lanes.specs.Lane.{IsLane}
use Rattle.lanes.specs.Stream.{AreBegun, AreInLanes}
use Rattle.lanes.specs.Task.{FitsALane}
use Rattle.lanes.proofs.stream.inner_digests.Given as goal

abbrev pub invariant-loop-next : goal.invariant-loop-next
invariant-loop-next l = AreInLanes l.tasks l.places l.messages l.taken l.state × AreBegun l.tasks l.queue l.next l.digests l.places
    × ((j : ℕ) → IsLane j → FitsALane l.tasks (slice_index l.places j)) × (length l.places ≡ 8) × (length l.digests ≡ 64)
