use Rattle.std.proofs.Common.{◌≡◌, ℕ, ◌<◌, length, slice_index}
use Rattle.lanes.proofs.order.all_places.Given as goal

abbrev pub invariant-loop-place : goal.invariant-loop-place
invariant-loop-place l = record { long : length l.places ≡ 64; each : (k : ℕ) → k < l.place → slice_index l.places k ≡ k }
