use Rattle.std.proofs.Common.{◌≡◌, ℕ, ◌+◌, ◌<◌, ◌≤◌, Some, slice_get, slice_index}
use Rattle.lanes.specs.declared.message.Message.{Message}
use Rattle.lanes.proofs.absorbing.most_left.Given as goal

abbrev pub invariant-loop-j : goal.invariant-loop-j
invariant-loop-j l = (j : ℕ) → j < l.j → (m : Message) → slice_get l.messages j ≡ Some m → m.count ≤ slice_index l.taken j + l.most
