use Rattle.std.proofs.Common.{◌≡◌, ℕ, ◌<◌, ◌≤◌, Some, slice_get}
use Rattle.lanes.specs.Message.{whole_blocks}
use Rattle.lanes.specs.declared.message.Message.{Message}
use Rattle.lanes.proofs.absorbing.least_whole.Given as goal

abbrev pub invariant-loop-message : goal.invariant-loop-message
invariant-loop-message l = ((j : ℕ) (m : Message) → j < l.message-index → slice_get l.messages j ≡ Some m → l.least ≤ whole_blocks m)
    × ((j : ℕ) (m : Message) → j < l.message-index → slice_get l.messages j ≡ Some m → l.least ≤ m.count)
