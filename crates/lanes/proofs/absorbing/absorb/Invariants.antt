use Rattle.std.proofs.Common.{◌≡◌, ℕ, List, Some, min, slice_get}
use Rattle.sha2.specs.Sha256.{hash_after}
use Rattle.lanes.specs.Lane.{IsLane, lane}
use Rattle.lanes.specs.Message.{HasBlocks}
use Rattle.lanes.specs.declared.message.Message.{Message}
use Rattle.lanes.proofs.absorbing.absorb.Given as goal

-- each lane has taken the blocks so far
abbrev pub invariant-loop-index : goal.invariant-loop-index
invariant-loop-index l = (j : ℕ) → IsLane j → (m : Message) (octets : List ℕ) → slice_get l.messages j ≡ Some m → HasBlocks m octets
    → lane j l.state ≡ hash_after (lane j l.fn.start) octets (min l.index m.count)
