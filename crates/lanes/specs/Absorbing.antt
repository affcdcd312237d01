-- How far eight messages are hashed.
use Rattle.std.specs.Prelude.{◌≡◌, ℕ, ◌+◌, List, Some, min, slice_get, slice_index}
use Rattle.sha2.specs.Sha256.{hash_after}
use Rattle.lanes.specs.Lane.{IsLane, lane}
use Rattle.lanes.specs.Message.{HasBlocks}
use Rattle.lanes.specs.declared.message.Message.{Message}

-- Lanes that stood so many blocks ahead of those that were taken now stand so many ahead. A lane whose
-- message has ended stays as it is.
abbrev pub Advances : List Message → List ℕ → List (List ℕ) → ℕ → List (List ℕ) → ℕ → Type 0
Advances messages taken before from after to = (j : ℕ) → IsLane j → (m : Message) (octets start : List ℕ) → slice_get messages j ≡ Some m → HasBlocks m octets
    → lane j before ≡ hash_after start octets (min (slice_index taken j + from) m.count)
    → lane j after ≡ hash_after start octets (min (slice_index taken j + to) m.count)
