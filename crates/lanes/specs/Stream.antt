-- Messages that follow one another in lanes.
use Rattle.std.specs.Prelude.{◌≡◌, ℕ, ◌/◌, ◌<◌, ◌≤◌, List, [], Some, length, slice_get, slice_index, slice_index_or, ◌⊎◌}
use Rattle.sha2.specs.Sha256.{hash_after}
use Rattle.mac.specs.Hmac.{hmac_block, pad_with}
use Rattle.lanes.specs.Key.{state_behind}
use Rattle.lanes.specs.Lane.{IsLane, lane}
use Rattle.lanes.specs.Message.{HasBlocks}
use Rattle.lanes.specs.Padding.{after_a_block}
use Rattle.lanes.specs.Task.{message_of}
use Rattle.lanes.specs.declared.message.Message.{Message}
use Rattle.lanes.specs.declared.task.Task.{Task}

-- SHA-256 as it stands behind the inner pad of the key and so many blocks of the message
abbrev pub inner_after : Task → ℕ → List ℕ
inner_after task count = hash_after (state_behind (pad_with 0x36 (hmac_block task.key.now))) (after_a_block (message_of task)) count

-- the words of the inner digest
abbrev pub inner_digest : Task → List ℕ
inner_digest task = inner_after task (length (after_a_block (message_of task)) / 64)

-- the inner digest of the message at a place stands at that place
abbrev pub HasDigest : List Task → List (List ℕ) → ℕ → Type 0
HasDigest tasks digests place = (task : Task) → slice_get tasks place ≡ Some task → slice_index_or digests place [] ≡ inner_digest task

-- a lane has taken so many blocks of the message at a place
pub record InLane (tasks : List Task) (place : ℕ) (m : Message) (taken : ℕ) (state : List ℕ) : Type 0 where
  pub within : taken ≤ m.count
  pub blocks : (task : Task) → slice_get tasks place ≡ Some task → HasBlocks m (after_a_block (message_of task))
  pub hashed : (task : Task) → slice_get tasks place ≡ Some task → state ≡ inner_after task taken

-- each lane has taken so many blocks of the message at its place
abbrev pub AreInLanes : List Task → List ℕ → List Message → List ℕ → List (List ℕ) → Type 0
AreInLanes tasks places messages taken state = (j : ℕ) → IsLane j → (m : Message) → slice_get messages j ≡ Some m
    → InLane tasks (slice_index places j) m (slice_index taken j) (lane j state)

-- each message of the queue before the next one has its digest or stands in a lane
abbrev pub AreBegun : List Task → List ℕ → ℕ → List (List ℕ) → List ℕ → Type 0
AreBegun tasks queue next digests places = (k : ℕ) → k < next → k < length queue
    → HasDigest tasks digests (slice_index queue k) ⊎ ((j : ℕ) × (IsLane j × (slice_index places j ≡ slice_index queue k)))

-- the digests at the first places are right, and what was right elsewhere is so still
pub record DigestsWritten (tasks : List Task) (before after : List (List ℕ)) (places : List ℕ) (count : ℕ) : Type 0 where
  pub done : (j : ℕ) → j < count → HasDigest tasks after (slice_index places j)
  pub kept : (place : ℕ) → HasDigest tasks before place → HasDigest tasks after place
