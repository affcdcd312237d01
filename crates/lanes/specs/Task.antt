-- What is asked of each message.
use Rattle.std.specs.Prelude.{◌≡◌, ℕ, ◌<◌, ◌≤◌, List, [], ◌++◌, Some, length, max, slice_get, slice_index, slice_index_or, ◌⊎◌}
use Rattle.mac.specs.Hmac.{icv_sha256}
use Rattle.lanes.specs.declared.task.Task.{Task}

-- the message: the octets, and those that follow them
abbrev pub message_of : Task → List ℕ
message_of task = task.octets.now ++ task.more.now

-- the integrity check value of the message under its key
abbrev pub icv_of : Task → List ℕ
icv_of task = icv_sha256 task.key.now (message_of task)

-- the message at a place can go into a lane
pub record FitsALane (tasks : List Task) (place : ℕ) : Type 0 where
  pub within : place < length tasks
  pub short : (task : Task) → slice_get tasks place ≡ Some task → length task.more.now ≤ 56

-- the value at a place is that of its message
abbrev pub IsRight : List Task → List (List ℕ) → ℕ → Type 0
IsRight tasks values place = (task : Task) → slice_get tasks place ≡ Some task → slice_index_or values place [] ≡ icv_of task

-- the values at the first places are right, and what was right elsewhere is so still
pub record AreWritten (tasks : List Task) (before after : List (List ℕ)) (places : List ℕ) (count : ℕ) : Type 0 where
  pub done : (j : ℕ) → j < count → IsRight tasks after (slice_index places j)
  pub kept : (place : ℕ) → IsRight tasks before place → IsRight tasks after place

-- the value of each message at the first places is right, or the place stands in the queue
abbrev pub AreQueued : List Task → List ℕ → ℕ → List (List ℕ) → List ℕ → ℕ → Type 0
AreQueued tasks places count values queue queued = (k : ℕ) → k < count → k < length places
    → IsRight tasks values (slice_index places k) ⊎ ((i : ℕ) × ((i < queued) × (slice_index queue i ≡ slice_index places k)))

-- The places before one are shared out: their values are written, or they stand in the queue. Those before
-- `start` are written in any case.
pub record AreShared (tasks : List Task) (places : List ℕ) (before values : List (List ℕ)) (queue : List ℕ) (queued at start : ℕ) : Type 0 where
  pub long : length queue ≡ 64
  pub few : queued ≤ at
  pub fit : (k : ℕ) → k < queued → FitsALane tasks (slice_index queue k)
  pub kept : (place : ℕ) → IsRight tasks before place → IsRight tasks values place
  pub are : AreQueued tasks places (max at start) values queue queued
