-- What a replay window knows (RFC 4303 section 3.4.3), however it keeps it.
use Rattle.std.specs.Prelude.{◌≡◌, ℕ, ◌+◌, ◌*◌, ◌-◌, ◌^◌, ◌<◌, ◌≤◌, true, List, if◌then◌else◌, ◌&&◌, ◌||◌, nat_eq, nat_lt, nat_le, max}
use Rattle.std.specs.Ordering.{nat_cmp}
use Rattle.std.specs.FinSet as set
use Rattle.replay.specs.declared.window.Judgement.{Judgement}
use Rattle.replay.specs.declared.window.Judgement.TheVariants.{Zero, Old, Taken, Fresh}

-- a window, seen as the greatest sequence number taken (0 where none was), how many numbers it spans, and
-- those of them that were taken
pub record Seen : Type 0 where
  pub top : ℕ
  pub size : ℕ
  pub taken : set.FinSet nat_cmp

-- the window whose taken sequence numbers are those of a list
abbrev pub listed : ℕ → ℕ → List ℕ → Seen
listed top size numbers = record { top = top; size = size; taken = set.from_list numbers }

-- what holds of every window
pub record IsSoundWindow (w : Seen) : Type 0 where
  -- it spans some sequence numbers
  pub spans : 1 ≤ w.size
  -- each taken sequence number lies in the span that ends at the greatest one, and is not 0
  pub not_zero : (n : ℕ) → set.contains w.taken n ≡ true → 1 ≤ n
  pub up_to_top : (n : ℕ) → set.contains w.taken n ≡ true → n ≤ w.top
  pub in_span : (n : ℕ) → set.contains w.taken n ≡ true → w.top < n + w.size
  -- the greatest sequence number is 0 or was taken
  pub top_taken : 1 ≤ w.top → set.contains w.taken w.top ≡ true
  pub fits : w.top < 2 ^ 64

-- what a window says of a sequence number: below the span it can't know, so the number counts as old
abbrev pub judgement : Seen → ℕ → Judgement
judgement w n =
    if nat_eq n 0 then Zero
    else if nat_le (n + w.size) w.top then Old
    else if set.contains w.taken n then Taken
    else Fresh

-- The window new is old with n taken: the span may move up, what falls out of it is forgotten, and nothing
-- else changes.
pub record Takes (old : Seen) (n : ℕ) (new : Seen) : Type 0 where
  pub top : new.top ≡ max old.top n
  pub size : new.size ≡ old.size
  pub taken : (q : ℕ) → set.contains new.taken q ≡ ((nat_eq q n || set.contains old.taken q) && nat_lt new.top (q + new.size))

-- a window of m blocks of 64 sequence numbers, of which one is always being filled, before any number was
-- taken
abbrev pub unused_window : ℕ → Seen
unused_window m = record { top = 0; size = 64 * (m - 1); taken = set.empty }

-- what a window may be made of: a power of two of blocks, from 2 to 128
abbrev pub IsBlockCount : ℕ → Type 0
IsBlockCount m = (k : ℕ) × (1 ≤ k) × (k ≤ 7) × (m ≡ 2 ^ k)
