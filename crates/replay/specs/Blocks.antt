-- The sequence numbers taken, kept as a ring of blocks of 64 bits (RFC 6479 section 2): number n stands in
-- block n / 64, counted round the ring.
use Rattle.std.specs.Prelude.{◌≡◌, ℕ, ◌*◌, ◌-◌, ◌/◌, ◌%◌, ◌^◌, ◌<◌, ◌≤◌, Bool, true, false, List, [], ◌∷◌, length, get_or, filter, ◌&&◌, ◌||◌, nat_eq, zero, suc}
use Rattle.std.specs.Int.{bit_at}
use Rattle.replay.specs.Window.{Seen, listed}

-- which place of the ring a sequence number's block has
abbrev pub place_of : List ℕ → ℕ → ℕ
place_of blocks n = n / 64 % length blocks

-- whether the bit of a sequence number is set, which other numbers share that lie whole rounds of the ring
-- away
unfoldable pub is_marked : List ℕ → ℕ → Bool
is_marked blocks n = nat_eq (bit_at (get_or blocks (place_of blocks n) 0) (n % 64)) 1

-- whether two sequence numbers share a bit in a ring of so many blocks
abbrev pub is_twin : ℕ → ℕ → ℕ → Bool
is_twin count n q = nat_eq (q / 64 % count) (n / 64 % count) && nat_eq (q % 64) (n % 64)

-- the sequence numbers up to top, but for 0, from the greatest one down: so many of them, or all
unfoldable pub last_numbers : ℕ → ℕ → List ℕ
last_numbers zero top = []
last_numbers (suc count) zero = []
last_numbers (suc count) (suc below) = suc below ∷ last_numbers count below

-- how many numbers a ring spans: one block is always being filled
abbrev pub span_of : List ℕ → ℕ
span_of blocks = 64 * (length blocks - 1)

-- the window that a ring shows: of the sequence numbers in its span those whose bits are set
abbrev pub shown : ℕ → List ℕ → Seen
shown top blocks = listed top (span_of blocks) (filter (is_marked blocks) (last_numbers (span_of blocks) top))

-- a power of two from 2 to 128
unfoldable pub is_power : ℕ → Bool
is_power m = nat_eq m 2 || (nat_eq m 4 || (nat_eq m 8 || (nat_eq m 16 || (nat_eq m 32 || (nat_eq m 64 || nat_eq m 128)))))

-- what holds of every ring
pub record IsRing (top : ℕ) (blocks : List ℕ) : Type 0 where
  pub power : is_power (length blocks) ≡ true
  pub least : 2 ≤ length blocks
  pub most : length blocks ≤ 128
  pub fits : top < 2 ^ 64
  pub top_marked : 1 ≤ top → is_marked blocks top ≡ true
  -- the greatest sequence number's block has no bit above it
  pub none_above : (n : ℕ) → top < n → n / 64 ≡ top / 64 → is_marked blocks n ≡ false
