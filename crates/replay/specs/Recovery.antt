-- The recovery of a whole sequence number from its low half (RFC 4303 section 2.2.1 and appendix A2).
use Rattle.std.specs.Prelude.{◌≡◌, ℕ, ◌+◌, ◌%◌, ◌^◌, ◌<◌, ◌≤◌}
use Rattle.std.proofs.Common.{arith}

-- n is what a packet with this low half is taken to be, where top is the greatest sequence number taken so
-- far and window the window's size. The 2 ^ 32 candidates begin at the window's lower edge, top - window + 1;
-- bounds are stated by sums, since that edge may lie below 0. No number is 0, and none has more than 64 bits.
pub record IsRecovered (top window low n : ℕ) : Type 0 where
  pub low_half : n % 2 ^ 32 ≡ low
  pub from_the_edge : top + 1 ≤ n + window
  pub one_cycle : n + window ≤ top + 2 ^ 32
  pub not_zero : 1 ≤ n
  pub fits : n < 2 ^ 64

-- there is at most one such sequence number
pub one_number : (top window low n m : ℕ) → IsRecovered top window low n → IsRecovered top window low m → n ≡ m
one_number top window low n m first second = omega arith
