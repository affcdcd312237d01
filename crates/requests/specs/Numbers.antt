-- Sets of Message IDs (RFC 7296 section 2.2).
use Rattle.std.specs.Prelude.{◌≡◌, ◌<◌, ℕ, true, false}
use Rattle.std.specs.Ordering.{nat_cmp}
use Rattle.std.specs.FinSet as set

abbrev pub NumberSet : Type 0
NumberSet = set.FinSet nat_cmp

abbrev pub HasNumber : NumberSet → ℕ → Type 0
HasNumber numbers n = set.contains numbers n ≡ true

abbrev pub LacksNumber : NumberSet → ℕ → Type 0
LacksNumber numbers n = set.contains numbers n ≡ false

-- the least Message ID that is not in the set
pub record IsGap (numbers : NumberSet) (gap : ℕ) : Type 0 where
  pub missing : LacksNumber numbers gap
  pub below : (n : ℕ) → n < gap → HasNumber numbers n
