-- Finite maps and sets made of a function on the numbers below a bound.
use Rattle.std.specs.Prelude.{ℕ, zero, suc, ◌+◌, Bool, true, false, Option, Some, None}
use Rattle.std.specs.Ordering.{nat_cmp}
use Rattle.std.specs.FinMap as map
use Rattle.std.specs.FinSet as set

-- the map with this value at the key, where there is one
abbrev pub with_option : {X : Type 0} → map.FinMap nat_cmp X → ℕ → Option X → map.FinMap nat_cmp X
with_option m key None = m
with_option m key (Some value) = map.insert m key value

-- the values that f has at the numbers below n, where it has some, at keys that begin with base
abbrev pub numbered : {X : Type 0} → ℕ → (ℕ → Option X) → ℕ → map.FinMap nat_cmp X
numbered base f zero = map.empty
numbered base f (suc n) = with_option (numbered base f n) (base + n) (f n)

-- the set with this member, if it is to be one
abbrev pub with_member : set.FinSet nat_cmp → ℕ → Bool → set.FinSet nat_cmp
with_member s key true = set.insert s key
with_member s key false = s

-- the numbers below n that pass a test, counted from base on
abbrev pub passing : ℕ → (ℕ → Bool) → ℕ → set.FinSet nat_cmp
passing base p zero = set.empty
passing base p (suc n) = with_member (passing base p n) (base + n) (p n)
