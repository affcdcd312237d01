-- Flags, as they cross.
use Rattle.std.specs.Prelude.{ℕ, Bool, not, nat_eq}

-- a flag crosses as an octet, where not 0 is true
abbrev pub is_set : ℕ → Bool
is_set octet = not (nat_eq octet 0)
