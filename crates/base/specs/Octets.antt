-- Lists of octets, as messages, packets and keys are.
use Rattle.std.specs.Prelude.{◌≡◌, ◌<◌, ◌++◌, ℕ, List}
use Rattle.std.specs.List.{AllByRecursion}

abbrev pub IsOctet : ℕ → Type 0
IsOctet o = o < 256

-- a list whose members are meant as octets; that they are is AreOctets
abbrev pub Octets : Type 0
Octets = List ℕ

abbrev pub AreOctets : Octets → Type 0
AreOctets x = AllByRecursion IsOctet x

-- some octets of which P holds came behind those that were there
pub record Appends (P : Octets → Type 0) (old new : Octets) : Type 0 where
  pub octets : Octets
  pub appended : new ≡ old ++ octets
  pub content : P octets
