-- What is read.
use Rattle.std.specs.Prelude.{◌≡◌, ◌≤◌, ℕ, List, length, Option, IfSome}

-- all that a reader had, where that is known, within the limit
pub record IsWholeFile (had : Option (List ℕ)) (octets : List ℕ) : Type 0 where
  pub whole : IfSome had (λ all. octets ≡ all)
  pub most : length octets ≤ 1048576
