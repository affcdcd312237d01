-- What is printed.
use Rattle.std.specs.Prelude.{◌≡◌, ℕ, List, ◌++◌, ◌≤◌, length, Option}
use Rattle.std.specs.Io.KnownBytes.{Appends}

-- what a writer holds, where it is known, grew by a beginning of the text, and not by all of it
pub record AppendsBeginning (old new : Option (List ℕ)) (text : List ℕ) : Type 0 where
  pub written : List ℕ
  pub left : List ℕ
  pub parts : text ≡ written ++ left
  pub some : 1 ≤ length left
  pub appended : Appends old new written
