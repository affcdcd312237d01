-- What the first line of a script says.
use Rattle.std.specs.Prelude.{ℕ, List, codes}
use Rattle.gw_script.specs.declared.kind.Kind.{Kind}
use Rattle.gw_script.specs.declared.kind.Kind.TheVariants.{One, Two}

-- the word that names a kind
abbrev pub word_of : Kind → List ℕ
word_of One = codes "one"
word_of Two = codes "two"
