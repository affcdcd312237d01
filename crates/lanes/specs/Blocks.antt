-- Eight blocks, and the words in them.
use Rattle.std.specs.Prelude.{ℕ, ◌+◌, List, [], ◌∷◌, map, slice_index_or}
use Rattle.std.specs.Borrow.{Bor}
use Rattle.sha2.specs.Sha256.{word_at}

-- the block that stands at a place
abbrev pub block_in : List (Bor (List ℕ)) → ℕ → List ℕ
block_in blocks j = slice_index_or (map (λ block. block.now) blocks) j []

-- four words from an octet on
abbrev pub four_words : List ℕ → ℕ → List ℕ
four_words block at = word_at block at ∷ word_at block (at + 4) ∷ word_at block (at + 8) ∷ word_at block (at + 12) ∷ []
