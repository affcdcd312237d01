-- The pieces that the layouts of RFC 7296 section 3 are made of.
use Rattle.std.specs.Prelude.{◌≡◌, ◌<◌, ◌^◌, ◌+◌, ℕ, List, [], ◌∷◌, ◌++◌, length}
use Rattle.byteorder.specs.Endian.{big_bytes}

-- what a sender writes where the layout says reserved (section 2.5, 3.2)
abbrev pub IsZero : ℕ → Type 0
IsZero o = o ≡ 0

-- The header that payloads, proposals, transforms and traffic selectors share, and what it heads: an octet,
-- a second octet, and the length of the whole with these four octets (sections 3.2, 3.3.1, 3.3.2, 3.13.1).
pub record IsPart (first second : ℕ) (inside x : List ℕ) : Type 0 where
  pub spelled : x ≡ first ∷ second ∷ big_bytes 2 (4 + length inside) ++ inside
  pub fits : 4 + length inside < 2 ^ 16

-- a front and what follows it
pub record Joins (Front Rest : List ℕ → Type 0) (x : List ℕ) : Type 0 where
  pub front : List ℕ
  pub rest : List ℕ
  pub joined : x ≡ front ++ rest
  pub first : Front front
  pub others : Rest rest

-- one item after the other
abbrev pub SpellsEach : {A : Type 0} → (A → List ℕ → Type 0) → List A → List ℕ → Type 0
SpellsEach Spelled [] x = x ≡ []
SpellsEach Spelled (a ∷ others) x = Joins (Spelled a) (SpellsEach Spelled others) x

-- A part whose first octet is a mark and whose second one is reserved. What is in a reserved octet, Free
-- tells: any octet for who reads, none but 0 for who writes.
pub record IsMarked (Free : ℕ → Type 0) (mark : ℕ) (Inside : List ℕ → Type 0) (x : List ℕ) : Type 0 where
  pub reserved : ℕ
  pub inside : List ℕ
  pub free : Free reserved
  pub part : IsPart mark reserved inside x
  pub content : Inside inside

-- at least one part: each but the last is marked by more, and the last by 0 (sections 3.3.1, 3.3.2)
abbrev pub SpellsMarked : {A : Type 0} → (ℕ → Type 0) → ℕ → (A → List ℕ → Type 0) → List A → List ℕ → Type 0
SpellsMarked Free more Spelled [] x = ⊥
SpellsMarked Free more Spelled (a ∷ []) x = IsMarked Free 0 (Spelled a) x
SpellsMarked Free more Spelled (a ∷ b ∷ others) x = Joins (IsMarked Free more (Spelled a)) (SpellsMarked Free more Spelled (b ∷ others)) x
