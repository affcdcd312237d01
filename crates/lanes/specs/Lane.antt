-- Eight numbers side by side: a vector has one in each of its lanes.
use Rattle.std.specs.Prelude.{◌≡◌, ℕ, ◌<◌, ◌≤◌, List, map, slice_index}

abbrev pub IsLane : ℕ → Type 0
IsLane j = j < 8

-- the numbers that several vectors have in lane j
abbrev pub lane : ℕ → List (List ℕ) → List ℕ
lane j vectors = map (λ vector. slice_index vector j) vectors

-- what a lane is told at a block: 1 where its message has that block, and 0 where it has ended
pub record IsLive (index count flag : ℕ) : Type 0 where
  pub live : index < count → flag ≡ 1
  pub ended : count ≤ index → flag ≡ 0
