-- The inside of an SA payload (RFC 7296 section 3.3).
use Rattle.std.specs.Prelude.{◌≡◌, ◌<◌, ◌≤◌, ◌^◌, ◌+◌, ℕ, List, [], ◌∷◌, ◌++◌, length}
use Rattle.byteorder.specs.Endian.{big_bytes}
use Rattle.wire.specs.Numbers.{MORE_PROPOSALS, MORE_TRANSFORMS}
use Rattle.wire.specs.Parts.{SpellsEach, SpellsMarked}
use Rattle.wire.specs.declared.proposal.Proposal.{Proposal}
use Rattle.wire.specs.declared.proposal.Transform.{Transform}
use Rattle.wire.specs.declared.proposal.Attribute.{Attribute}
use Rattle.wire.specs.declared.proposal.Attribute.TheVariants.{Short, Long}

-- Section 3.3.5: the top bit tells the short form, of a value in two octets, from the long one, of a length
-- and as many octets.
abbrev pub SpellsAttribute : Attribute → List ℕ → Type 0
SpellsAttribute (Short kind value) x = (x ≡ big_bytes 2 (2 ^ 15 + kind) ++ big_bytes 2 value) × (kind < 2 ^ 15) × (value < 2 ^ 16)
SpellsAttribute (Long kind value) x = (x ≡ big_bytes 2 kind ++ big_bytes 2 (length value) ++ value) × (kind < 2 ^ 15) × (length value < 2 ^ 16)

-- Section 3.3.2, behind the transform's first four octets: type, reserved, ID, attributes.
pub record SpellsTransform (Free : ℕ → Type 0) (t : Transform) (inside : List ℕ) : Type 0 where
  pub reserved : ℕ
  pub attributes : List ℕ
  pub free : Free reserved
  pub spelled : inside ≡ t.kind ∷ reserved ∷ big_bytes 2 t.id ++ attributes
  pub id : t.id < 2 ^ 16
  pub each : SpellsEach SpellsAttribute t.attributes attributes

-- Section 3.3.1, behind the proposal's first four octets: number, protocol, size of the SPI, count of the
-- transforms, the SPI, the transforms. The mark of a transform with another behind it is 3.
pub record SpellsProposal (Free : ℕ → Type 0) (p : Proposal) (inside : List ℕ) : Type 0 where
  pub transforms : List ℕ
  pub spelled : inside ≡ p.number ∷ p.protocol ∷ length p.spi ∷ length p.transforms ∷ p.spi ++ transforms
  pub spi : length p.spi < 2 ^ 8
  pub count : length p.transforms < 2 ^ 8
  pub each : SpellsMarked Free MORE_TRANSFORMS (SpellsTransform Free) p.transforms transforms

-- n, n + 1, n + 2, ..
abbrev pub NumberedFrom : ℕ → List Proposal → Type 0
NumberedFrom n [] = Unit {0}
NumberedFrom n (p ∷ ps) = (p.number ≡ n) × NumberedFrom (n + 1) ps

-- a lone proposal has any number from 1, since an answer keeps the number of the one chosen; more are 1, 2,
-- 3, ..
abbrev pub AreNumbered : List Proposal → Type 0
AreNumbered [] = ⊥
AreNumbered (p ∷ []) = 1 ≤ p.number
AreNumbered (p ∷ q ∷ ps) = NumberedFrom 1 (p ∷ q ∷ ps)

-- the mark of a proposal with another behind it is 2
pub record SpellsProposals (Free : ℕ → Type 0) (ps : List Proposal) (body : List ℕ) : Type 0 where
  pub each : SpellsMarked Free MORE_PROPOSALS (SpellsProposal Free) ps body
  pub numbered : AreNumbered ps
