-- Which of several proposals is chosen, and what of it (RFC 7296, sections 2.7 and 3.3).
use Rattle.std.specs.Prelude.{◌≡◌, ◌<◌, ◌≤◌, ℕ, Bool, true, false, Option, Some, None, List, [], ◌∷◌, if◌then◌else◌, length, slice_get, All, Any, Contains}
use Rattle.byteorder.specs.Endian.{big_number}
use Rattle.wire.specs.declared.proposal.Proposal.{Proposal}
use Rattle.wire.specs.declared.proposal.Transform.{Transform}
use Rattle.wire.specs.declared.proposal.Attribute.{Attribute}
use Rattle.wire.specs.declared.proposal.Attribute.TheVariants.{Short}
use Rattle.suite.specs.Transforms.{AUTH_HMAC_SHA2_256_128, ENCR, ENCR_NULL, ESN, ESP, EXTENSION, FIRST_SPI, GROUP, IKE, INTEG, KEY_LENGTH, NO_EXTENSION, PRF, PRF_HMAC_SHA2_256}
use Rattle.suite.specs.declared.choice.Wanted.{Wanted}
use Rattle.suite.specs.declared.choice.Wanted.TheVariants.{Ike, Esp}
use Rattle.suite.specs.declared.choice.Chosen.{Chosen}

-- the attribute of a key's length, where there is to be one
abbrev pub key_length_attribute : Option ℕ → List Attribute
key_length_attribute None = []
key_length_attribute (Some bits) = Short KEY_LENGTH bits ∷ []

abbrev pub without_attributes : ℕ → ℕ → Transform
without_attributes kind id = record { kind = kind; id = id; attributes = [] }

abbrev pub sequence_numbers : Bool → Transform
sequence_numbers true = without_attributes ESN EXTENSION
sequence_numbers false = without_attributes ESN NO_EXTENSION

-- the transforms that are acceptable, in all their parts (section 3.3.2)
abbrev pub acceptable_transforms : Wanted → List Transform
acceptable_transforms (Ike encr key_length group) =
    record { kind = ENCR; id = encr; attributes = key_length_attribute key_length }
    ∷ without_attributes PRF PRF_HMAC_SHA2_256 ∷ without_attributes INTEG AUTH_HMAC_SHA2_256_128 ∷ without_attributes GROUP group ∷ []
acceptable_transforms (Esp extended) =
    without_attributes ENCR ENCR_NULL ∷ without_attributes INTEG AUTH_HMAC_SHA2_256_128 ∷ sequence_numbers false
    ∷ (if extended then sequence_numbers true ∷ [] else [])

-- the types of transforms that a proposal has, each of them and no other
abbrev pub kinds : Wanted → List ℕ
kinds (Ike encr key_length group) = ENCR ∷ PRF ∷ INTEG ∷ GROUP ∷ []
kinds (Esp extended) = ENCR ∷ INTEG ∷ ESN ∷ []

abbrev pub wanted_protocol : Wanted → ℕ
wanted_protocol (Ike encr key_length group) = IKE
wanted_protocol (Esp extended) = ESP

-- A first exchange names no SPI (section 3.3.1). ESP's has 4 octets, and is none of those that are reserved.
abbrev pub HasSpi : Wanted → List ℕ → Type 0
HasSpi (Ike encr key_length group) spi = spi ≡ []
HasSpi (Esp extended) spi = (length spi ≡ 4) × (FIRST_SPI ≤ big_number 4 spi)

abbrev pub IsAcceptableTransform : Wanted → ℕ → Transform → Type 0
IsAcceptableTransform wanted kind transform = (transform.kind ≡ kind) × Contains (acceptable_transforms wanted) transform

-- a proposal of which an acceptable transform of each type can be taken
pub record IsAcceptableProposal (wanted : Wanted) (proposal : Proposal) : Type 0 where
  pub protocol : proposal.protocol ≡ wanted_protocol wanted
  pub spi : HasSpi wanted proposal.spi
  pub no_other : All (λ transform. Contains (kinds wanted) transform.kind) proposal.transforms
  pub each : All (λ kind. Any (IsAcceptableTransform wanted kind) proposal.transforms) (kinds wanted)

-- the transform is the first acceptable one of a type
pub record IsFirstAcceptable (wanted : Wanted) (kind : ℕ) (transforms : List Transform) (transform : Transform) : Type 0 where
  pub place : ℕ
  pub here : slice_get transforms place ≡ Some transform
  pub acceptable : IsAcceptableTransform wanted kind transform
  pub first : (k : ℕ) (other : Transform) → k < place → slice_get transforms k ≡ Some other → ¬ IsAcceptableTransform wanted kind other

-- Of all types but one a single transform is acceptable. Of sequence numbers two may be, and the first
-- decides.
abbrev pub ChoosesNumbers : Wanted → List Transform → Bool → Type 0
ChoosesNumbers (Ike encr key_length group) transforms extended = extended ≡ false
ChoosesNumbers (Esp allowed) transforms extended = IsFirstAcceptable (Esp allowed) ESN transforms (sequence_numbers extended)

-- the first acceptable proposal is chosen, and its number is kept (section 3.3.1)
pub record IsChosenProposal (wanted : Wanted) (proposals : List Proposal) (chosen : Chosen) : Type 0 where
  pub proposal : Proposal
  pub here : slice_get proposals chosen.place ≡ Some proposal
  pub acceptable : IsAcceptableProposal wanted proposal
  pub first : (k : ℕ) (other : Proposal) → k < chosen.place → slice_get proposals k ≡ Some other → ¬ IsAcceptableProposal wanted other
  pub number : chosen.number ≡ proposal.number
  pub numbers : ChoosesNumbers wanted proposal.transforms chosen.extended
