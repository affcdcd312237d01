-- What is offered, answered and accepted (RFC 7296 sections 2.7 and 3.3).
use Rattle.std.specs.Prelude.{◌≡◌, ◌==◌, ℕ, Bool, true, false, List, [], ◌∷◌, ◌++◌, All, Contains, Some, slice_get}
use Rattle.std.specs.List.{count_by}
use Rattle.wire.specs.declared.proposal.Proposal.{Proposal}
use Rattle.wire.specs.declared.proposal.Transform.{Transform}
use Rattle.suite.specs.declared.choice.Chosen.{Chosen}
use Rattle.suite.specs.declared.choice.Wanted.{Wanted}
use Rattle.suite.specs.declared.choice.Wanted.TheVariants.{Ike, Esp}
use Rattle.suite.specs.Transforms.{AUTH_HMAC_SHA2_256_128, ENCR, ENCR_NULL, INTEG}
use Rattle.suite.specs.Choice.{acceptable_transforms, kinds, wanted_protocol, sequence_numbers, without_attributes, IsAcceptableProposal, IsChosenProposal}

-- The transforms of the types of which one alone is acceptable: of all but sequence numbers.
abbrev pub fixed_transforms : Wanted → List Transform
fixed_transforms (Ike encr key_length group) = acceptable_transforms (Ike encr key_length group)
fixed_transforms (Esp extended) = without_attributes ENCR ENCR_NULL ∷ without_attributes INTEG AUTH_HMAC_SHA2_256_128 ∷ []

-- extended sequence numbers are offered first, where they are allowed
abbrev pub offered_transforms : Wanted → List Transform
offered_transforms (Ike encr key_length group) = fixed_transforms (Ike encr key_length group)
offered_transforms (Esp true) = fixed_transforms (Esp true) ++ sequence_numbers true ∷ sequence_numbers false ∷ []
offered_transforms (Esp false) = fixed_transforms (Esp false) ++ sequence_numbers false ∷ []

-- one transform of each type
abbrev pub answered_transforms : Wanted → Bool → List Transform
answered_transforms (Ike encr key_length group) extended = fixed_transforms (Ike encr key_length group)
answered_transforms (Esp allowed) extended = fixed_transforms (Esp allowed) ++ sequence_numbers extended ∷ []

-- an end offers one proposal, of number 1
abbrev pub offer_of : Wanted → List ℕ → Proposal
offer_of wanted spi = record { number = 1; protocol = wanted_protocol wanted; spi = spi; transforms = offered_transforms wanted }

-- the answer keeps the number of the proposal that was chosen (section 3.3.1)
abbrev pub answer_of : Wanted → Chosen → List ℕ → Proposal
answer_of wanted chosen spi = record { number = chosen.number; protocol = wanted_protocol wanted; spi = spi; transforms = answered_transforms wanted chosen.extended }

abbrev pub count_of_kind : List Transform → ℕ → ℕ
count_of_kind transforms kind = count_by (λ t. t.kind == kind) transforms

-- The answer to what this end offered: of its number, with one acceptable transform of each type and
-- nothing else.
pub record IsAcceptableAnswer (wanted : Wanted) (proposal : Proposal) : Type 0 where
  pub acceptable : IsAcceptableProposal wanted proposal
  pub number : proposal.number ≡ 1
  pub one_each : All (λ kind. count_of_kind proposal.transforms kind ≡ 1) (kinds wanted)

-- The answer is one proposal that is due to the offer, and this is what it chose.
pub record AcceptsAnswer (wanted : Wanted) (proposals : List Proposal) (chosen : Chosen) : Type 0 where
  pub proposal : Proposal
  pub alone : proposals ≡ proposal ∷ []
  pub answer : IsAcceptableAnswer wanted proposal
  pub choice : IsChosenProposal wanted proposals chosen

-- An answer to one of these proposals keeps its number and its protocol, and takes its transforms from it.
pub record IsTakenFrom (proposals : List Proposal) (place : ℕ) (answer : Proposal) : Type 0 where
  pub proposal : Proposal
  pub there : slice_get proposals place ≡ Some proposal
  pub number : answer.number ≡ proposal.number
  pub protocol : answer.protocol ≡ proposal.protocol
  pub transforms : All (λ transform. Contains proposal.transforms transform) answer.transforms
