-- What the two ends of a Child SA agree on (RFC 7296 sections 2.9 and 3.3): what the payloads of a request
-- and of its reply say.
use Rattle.std.specs.Prelude.{◌≡◌, ◌==◌, ℕ, Bool, List, [], ◌∷◌, Some, length, slice_get}
use Rattle.std.specs.List.{filter}
use Rattle.byteorder.specs.Endian.{big_number}
use Rattle.base.specs.declared.selector.Selector.{Selector}
use Rattle.wire.specs.Numbers.{ESP_PROTOCOL, SEQUENCE_NUMBERS_TRANSFORM}
use Rattle.wire.specs.declared.payload.Payload.{Payload}
use Rattle.wire.specs.declared.proposal.Proposal.{Proposal}
use Rattle.wire.specs.declared.proposal.Transform.{Transform}
use Rattle.suite.specs.Choice.{sequence_numbers}
use Rattle.exchange.specs.Counting.{only_sa, only_ts_i, only_ts_r}

pub record Terms : Type 0 where
  -- the SPI of what the exchange's responder sends, which the initiator gave, and that of what its
  -- initiator sends
  pub spi_i : ℕ
  pub spi_r : ℕ
  -- whether sequence numbers have 64 bits, in both directions
  pub extended : Bool
  -- the selectors of the initiator's side and of the responder's
  pub ts_i : List Selector
  pub ts_r : List Selector

-- the transforms for sequence numbers (section 3.3.2)
abbrev pub numbers_in : List Transform → List Transform
numbers_in transforms = filter (λ t. t.kind == SEQUENCE_NUMBERS_TRANSFORM) transforms

-- a proposal for ESP names an SPI of four octets (section 3.3.1)
pub record IsForEsp (proposal : Proposal) : Type 0 where
  pub protocol : proposal.protocol ≡ ESP_PROTOCOL
  pub spi : length proposal.spi ≡ 4

-- The reply answers one proposal of the request by its number (section 3.3.1), both are for ESP, and each
-- end names the SPI of what it is sent. The reply's selectors count, since they are those offered or
-- narrower (section 2.9).
pub record AreTermsOf (request reply : List Payload) (terms : Terms) : Type 0 where
  pub offered : List Proposal
  pub place : ℕ
  pub proposal : Proposal
  pub answer : Proposal
  pub request_sa : only_sa request ≡ Some offered
  pub reply_sa : only_sa reply ≡ Some (answer ∷ [])
  pub there : slice_get offered place ≡ Some proposal
  pub number : answer.number ≡ proposal.number
  pub proposal_for : IsForEsp proposal
  pub answer_for : IsForEsp answer
  pub spi_i : terms.spi_i ≡ big_number 4 proposal.spi
  pub spi_r : terms.spi_r ≡ big_number 4 answer.spi
  pub numbers : numbers_in answer.transforms ≡ sequence_numbers terms.extended ∷ []
  pub ts_i : only_ts_i reply ≡ Some terms.ts_i
  pub ts_r : only_ts_r reply ≡ Some terms.ts_r
