-- What a request asks for (RFC 7296 sections 1.2 and 1.3.1).
use Rattle.std.specs.Prelude.{◌≡◌, ◌≤◌, List, [], ◌∷◌, Some}
use Rattle.std.specs.List.{AllByRecursion, sum_by}
use Rattle.byteorder.specs.Endian.{big_bytes}
use Rattle.wire.specs.Sizes.{size_of, FitsFields}
use Rattle.wire.specs.declared.payload.Payload.{Payload}
use Rattle.wire.specs.declared.proposal.Proposal.{Proposal}
use Rattle.suite.specs.declared.choice.Wanted.TheVariants.{Esp}
use Rattle.exchange.specs.Children.{child_payloads}
use Rattle.exchange.specs.Counting.{only_sa, only_ts_i, only_ts_r}
use Rattle.suite.specs.Offers.{offer_of}
use Rattle.exchange.specs.declared.child.ChildPayloads.{ChildPayloads}
use Rattle.children.specs.declared.asking.Asked.{Asked}

-- the one proposal of an initiator, with the SPI that it gave for what it is sent (section 3.3.1)
abbrev pub asked_proposal : Asked → Proposal
asked_proposal asked = offer_of (Esp asked.extended) (big_bytes 4 asked.spi)

-- that proposal, and one selector of each side, the initiator's own first
abbrev pub child_request : Asked → ChildPayloads
child_request asked = record {
  proposals = asked_proposal asked ∷ [];
  ts_i = asked.local ∷ [];
  ts_r = asked.remote ∷ [];
}

-- each can be written, and together they have at most 1400 octets
pub record FitMessages (payloads : ChildPayloads) : Type 0 where
  pub fields : AllByRecursion FitsFields (child_payloads payloads)
  pub short : sum_by size_of (child_payloads payloads) ≤ 1400

-- of their types, these are the only payloads of a message
pub record HasChildPayloads (message : List Payload) (payloads : ChildPayloads) : Type 0 where
  pub sa : only_sa message ≡ Some payloads.proposals
  pub ts_i : only_ts_i message ≡ Some payloads.ts_i
  pub ts_r : only_ts_r message ≡ Some payloads.ts_r
