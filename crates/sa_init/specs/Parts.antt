-- The payloads that request and response have (RFC 7296 section 1.2).
use Rattle.std.specs.Prelude.{◌≡◌, ℕ, Some, List}
use Rattle.base.specs.Octets.{Octets}
use Rattle.wire.specs.declared.payload.Payload.{Payload}
use Rattle.wire.specs.declared.proposal.Proposal.{Proposal}
use Rattle.exchange.specs.Counting.{only_ke, only_nonce, only_sa}
use Rattle.sa_init.specs.declared.parts.Parts.{Parts}

-- proposals, the group and the value of a key exchange, a nonce
pub record PartsView : Type 0 where
  pub proposals : List Proposal
  pub group : ℕ
  pub public : Octets
  pub nonce : Octets

abbrev pub parts_view : Parts → PartsView
parts_view p = record { proposals = p.proposals.now; group = p.group; public = p.public.now; nonce = p.nonce.now }

-- one SA, one KE and one Nonce, with this content, whatever else stands beside them
pub record HasParts (payloads : List Payload) (parts : PartsView) : Type 0 where
  pub sa : only_sa payloads ≡ Some parts.proposals
  pub ke : only_ke payloads ≡ Some (parts.group, parts.public)
  pub ni : only_nonce payloads ≡ Some parts.nonce
