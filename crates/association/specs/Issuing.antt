-- Requests as they are issued (RFC 7296 sections 2.1 and 2.2).
use Rattle.std.specs.Prelude.{ℕ}
use Rattle.base.specs.Octets.{Octets}
use Rattle.requests.specs.Incoming.{PeerRequests}
use Rattle.requests.specs.Outgoing.{HasSameOwnRequests, IssuesRequest, OwnRequests}
use Rattle.association.specs.declared.phase.Association.{Association}
use Rattle.association.specs.declared.phase.Request.{Request}
use Rattle.association.specs.declared.purpose.Purpose.{Purpose}

-- a request that first goes out at this time
abbrev pub new_request : Octets → Purpose → ℕ → Request
new_request octets purpose moment = record { octets = octets; purpose = purpose; timer = record { sent = moment; repeats = 0 } }

-- one more request is outstanding, with the next Message ID
pub record IssuesNext (old : OwnRequests Request) (request : Request) (new : OwnRequests Request) : Type 0 where
  pub ready : OwnRequests Request
  pub prepared : HasSameOwnRequests old ready
  pub issued : IssuesRequest ready request old.next new

-- with other requests of the peer, or other own ones
abbrev pub with_incoming : Association → PeerRequests → Association
with_incoming a incoming = record a { incoming = incoming }

abbrev pub with_outgoing : Association → OwnRequests Request → Association
with_outgoing a outgoing = record a { outgoing = outgoing }
