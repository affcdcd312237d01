-- A request of this end at an established IKE SA, whatever it asks for (RFC 7296 sections 1.3, 1.4 and 2.1
-- to 2.3).
use Rattle.std.specs.Prelude.{◌≡◌, List}
use Rattle.std.specs.List.{AllByRecursion}
use Rattle.base.specs.Octets.{Octets}
use Rattle.wire.specs.Payloads.{IsClear}
use Rattle.wire.specs.declared.payload.Payload.{Payload}
use Rattle.suite.specs.declared.key_record.KeyRecord.{KeyRecord}
use Rattle.suite.specs.declared.keys.Keys.{Keys}
use Rattle.exchange.specs.Headers.{keys_of}
use Rattle.exchange.specs.Sealed.{IsSealed}
use Rattle.requests.specs.Outgoing.{OwnRequests}
use Rattle.association.specs.Purposes.{exchange_of}
use Rattle.association.specs.declared.phase.Association.{Association}
use Rattle.association.specs.declared.phase.Phase.TheVariants as phase
use Rattle.association.specs.declared.phase.Request.{Request}
use Rattle.association.specs.declared.purpose.Purpose.{Purpose}
use Rattle.association.specs.Issuing.{with_outgoing, new_request, IssuesNext}
use Rattle.setup.specs.Configs.{Setup}
use Rattle.association.specs.Sending.{request_message}
use Rattle.effects.specs.Waiting.{IsAskedLater}

-- It is sealed under the IKE SA's keys, is sent under the next Message ID, and waits for its response from
-- then on. None of its payloads is an encrypted one.
pub record SendsRequest (body_of : Keys → Octets → Octets → Octets → Octets) (setup : Setup) (old : Association) (octets : Octets) (new : Association) : Type 0 where
  pub keys : KeyRecord
  pub established : old.phase ≡ phase.Established keys
  pub purpose : Purpose
  pub later : IsAskedLater purpose
  pub payloads : List Payload
  pub clear : AllByRecursion IsClear payloads
  pub sealed : IsSealed body_of (keys_of old.role keys) setup.fresh.seal (request_message old (exchange_of purpose) old.outgoing.next payloads) octets
  pub outgoing : OwnRequests Request
  pub issued : IssuesNext old.outgoing (new_request octets purpose setup.moment) outgoing
  pub content : new ≡ with_outgoing old outgoing
