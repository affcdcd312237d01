-- A request of INFORMATIONAL: whether the peer is there, or that a Child SA or the IKE SA is deleted (RFC
-- 7296 sections 1.4, 1.4.1 and 2.4).
use Rattle.std.specs.Prelude.{◌≡◌, ℕ, false, List}
use Rattle.base.specs.Octets.{Octets}
use Rattle.wire.specs.Numbers.{INFORMATIONAL}
use Rattle.wire.specs.declared.message.Message.{Message}
use Rattle.wire.specs.declared.payload.Payload.{Payload}
use Rattle.suite.specs.declared.key_record.KeyRecord.{KeyRecord}
use Rattle.suite.specs.declared.keys.Keys.{Keys}
use Rattle.exchange.specs.Headers.{keys_of, sent_header}
use Rattle.exchange.specs.Sealed.{IsSealed}
use Rattle.requests.specs.Outgoing.{OwnRequests}
use Rattle.association.specs.Purposes.{AwaitsDeletion}
use Rattle.association.specs.declared.phase.Association.{Association}
use Rattle.association.specs.declared.phase.Phase.TheVariants as phase
use Rattle.association.specs.declared.phase.Request.{Request}
use Rattle.association.specs.Issuing.{with_outgoing, new_request, IssuesNext}
use Rattle.setup.specs.Configs.{Setup}
use Rattle.informational.specs.Ordering.{payloads_of_order, purpose_of}
use Rattle.informational.specs.declared.ordering.Order.{Order}
use Rattle.association.specs.Sending.{request_message}

-- The request goes out under the next Message ID, and waits for its answer. None goes out while one to delete
-- the IKE SA waits for its own.
pub record Asks (body_of : Keys → Octets → Octets → Octets → Octets) (setup : Setup) (order : Order) (old : Association) (octets : Octets) (new : Association) : Type 0 where
  pub keys : KeyRecord
  pub established : old.phase ≡ phase.Established keys
  pub not_deleting : ¬ AwaitsDeletion old.outgoing
  pub sealed : IsSealed body_of (keys_of old.role keys) setup.fresh.seal (request_message old INFORMATIONAL old.outgoing.next (payloads_of_order order)) octets
  pub outgoing : OwnRequests Request
  pub issued : IssuesNext old.outgoing (new_request octets (purpose_of order) setup.moment) outgoing
  pub content : new ≡ with_outgoing old outgoing
