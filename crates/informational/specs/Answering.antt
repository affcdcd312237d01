-- The answer to a request of INFORMATIONAL, and what becomes of the IKE SA and of its SA pairs (RFC 7296
-- sections 1.4, 1.4.1, 2.5 and 2.21.3).
use Rattle.std.specs.Prelude.{◌≡◌, ℕ, Option, Some, None, List, []}
use Rattle.base.specs.Octets.{Octets}
use Rattle.wire.specs.Numbers.{INFORMATIONAL}
use Rattle.wire.specs.declared.payload.Payload.{Payload}
use Rattle.suite.specs.declared.key_record.KeyRecord.{KeyRecord}
use Rattle.suite.specs.declared.keys.Keys.{Keys}
use Rattle.exchange.specs.Headers.{keys_of}
use Rattle.exchange.specs.Sealed.{IsSealed}
use Rattle.exchange.specs.declared.sealed.Plain.{Plain}
use Rattle.requests.specs.Incoming.{HasSameRequests, PeerRequests, TakesRequest}
use Rattle.sadb.specs.Database.{Database}
use Rattle.association.specs.Phases.{IsEstablished}
use Rattle.association.specs.declared.phase.Association.{Association}
use Rattle.association.specs.declared.phase.Phase.TheVariants as phase
use Rattle.association.specs.Sending.{reply_message}
use Rattle.association.specs.Issuing.{with_incoming}
use Rattle.setup.specs.Configs.{Setup}
use Rattle.exchange.specs.Chains.{IsRead}
use Rattle.association.specs.Outcomes.{childless}
use Rattle.association.specs.declared.outcome.Answered.{Answered}
use Rattle.deletions.specs.Answering.{payloads_of_verdict}
use Rattle.deletions.specs.Deciding.{is_closing_verdict, verdict_on}
use Rattle.deletions.specs.declared.deciding.Verdict.{Verdict}
use Rattle.deletions.specs.declared.deciding.Verdict.TheVariants as verdict
use Rattle.informational.specs.Orders.{ClosesIf}

-- the SA pairs that go by a verdict
abbrev pub gone_by : Verdict → List ℕ
gone_by verdict.BadSyntax = []
gone_by (verdict.Unsupported kind) = []
gone_by verdict.Closes = []
gone_by (verdict.Deletes deleted) = deleted.serials

-- The request is processed: it is answered, the response is cached, and the IKE SA is closed, or the SA pairs
-- that are named go.
pub record AnswersInformational (body_of : Keys → Octets → Octets → Octets → Octets) (setup : Setup) (old : Association) (table : Database) (number : ℕ) (plain : Plain) (answer : Answered) (new : Association) (new_table : Database) : Type 0 where
  pub keys : KeyRecord
  pub established : old.phase ≡ phase.Established keys
  pub payloads : Option (List Payload)
  pub read : IsRead plain payloads
  pub sealed : IsSealed body_of (keys_of old.role keys) setup.fresh.seal (reply_message old INFORMATIONAL number (payloads_of_verdict (verdict_on table.pairs old.serial payloads))) answer.octets
  pub incoming : PeerRequests
  pub ready : PeerRequests
  pub prepared : HasSameRequests old.incoming ready
  pub taken : TakesRequest ready number answer.octets incoming
  pub fate : answer.fate ≡ childless (is_closing_verdict (verdict_on table.pairs old.serial payloads))
  pub concluded : ClosesIf (is_closing_verdict (verdict_on table.pairs old.serial payloads)) (gone_by (verdict_on table.pairs old.serial payloads)) (with_incoming old incoming) table setup.moment new new_table

-- The request is processed at an established IKE SA. Elsewhere nothing is done.
abbrev pub AnswersWhereEstablished : (Keys → Octets → Octets → Octets → Octets) → Setup → Association → Database → ℕ → Plain → Option Answered → Association → Database → Type 0
AnswersWhereEstablished body_of setup old table number plain None new new_table = (¬ IsEstablished old.phase) × (new ≡ old) × (new_table ≡ table)
AnswersWhereEstablished body_of setup old table number plain (Some answer) new new_table = AnswersInformational body_of setup old table number plain answer new new_table
