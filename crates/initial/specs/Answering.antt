-- The answer to IKE_AUTH, and what becomes of the IKE SA and of the table (RFC 7296 sections 1.2, 2.3 and
-- 2.21.2).
use Rattle.std.specs.Prelude.{◌≡◌, ℕ, true, Option, Some, None, List, [], ◌∷◌}
use Rattle.base.specs.Octets.{Octets}
use Rattle.wire.specs.Numbers.{IKE_AUTH}
use Rattle.wire.specs.declared.message.Message.{Message}
use Rattle.wire.specs.declared.payload.Payload.{Payload}
use Rattle.suite.specs.declared.keys.Keys.{Keys}
use Rattle.suite.specs.declared.proof.Proof as Proof
use Rattle.suite.specs.declared.sealer.Sealer as Sealer
use Rattle.exchange.specs.Headers.{keys_of, sent_header}
use Rattle.exchange.specs.Notices.{payload_of_notice}
use Rattle.exchange.specs.Sealed.{IsSealed}
use Rattle.exchange.specs.declared.sealed.Plain.{Plain}
use Rattle.requests.specs.Incoming.{HasSameRequests, PeerRequests, TakesRequest}
use Rattle.sadb.specs.Database.{Database, IsAsBefore}
use Rattle.sadb.specs.declared.pair.Pair.{Pair}
use Rattle.association.specs.declared.phase.Association.{Association}
use Rattle.association.specs.declared.phase.HalfOpen.{HalfOpen}
use Rattle.association.specs.declared.phase.Phase.{Phase}
use Rattle.association.specs.declared.phase.Phase.TheVariants as phase
use Rattle.auth.specs.Answers.{auth_answer}
use Rattle.auth.specs.Proofs.{Accepts}
use Rattle.exchange.specs.declared.child.ChildAnswer.{ChildAnswer}
use Rattle.exchange.specs.declared.child.ChildAnswer.TheVariants as answered
use Rattle.children.specs.declared.responding.Response.{Response}
use Rattle.children.specs.declared.responding.Response.TheVariants as response
use Rattle.initial.specs.Concluding.{ConcludesBy}
use Rattle.association.specs.Issuing.{with_incoming}
use Rattle.setup.specs.Configs.{Setup}
use Rattle.initial.specs.Deciding.{own_proving, Decides}
use Rattle.association.specs.declared.outcome.Answered.{Answered}
use Rattle.initial.specs.declared.concluding.Outcome.{Outcome}
use Rattle.initial.specs.declared.concluding.Outcome.TheVariants as outcome
use Rattle.initial.specs.declared.deciding.Decision.{Decision}
use Rattle.initial.specs.declared.deciding.Decision.TheVariants as decision
use Rattle.association.specs.Sending.{reply_message}

-- what the caller means by its traits, as far as IKE_AUTH asks it
pub record Prover : Type 0 where
  -- how bodies are sealed, by keys, head, plain text and fresh octets
  pub body_of : Keys → Octets → Octets → Octets → Octets
  pub own_method : ℕ
  pub proof_of : Octets → Octets
  pub accepts : Accepts

-- what a caller of this type and value means so
abbrev pub prover_by : {C : Type 0} → Sealer.Ghosts C → Proof.Ghosts C → C → Prover
prover_by sealer proof caller = record {
  body_of = sealer.body_of;
  own_method = proof.own_method caller;
  proof_of = proof.proof_of caller;
  accepts = proof.accepts caller;
}

abbrev pub child_answer : Response → ChildAnswer
child_answer (response.Made made) = answered.Payloads made.payloads
child_answer (response.Refused notice) = answered.Notice notice

abbrev pub pair_of : Response → Option Pair
pair_of (response.Made made) = Some made.pair
pair_of (response.Refused notice) = None

-- the payloads of the answer
abbrev pub reply_payloads : ℕ → (Octets → Octets) → Setup → HalfOpen → Decision → List Payload
reply_payloads own_method proof_of setup opened (decision.Refused notice) = payload_of_notice notice ∷ []
reply_payloads own_method proof_of setup opened (decision.Accepted answer window) =
    auth_answer own_method proof_of setup.config.own.identity (own_proving opened) (child_answer answer) setup.config.window

abbrev pub outcome_of : Decision → Outcome
outcome_of (decision.Refused notice) = outcome.Closes
outcome_of (decision.Accepted answer window) = outcome.Establishes (pair_of answer) window

-- The request is processed: it is answered, the response is cached, and the IKE SA is established or closed.
pub record AnswersAuth (prover : Prover) (setup : Setup) (old : Association) (table : Database) (number : ℕ) (plain : Plain) (answer : Answered) (new : Association) (new_table : Database) : Type 0 where
  pub opened : HalfOpen
  pub was : old.phase ≡ phase.HalfOpen opened
  pub decision : Decision
  pub decided : Decides prover.accepts setup old.serial opened table plain decision
  pub sealed : IsSealed prover.body_of (keys_of old.role opened.keys) setup.fresh.seal (reply_message old IKE_AUTH number (reply_payloads prover.own_method prover.proof_of setup opened decision)) answer.octets
  pub incoming : PeerRequests
  pub ready : PeerRequests
  pub prepared : HasSameRequests old.incoming ready
  pub taken : TakesRequest ready number answer.octets incoming
  pub between : Database
  pub room : IsAsBefore table between
  pub concluded : ConcludesBy setup (with_incoming old incoming) between (outcome_of decision) answer.fate new new_table

-- this end waits for IKE_AUTH
pub record IsHalfOpen (p : Phase) : Type 0 where
  pub opened : HalfOpen
  pub is : p ≡ phase.HalfOpen opened

-- The request is processed at a half-open IKE SA. Elsewhere nothing is done.
abbrev pub AnswersWhereHalfOpen : Prover → Setup → Association → Database → ℕ → Plain → Option Answered → Association → Database → Type 0
AnswersWhereHalfOpen prover setup old table number plain None new new_table = (¬ IsHalfOpen old.phase) × (new ≡ old) × (new_table ≡ table)
AnswersWhereHalfOpen prover setup old table number plain (Some answer) new new_table = AnswersAuth prover setup old table number plain answer new new_table
