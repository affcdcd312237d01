-- The answer to a request for an additional Child SA, and what comes of it (RFC 7296 sections 1.3.1 and
-- 2.21.3).
use Rattle.std.specs.Prelude.{◌≡◌, ℕ, Bool, true, false, Option, Some, None, MatchBool}
use Rattle.base.specs.Octets.{Octets}
use Rattle.wire.specs.Numbers.{CREATE_CHILD_SA}
use Rattle.suite.specs.declared.key_record.KeyRecord.{KeyRecord}
use Rattle.suite.specs.declared.keys.Keys.{Keys}
use Rattle.exchange.specs.Headers.{keys_of}
use Rattle.exchange.specs.Sealed.{IsSealed}
use Rattle.exchange.specs.declared.sealed.Plain.{Plain}
use Rattle.requests.specs.Incoming.{HasSameRequests, PeerRequests, TakesRequest}
use Rattle.sadb.specs.Database.{Database, IsAsBefore}
use Rattle.sadb.specs.declared.pair.Pair.{Pair}
use Rattle.association.specs.Closing.{Closes}
use Rattle.association.specs.Phases.{IsEstablished}
use Rattle.association.specs.Purposes.{AwaitsDeletion}
use Rattle.association.specs.declared.phase.Association.{Association}
use Rattle.association.specs.declared.phase.Phase.TheVariants as phase
use Rattle.children.specs.Responding.{AddsNext, CanTake}
use Rattle.association.specs.Sending.{reply_message}
use Rattle.association.specs.Issuing.{with_incoming}
use Rattle.setup.specs.Configs.{Setup}
use Rattle.association.specs.declared.outcome.Answered.{Answered}
use Rattle.association.specs.declared.outcome.Fate.{Fate}
use Rattle.association.specs.declared.outcome.Fate.TheVariants as fate
use Rattle.further.specs.Answering.{answer_to_further, further_answer, further_pair}
use Rattle.further.specs.Deciding.{is_closing_decision, DecidesFurther}
use Rattle.further.specs.declared.deciding.Decision.{Decision}

-- the table can take the SA pair, if there is one
abbrev pub CanInstall : Database → Option Pair → Type 0
CanInstall table None = Unit {0}
CanInstall table (Some pair) = CanTake table pair

-- a Child SA is added, if there is one, and the IKE SA stays as it is
abbrev pub AddsFurther : Option Pair → Database → Fate → Database → Type 0
AddsFurther None table fate.Stands new = new ≡ table
AddsFurther (Some pair) table (fate.Made serial) new = AddsNext table pair serial new
AddsFurther pair table came new = ⊥

-- the IKE SA ends, with all its Child SAs; or not
abbrev pub ConcludesFurther : Bool → Option Pair → Association → Database → ℕ → Fate → Association → Database → Type 0
ConcludesFurther true pair old table moment came new new_table = (came ≡ fate.Closed) × Closes old table moment new new_table
ConcludesFurther false pair old table moment came new new_table = (new ≡ old) × AddsFurther pair table came new_table

-- The request is processed: it is answered, the response is cached, and the Child SA is made, or none, or the
-- IKE SA ends.
pub record AnswersFurther (body_of : Keys → Octets → Octets → Octets → Octets) (setup : Setup) (old : Association) (table : Database) (number : ℕ) (plain : Plain) (answer : Answered) (new : Association) (new_table : Database) : Type 0 where
  pub keys : KeyRecord
  pub established : old.phase ≡ phase.Established keys
  -- whether a request of this end to delete the IKE SA waits for its answer
  pub deleting : Bool
  pub told : MatchBool deleting (AwaitsDeletion old.outgoing) (¬ AwaitsDeletion old.outgoing)
  pub decision : Decision
  pub decided : DecidesFurther setup old.serial keys table deleting plain decision
  pub sealed : IsSealed body_of (keys_of old.role keys) setup.fresh.seal (reply_message old CREATE_CHILD_SA number (further_answer (answer_to_further decision) setup.fresh.nonce)) answer.octets
  pub incoming : PeerRequests
  pub ready : PeerRequests
  pub prepared : HasSameRequests old.incoming ready
  pub taken : TakesRequest ready number answer.octets incoming
  pub between : Database
  pub room : IsAsBefore table between
  pub concluded : ConcludesFurther (is_closing_decision decision) (further_pair decision) (with_incoming old incoming) between setup.moment answer.fate new new_table

-- The request is processed at an established IKE SA. Elsewhere nothing is done.
abbrev pub AnswersWhereEstablished : (Keys → Octets → Octets → Octets → Octets) → Setup → Association → Database → ℕ → Plain → Option Answered → Association → Database → Type 0
AnswersWhereEstablished body_of setup old table number plain None new new_table = (¬ IsEstablished old.phase) × (new ≡ old) × (new_table ≡ table)
AnswersWhereEstablished body_of setup old table number plain (Some answer) new new_table = AnswersFurther body_of setup old table number plain answer new new_table
