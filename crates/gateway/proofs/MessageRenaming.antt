-- What a message does to its IKE SA and to the table goes by no serial of an IKE SA.
use Rattle.std.proofs.Common.{◌==◌, ℕ, Bool, true, false, ap}
use Rattle.base.specs.Octets.{Octets}
use Rattle.wire.specs.Numbers.{INFORMATIONAL}
use Rattle.wire.specs.declared.message.Message.{Message}
use Rattle.suite.specs.declared.keys.Keys.{Keys}
use Rattle.exchange.specs.declared.sealed.Plain.{Plain}
use Rattle.sadb.specs.Database.{Database}
use Rattle.association.specs.Receiving.{Answers, AnswersInitial, IsReceivedBy, Opening, Reception, Refused, Repeat, TakesEffect}
use Rattle.association.specs.declared.outcome.Answered.{Answered}
use Rattle.association.specs.declared.outcome.Ended.{Ended}
use Rattle.association.specs.declared.phase.Association.{Association}
use Rattle.association.specs.declared.phase.Phase.{Phase}
use Rattle.association.specs.declared.phase.Phase.TheVariants as phase
use Rattle.auth.specs.Proofs.{Accepts}
use Rattle.setup.specs.Configs.{Setup}
use Rattle.initial.specs.Answering.{AnswersAuth, Prover}
use Rattle.initial.specs.Ending.{EndsAuth}
use Rattle.initial.specs.Reading.{Asker, ReadsResponse}
use Rattle.initial.specs.declared.reading.Continued.{Continued}
use Rattle.create_child.specs.Answering.{AnswersFurther}
use Rattle.create_child.specs.Counting.{CountsFurther}
use Rattle.effects.specs.Taking.{asked_further, asker_of, prover_of, Does, DoesAnswer, DoesAtEstablished, DoesInitial, DoesRequest, DoesResponse, IsPassedOver, Meaning, TakesMessage}
use Rattle.effects.specs.declared.taking.Effect.{Effect}
use Rattle.effects.specs.declared.taking.Effect.TheVariants as effect
use Rattle.gateway.specs.Renaming.{renamed_association, renamed_table}
use Rattle.gateway.proofs.RenamedLaws.{AssociationLaws}
use Rattle.gateway.proofs.TableRenaming.{closes_renamed, KeepsApart}
use Rattle.gateway.proofs.InformationalRenaming.{answers_informational_renamed, asks_further_renamed, asks_renamed, counts_informational_renamed}

-- what is known of the exchanges that make Child SAs, and of the response to IKE_SA_INIT
pub record MessageLaws (r : ℕ → ℕ) : Type 0 where
  pub answers_auth : (prover : Prover) (setup : Setup) (old : Association) (table : Database) (number : ℕ) (plain : Plain) (answer : Answered) (new : Association) (new_table : Database)
      → AnswersAuth prover setup old table number plain answer new new_table → AnswersAuth prover setup (renamed_association r old) (renamed_table r table) number plain answer (renamed_association r new) (renamed_table r new_table)
  pub ends_auth : (accepts : Accepts) (setup : Setup) (old : Association) (table : Database) (number : ℕ) (plain : Plain) (ended : Ended) (new : Association) (new_table : Database)
      → EndsAuth accepts setup old table number plain ended new new_table → EndsAuth accepts setup (renamed_association r old) (renamed_table r table) number plain ended (renamed_association r new) (renamed_table r new_table)
  pub answers_further : (body_of : Keys → Octets → Octets → Octets → Octets) (setup : Setup) (old : Association) (table : Database) (number : ℕ) (plain : Plain) (answer : Answered) (new : Association) (new_table : Database)
      → AnswersFurther body_of setup old table number plain answer new new_table → AnswersFurther body_of setup (renamed_association r old) (renamed_table r table) number plain answer (renamed_association r new) (renamed_table r new_table)
  pub counts_further : (setup : Setup) (old : Association) (table : Database) (number : ℕ) (plain : Plain) (ended : Ended) (new : Association) (new_table : Database)
      → CountsFurther setup old table number plain ended new new_table → CountsFurther setup (renamed_association r old) (renamed_table r table) number plain ended (renamed_association r new) (renamed_table r new_table)
  pub reads : (asker : Asker) (setup : Setup) (old : Association) (number : ℕ) (octets : Octets) (m : Message) (came : Continued) (new : Association)
      → ReadsResponse asker setup old number octets m came new → ReadsResponse asker setup (renamed_association r old) number octets m came (renamed_association r new)

module _ (r : ℕ → ℕ) (apart : KeepsApart r) (laws : MessageLaws r) where
  pub passed_renamed : (old : Association) (table : Database) (new : Association) (new_table : Database)
      → IsPassedOver old table new new_table → IsPassedOver (renamed_association r old) (renamed_table r table) (renamed_association r new) (renamed_table r new_table)
  passed_renamed old table new new_table it = record { association = ap (renamed_association r) it.association; pairs = ap (renamed_table r) it.pairs }

  module _ (meaning : Meaning) (setup : Setup) (old : Association) (table : Database) (new : Association) (new_table : Database) where
    at_established : (informational : Bool) (number : ℕ) (plain : Plain) (e : Effect)
        → DoesAtEstablished informational meaning setup old table number plain e new new_table
        → DoesAtEstablished informational meaning setup (renamed_association r old) (renamed_table r table) number plain e (renamed_association r new) (renamed_table r new_table)
    at_established true number plain (effect.Replied answered) it = answers_informational_renamed r apart meaning.body_of setup old table number plain answered new new_table it
    at_established true number plain e it = absurd it
    at_established false number plain (effect.Replied answered) it = laws.answers_further meaning.body_of setup old table number plain answered new new_table it
    at_established false number plain e it = absurd it

    request_renamed : (p : Phase) (exchange number : ℕ) (plain : Plain) (e : Effect)
        → DoesRequest meaning setup p exchange old table number plain e new new_table
        → DoesRequest meaning setup p exchange (renamed_association r old) (renamed_table r table) number plain e (renamed_association r new) (renamed_table r new_table)
    request_renamed (phase.HalfOpen opened) exchange number plain (effect.Replied answered) it = laws.answers_auth (prover_of meaning) setup old table number plain answered new new_table it
    request_renamed (phase.HalfOpen opened) exchange number plain e it = absurd it
    request_renamed (phase.Established keys) exchange number plain e it = at_established (exchange == INFORMATIONAL) number plain e it
    request_renamed p exchange number plain (effect.Refused fault) it = (it.0, passed_renamed old table new new_table it.1)
    request_renamed p exchange number plain e it = absurd it

    answer_renamed : (further : Bool) (number : ℕ) (plain : Plain) (e : Effect)
        → DoesAnswer further setup old table number plain e new new_table
        → DoesAnswer further setup (renamed_association r old) (renamed_table r table) number plain e (renamed_association r new) (renamed_table r new_table)
    answer_renamed true number plain (effect.Counted ended) it = laws.counts_further setup old table number plain ended new new_table it
    answer_renamed true number plain e it = absurd it
    answer_renamed false number plain (effect.Counted ended) it = counts_informational_renamed r apart setup old table number plain ended new new_table it
    answer_renamed false number plain e it = absurd it

    response_renamed : (p : Phase) (number : ℕ) (plain : Plain) (e : Effect)
        → DoesResponse meaning setup p old table number plain e new new_table
        → DoesResponse meaning setup p (renamed_association r old) (renamed_table r table) number plain e (renamed_association r new) (renamed_table r new_table)
    response_renamed (phase.AuthSent sent) number plain (effect.Counted ended) it = laws.ends_auth meaning.accepts setup old table number plain ended new new_table it
    response_renamed (phase.AuthSent sent) number plain e it = absurd it
    response_renamed (phase.Established keys) number plain e it = answer_renamed (asked_further old number) number plain e it
    response_renamed p number plain (effect.Refused fault) it = (it.0, passed_renamed old table new new_table it.1)
    response_renamed p number plain e it = absurd it

    initial_renamed : (octets : Octets) (m : Message) (e : Effect) → DoesInitial meaning setup old octets m e new → DoesInitial meaning setup (renamed_association r old) octets m e (renamed_association r new)
    initial_renamed octets m e it = record {
      continued = it.continued;
      read = laws.reads (asker_of meaning) setup old m.header.id octets m it.continued new it.read;
      said = it.said;
    }

    does_renamed : (octets : Octets) (m : Message) (reception : Reception) (e : Effect)
        → Does meaning setup old table octets m reception e new new_table
        → Does meaning setup (renamed_association r old) (renamed_table r table) octets m reception e (renamed_association r new) (renamed_table r new_table)
    does_renamed octets m (Refused fault) (effect.Refused said) it = (it.0, passed_renamed old table new new_table it.1)
    does_renamed octets m (Repeat reply) (effect.Repeated said) it = (it.0, passed_renamed old table new new_table it.1)
    does_renamed octets m (TakesEffect plain) e it = request_renamed old.phase m.header.exchange m.header.id plain e it
    does_renamed octets m (Answers plain) e it = response_renamed old.phase m.header.id plain e it
    does_renamed octets m AnswersInitial e it = (initial_renamed octets m e it.0, ap (renamed_table r) it.1)
    does_renamed octets m reception e it = absurd it

  received_renamed : (response : Bool) (plain_of : Opening) (a : Association) (octets : Octets) (m : Message) (reception : Reception)
      → IsReceivedBy response plain_of a octets m reception → IsReceivedBy response plain_of (renamed_association r a) octets m reception
  received_renamed true plain_of a octets m reception it = it
  received_renamed false plain_of a octets m reception it = record { judgement = it.judgement; number = it.number; whole = it.whole }

  pub takes_message_renamed : (meaning : Meaning) (setup : Setup) (old new : Association) (table new_table : Database) (octets : Octets) (m : Message) (e : Effect)
      → TakesMessage meaning setup old table octets m e new new_table → TakesMessage meaning setup (renamed_association r old) (renamed_table r table) octets m e (renamed_association r new) (renamed_table r new_table)
  takes_message_renamed meaning setup old new table new_table octets m e it = record {
    reception = it.reception;
    received = received_renamed m.header.flags.response meaning.plain_of old octets m it.reception it.received;
    done = does_renamed meaning setup old table new new_table octets m it.reception e it.done;
  }

  pub association_laws : AssociationLaws r
  association_laws = record {
    message = takes_message_renamed;
    closes = closes_renamed r apart;
    asks = asks_renamed r;
    further = asks_further_renamed r;
  }
