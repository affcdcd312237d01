-- IKE_AUTH and the response to IKE_SA_INIT under other serials.
use Rattle.std.proofs.Common.{◌≡◌, ℕ, Option, Some, None, List, refl, sym, ap, subst}
use Rattle.base.specs.Octets.{Octets}
use Rattle.wire.specs.declared.message.Message.{Message}
use Rattle.wire.specs.declared.payload.Payload.{Payload}
use Rattle.wire.specs.Numbers.{IKE_AUTH}
use Rattle.exchange.specs.Headers.{keys_of}
use Rattle.exchange.specs.Sealed.{IsSealed}
use Rattle.exchange.specs.declared.sealed.Plain.{Plain}
use Rattle.sadb.specs.Database.{Database}
use Rattle.sadb.specs.declared.pair.Pair.{Pair}
use Rattle.association.specs.Closing.{Closes}
use Rattle.association.specs.Issuing.{with_incoming}
use Rattle.association.specs.Outcomes.{made_by}
use Rattle.association.specs.Phases.{established_spi}
use Rattle.association.specs.Sending.{reply_message}
use Rattle.association.specs.declared.outcome.Answered.{Answered}
use Rattle.association.specs.declared.outcome.Ended.{Ended}
use Rattle.association.specs.declared.outcome.Fate.{Fate}
use Rattle.association.specs.declared.phase.Association.{Association}
use Rattle.association.specs.declared.phase.AuthSent.{AuthSent}
use Rattle.association.specs.declared.phase.HalfOpen.{HalfOpen}
use Rattle.association.specs.declared.phase.InitSent.{InitSent}
use Rattle.auth.specs.Proofs.{Accepts}
use Rattle.children.specs.declared.responding.Response.{Response}
use Rattle.children.specs.declared.responding.Response.TheVariants as response
use Rattle.initial.specs.Answering.{child_answer, outcome_of, pair_of, reply_payloads, AnswersAuth, Prover}
use Rattle.initial.specs.Concluding.{AddsChild, ConcludesBy}
use Rattle.initial.specs.Deciding.{IsDecision}
use Rattle.initial.specs.Ending.{EndsAuth, IsFirstChild, IsVerdict}
use Rattle.initial.specs.Reading.{Asker, Continues, ReadsResponse}
use Rattle.initial.specs.declared.concluding.Outcome.{Outcome}
use Rattle.initial.specs.declared.concluding.Outcome.TheVariants as outcome
use Rattle.initial.specs.declared.deciding.Decision.{Decision}
use Rattle.initial.specs.declared.deciding.Decision.TheVariants as decision
use Rattle.initial.specs.declared.reading.Continued.{Continued}
use Rattle.initial.specs.declared.reading.Continued.TheVariants as continued
use Rattle.sa_init.specs.declared.response.Response as answers
use Rattle.sa_init.specs.declared.response.Response.TheVariants as answered
use Rattle.setup.specs.Configs.{first_setting, Setup}
use Rattle.gateway.proofs.ChildRenaming as child
use Rattle.gateway.proofs.ChildRenaming.{renamed_response, TableSteps}
use Rattle.gateway.proofs.RenamedLaws.{PairLaws}
use Rattle.gateway.specs.Renaming.{renamed_association, renamed_pair, renamed_table}

abbrev renamed_decision : (ℕ → ℕ) → Decision → Decision
renamed_decision r (decision.Refused notice) = decision.Refused notice
renamed_decision r (decision.Accepted answer window) = decision.Accepted (renamed_response r answer) window

abbrev renamed_maybe : (ℕ → ℕ) → Option Pair → Option Pair
renamed_maybe r None = None
renamed_maybe r (Some pair) = Some (renamed_pair r pair)

abbrev renamed_outcome : (ℕ → ℕ) → Outcome → Outcome
renamed_outcome r outcome.Closes = outcome.Closes
renamed_outcome r (outcome.Establishes pair window) = outcome.Establishes (renamed_maybe r pair) window

-- ---- what is concluded

same_pair : (r : ℕ → ℕ) (answer : Response) → pair_of (renamed_response r answer) ≡ renamed_maybe r (pair_of answer)
same_pair r (response.Made made) = refl
same_pair r (response.Refused notice) = refl

same_answer : (r : ℕ → ℕ) (answer : Response) → child_answer (renamed_response r answer) ≡ child_answer answer
same_answer r (response.Made made) = refl
same_answer r (response.Refused notice) = refl

same_outcome : (r : ℕ → ℕ) (decided : Decision) → outcome_of (renamed_decision r decided) ≡ renamed_outcome r (outcome_of decided)
same_outcome r (decision.Refused notice) = refl
same_outcome r (decision.Accepted answer window) = ap (λ pair. outcome.Establishes pair window) (same_pair r answer)

module _ (r : ℕ → ℕ) (laws : PairLaws r) (tables : TableSteps r) where
  added : (old new : Database) (spi : Option ℕ) (pair : Option Pair) (serial : Option ℕ)
      → AddsChild old spi pair serial new → AddsChild (renamed_table r old) spi (renamed_maybe r pair) serial (renamed_table r new)
  added old new None None None is = ap (renamed_table r) is
  added old new None None (Some serial) is = absurd is
  added old new None (Some pair) None is = absurd is
  added old new None (Some pair) (Some serial) is = tables.adds old new pair serial is
  added old new (Some spi) None None is = tables.releases old new spi is
  added old new (Some spi) None (Some serial) is = absurd is
  added old new (Some spi) (Some pair) None is = absurd is
  added old new (Some spi) (Some pair) (Some serial) is = tables.installs old new spi serial pair is

  concluded : (setup : Setup) (old new : Association) (table new_table : Database) (came : Outcome) (fate : Fate)
      → ConcludesBy setup old table came fate new new_table → ConcludesBy setup (renamed_association r old) (renamed_table r table) (renamed_outcome r came) fate (renamed_association r new) (renamed_table r new_table)
  concluded setup old new table new_table outcome.Closes fate is = record { closed = is.closed; over = tables.closes old new table new_table setup.moment is.over }
  concluded setup old new table new_table (outcome.Establishes pair window) fate is = record {
    stands = is.stands;
    added = added table new_table (established_spi old.phase) pair (made_by fate) is.added;
    content = ap (renamed_association r) is.content;
  }

  -- ---- the request of IKE_AUTH

  decided_on : (accepts : Accepts) (setup : Setup) (ike : ℕ) (opened : HalfOpen) (table : Database) (payloads : Option (List Payload)) (came : Decision)
      → IsDecision accepts setup ike opened table payloads came → IsDecision accepts setup (r ike) opened (renamed_table r table) payloads (renamed_decision r came)
  decided_on accepts setup ike opened table None (decision.Refused notice) is = is
  decided_on accepts setup ike opened table None (decision.Accepted answer window) is = absurd is
  decided_on accepts setup ike opened table (Some payloads) (decision.Refused notice) is = is
  decided_on accepts setup ike opened table (Some payloads) (decision.Accepted answer window) is = record {
    asked = is.asked;
    judged = is.judged;
    child = child.responds r laws (first_setting setup.config ike opened.keys) setup.config.extended setup.entries table is.asked.child answer is.child;
    told = is.told;
  }

  same_reply : (own_method : ℕ) (proof_of : Octets → Octets) (setup : Setup) (opened : HalfOpen) (came : Decision)
      → reply_payloads own_method proof_of setup opened came ≡ reply_payloads own_method proof_of setup opened (renamed_decision r came)
  same_reply own_method proof_of setup opened (decision.Refused notice) = refl
  same_reply own_method proof_of setup opened (decision.Accepted (response.Made made) window) = refl
  same_reply own_method proof_of setup opened (decision.Accepted (response.Refused notice) window) = refl

  pub answers_auth : (prover : Prover) (setup : Setup) (old new : Association) (table new_table : Database) (number : ℕ) (plain : Plain) (answer : Answered)
      → AnswersAuth prover setup old table number plain answer new new_table → AnswersAuth prover setup (renamed_association r old) (renamed_table r table) number plain answer (renamed_association r new) (renamed_table r new_table)
  answers_auth prover setup old new table new_table number plain answer is = record {
    opened = is.opened;
    was = is.was;
    decision = renamed_decision r is.decision;
    decided = record {
      payloads = is.decided.payloads;
      read = is.decided.read;
      due = decided_on prover.accepts setup old.serial is.opened table is.decided.payloads is.decision is.decided.due;
    };
    sealed = subst (λ payloads. IsSealed prover.body_of (keys_of old.role is.opened.keys) setup.fresh.seal (reply_message old IKE_AUTH number payloads) answer.octets)
        (same_reply prover.own_method prover.proof_of setup is.opened is.decision) is.sealed;
    incoming = is.incoming;
    ready = is.ready;
    prepared = is.prepared;
    taken = is.taken;
    between = renamed_table r is.between;
    room = tables.before table is.between is.room;
    concluded = subst (λ came. ConcludesBy setup (renamed_association r (with_incoming old is.incoming)) (renamed_table r is.between) came answer.fate (renamed_association r new) (renamed_table r new_table))
        (sym (same_outcome r is.decision)) (concluded setup (with_incoming old is.incoming) new is.between new_table (outcome_of is.decision) answer.fate is.concluded);
  }

  -- ---- the response to it

  first_child : (setup : Setup) (ike : ℕ) (sent : AuthSent) (payloads : List Payload) (pair : Option Pair)
      → IsFirstChild setup ike sent payloads pair → IsFirstChild setup (r ike) sent payloads (renamed_maybe r pair)
  first_child setup ike sent payloads None is = is
  first_child setup ike sent payloads (Some pair) is = child.accepted r (first_setting setup.config ike sent.keys) _ payloads pair is

  verdict : (accepts : Accepts) (setup : Setup) (ike : ℕ) (sent : AuthSent) (payloads : Option (List Payload)) (came : Outcome)
      → IsVerdict accepts setup ike sent payloads came → IsVerdict accepts setup (r ike) sent payloads (renamed_outcome r came)
  verdict accepts setup ike sent None outcome.Closes is = is
  verdict accepts setup ike sent None (outcome.Establishes pair window) is = absurd is
  verdict accepts setup ike sent (Some payloads) outcome.Closes is = is
  verdict accepts setup ike sent (Some payloads) (outcome.Establishes pair window) is = record {
    proved = is.proved;
    child = first_child setup ike sent payloads pair is.child;
    told = is.told;
  }

  pub ends_auth : (accepts : Accepts) (setup : Setup) (old new : Association) (table new_table : Database) (number : ℕ) (plain : Plain) (ended : Ended)
      → EndsAuth accepts setup old table number plain ended new new_table → EndsAuth accepts setup (renamed_association r old) (renamed_table r table) number plain ended (renamed_association r new) (renamed_table r new_table)
  ends_auth accepts setup old new table new_table number plain ended is = record {
    sent = is.sent;
    was = is.was;
    verdict = renamed_outcome r is.verdict;
    judged = record { payloads = is.judged.payloads; read = is.judged.read; due = verdict accepts setup old.serial is.sent is.judged.payloads is.verdict is.judged.due };
    request = is.request;
    outgoing = is.outgoing;
    counted = is.counted;
    declined = is.declined;
    concluded = concluded setup (record old { outgoing = is.outgoing }) new table new_table is.verdict ended.fate is.concluded;
  }

-- ---- the response to IKE_SA_INIT

continues : (r : ℕ → ℕ) (asker : Asker) (setup : Setup) (old new : Association) (sent : InitSent) (number : ℕ) (m : Message) (octets : Octets) (means : answers.Response) (came : Continued)
    → Continues asker setup old sent number m octets means came new → Continues asker setup (renamed_association r old) sent number m octets means came (renamed_association r new)
continues r asker setup old new sent number m octets (answered.Cookie cookie) (continued.Again again) is = record {
  spelled = is.spelled;
  was = is.was;
  replaced = is.replaced;
  content = ap (renamed_association r) is.content;
}
continues r asker setup old new sent number m octets (answered.Cookie cookie) (continued.AsksAuth next) is = absurd is
continues r asker setup old new sent number m octets (answered.Cookie cookie) continued.Unfit is = absurd is
continues r asker setup old new sent number m octets (answered.Keys keys) (continued.AsksAuth next) is = record {
  request = is.request;
  outstanding = is.outstanding;
  sealed = is.sealed;
  issued = is.issued;
  content = ap (renamed_association r) is.content;
}
continues r asker setup old new sent number m octets (answered.Keys keys) (continued.Again again) is = absurd is
continues r asker setup old new sent number m octets (answered.Keys keys) continued.Unfit is = absurd is
continues r asker setup old new sent number m octets answered.Unfit continued.Unfit is = ap (renamed_association r) is
continues r asker setup old new sent number m octets answered.Unfit (continued.Again again) is = absurd is
continues r asker setup old new sent number m octets answered.Unfit (continued.AsksAuth next) is = absurd is

pub reads_response : (r : ℕ → ℕ) (asker : Asker) (setup : Setup) (old new : Association) (number : ℕ) (octets : Octets) (m : Message) (came : Continued)
    → ReadsResponse asker setup old number octets m came new → ReadsResponse asker setup (renamed_association r old) number octets m came (renamed_association r new)
reads_response r asker setup old new number octets m came is = record {
  sent = is.sent;
  was = is.was;
  response = is.response;
  means = is.means;
  continues = continues r asker setup old new is.sent number m octets is.response came is.continues;
}
