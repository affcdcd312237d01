-- Who is established proved itself.
use Rattle.std.proofs.Common.{◌≡◌, ◌⊎◌, inl, inr, ℕ, Bool, true, false, List, Option, Some, None, ap, sym, ◌∙◌}
use Rattle.base.specs.Octets.{Octets}
use Rattle.wire.specs.declared.message.Message.{Message}
use Rattle.wire.specs.declared.payload.Payload.{Payload}
use Rattle.suite.specs.declared.key_record.KeyRecord.{KeyRecord}
use Rattle.exchange.specs.Counting.{only_auth, only_id_i, only_id_r}
use Rattle.exchange.specs.declared.sealed.Plain.{Plain}
use Rattle.sadb.specs.Database.{Database}
use Rattle.association.specs.Receiving.{Answers, IsAnswering, IsEffective, IsReceived, Opening, TakesEffect}
use Rattle.association.specs.declared.phase.Association.{Association}
use Rattle.association.specs.declared.phase.AuthSent.{AuthSent}
use Rattle.association.specs.declared.phase.HalfOpen.{HalfOpen}
use Rattle.association.specs.declared.phase.InitSent.{InitSent}
use Rattle.association.specs.declared.phase.Phase.{Phase}
use Rattle.association.specs.declared.phase.Phase.TheVariants as phase
use Rattle.auth.specs.Answers.{is_accepted}
use Rattle.auth.specs.Proofs.{Accepts, ProvesItself, ProvingView}
use Rattle.auth.specs.Requests.{Accepted, AskedView, IsAuthJudgement}
use Rattle.auth.specs.declared.identity.Identity.{Identity}
use Rattle.initial.specs.Answering.{outcome_of, AnswersAuth, Prover}
use Rattle.initial.specs.Concluding.{ConcludesBy}
use Rattle.association.specs.Issuing.{with_incoming, with_outgoing}
use Rattle.setup.specs.Configs.{Setup}
use Rattle.initial.specs.Deciding.{IsDecision}
use Rattle.exchange.specs.Chains.{IsRead}
use Rattle.initial.specs.Ending.{EndsAuth, IsVerdict}
use Rattle.informational.specs.Orders.{ClosesIf}
use Rattle.effects.specs.Proving.{ProvesByMessage, ProvesByRequest, ProvesByResponse}
use Rattle.effects.specs.Taking.{prover_of, Meaning, TakesMessage}
use Rattle.association.specs.declared.outcome.Answered.{Answered}
use Rattle.initial.specs.declared.concluding.Outcome.{Outcome}
use Rattle.initial.specs.declared.concluding.Outcome.TheVariants as outcome
use Rattle.initial.specs.declared.deciding.Decision.{Decision}
use Rattle.initial.specs.declared.deciding.Decision.TheVariants as decision
use Rattle.association.specs.declared.outcome.Ended.{Ended}
use Rattle.effects.specs.declared.taking.Effect.{Effect}
use Rattle.effects.specs.declared.taking.Effect.TheVariants as effect
use Rattle.effects.proofs.WayLemmas.{answered_later, counted_later, way_of, Way}
use Rattle.association.specs.Outcomes.{closed_by}
use Rattle.association.specs.declared.outcome.Fate.{Fate}

-- what is known of who is accepted
pub record Acceptance : Type 0 where
  pub request : (accepts : Accepts) (peer : Identity) (what : ProvingView) (payloads : List Payload) (asked : AskedView)
      → IsAuthJudgement accepts peer what payloads (Accepted asked) → ProvesItself accepts peer what (only_id_i payloads) (only_auth payloads)
  pub answer : (accepts : Accepts) (peer : Identity) (what : ProvingView) (payloads : List Payload)
      → is_accepted accepts peer what payloads ≡ true → ProvesItself accepts peer what (only_id_r payloads) (only_auth payloads)

closed_is_not : (was : Option KeyRecord) (at : ℕ) (keys : KeyRecord) → phase.Closed was at ≡ phase.Established keys → ⊥
closed_is_not was at keys is = cc

abbrev pub phase_of : Association → Phase
phase_of a = a.phase

decided_proves : (facts : Acceptance) (accepts : Accepts) (setup : Setup) (a : Association) (opened : HalfOpen) (was : a.phase ≡ phase.HalfOpen opened) (ike : ℕ) (table between : Database) (plain : Plain) (payloads : Option (List Payload)) (d : Decision) (came : Fate) (b new : Association) (new_table : Database) (keys : KeyRecord)
    → IsRead plain payloads → IsDecision accepts setup ike opened table payloads d → ConcludesBy setup b between (outcome_of d) came new new_table
    → new.phase ≡ phase.Established keys → ProvesByRequest accepts setup a.phase plain
decided_proves facts accepts setup a opened was ike table between plain payloads (decision.Refused notice) came b new new_table keys read is concluded established =
    absurd (closed_is_not _ setup.moment keys (sym (ap phase_of concluded.over.content) ∙ established))
decided_proves facts accepts setup a opened was ike table between plain None (decision.Accepted answer window) came b new new_table keys read is concluded established = absurd is
decided_proves facts accepts setup a opened was ike table between plain (Some payloads) (decision.Accepted answer window) came b new new_table keys read is concluded established =
    record { opened = opened; was = was; payloads = payloads; read = read; proved = facts.request accepts setup.config.peer.identity _ payloads is.asked is.judged }

pub request_proves : (facts : Acceptance) (prover : Prover) (setup : Setup) (old : Association) (table : Database) (number : ℕ) (plain : Plain) (answer : Answered) (new : Association) (new_table : Database) (keys : KeyRecord)
    → AnswersAuth prover setup old table number plain answer new new_table → new.phase ≡ phase.Established keys → ProvesByRequest prover.accepts setup old.phase plain
request_proves facts prover setup old table number plain answer new new_table keys is established =
    decided_proves facts prover.accepts setup old is.opened is.was old.serial table is.between plain is.decided.payloads is.decision answer.fate (record old { incoming = is.incoming }) new new_table keys
    is.decided.read is.decided.due is.concluded established

verdict_proves : (facts : Acceptance) (accepts : Accepts) (setup : Setup) (a : Association) (sent : AuthSent) (was : a.phase ≡ phase.AuthSent sent) (ike : ℕ) (table : Database) (plain : Plain) (payloads : Option (List Payload)) (o : Outcome) (came : Fate) (b new : Association) (new_table : Database) (keys : KeyRecord)
    → IsRead plain payloads → IsVerdict accepts setup ike sent payloads o → ConcludesBy setup b table o came new new_table
    → new.phase ≡ phase.Established keys → ProvesByResponse accepts setup a.phase plain
verdict_proves facts accepts setup a sent was ike table plain payloads outcome.Closes came b new new_table keys read is concluded established =
    absurd (closed_is_not _ setup.moment keys (sym (ap phase_of concluded.over.content) ∙ established))
verdict_proves facts accepts setup a sent was ike table plain None (outcome.Establishes pair window) came b new new_table keys read is concluded established = absurd is
verdict_proves facts accepts setup a sent was ike table plain (Some payloads) (outcome.Establishes pair window) came b new new_table keys read is concluded established =
    record { sent = sent; was = was; payloads = payloads; read = read; proved = facts.answer accepts setup.config.peer.identity _ payloads is.proved }

pub response_proves : (facts : Acceptance) (accepts : Accepts) (setup : Setup) (old : Association) (table : Database) (number : ℕ) (plain : Plain) (ended : Ended) (new : Association) (new_table : Database) (keys : KeyRecord)
    → EndsAuth accepts setup old table number plain ended new new_table → new.phase ≡ phase.Established keys → ProvesByResponse accepts setup old.phase plain
response_proves facts accepts setup old table number plain ended new new_table keys is established =
    verdict_proves facts accepts setup old is.sent is.was old.serial table plain is.judged.payloads is.verdict ended.fate (record old { outgoing = is.outgoing }) new new_table keys
    is.judged.read is.judged.due is.concluded established

-- ---- by a message

-- what is known of a message that is processed or answers: it opened
pub record OpenedFacts : Type 0 where
  pub acceptance : Acceptance
  pub effective : (plain_of : Opening) (a : Association) (octets : Octets) (m : Message) (plain : Plain) → IsReceived plain_of a octets m (TakesEffect plain) → IsEffective plain_of a octets m plain
  pub answering : (plain_of : Opening) (a : Association) (octets : Octets) (m : Message) (plain : Plain) → IsReceived plain_of a octets m (Answers plain) → IsAnswering plain_of a octets m plain

waiting_is_not : (sent : InitSent) (keys : KeyRecord) → phase.InitSent sent ≡ phase.Established keys → ⊥
waiting_is_not sent keys is = cc

asking_is_not : (sent : AuthSent) (keys : KeyRecord) → phase.AuthSent sent ≡ phase.Established keys → ⊥
asking_is_not sent keys is = cc

-- whom a later exchange leaves established was so before
closed_if_before : (ending : Bool) (serials : List ℕ) (a : Association) (table : Database) (moment : ℕ) (new : Association) (new_table : Database) (keys : KeyRecord)
    → ClosesIf ending serials a table moment new new_table → new.phase ≡ phase.Established keys → a.phase ≡ phase.Established keys
closed_if_before true serials a table moment new new_table keys is established = absurd (closed_is_not _ moment keys (sym (ap phase_of is.content) ∙ established))
closed_if_before false serials a table moment new new_table keys is established = sym (ap phase_of is.0) ∙ established

way_proves : (facts : OpenedFacts) (meaning : Meaning) (setup : Setup) (old : Association) (table : Database) (octets : Octets) (m : Message) (e : Effect) (new : Association) (new_table : Database) (keys : KeyRecord)
    → Way meaning setup old table octets m e new new_table → new.phase ≡ phase.Established keys → (old.phase ≡ phase.Established keys) ⊎ ProvesByMessage meaning setup old octets m
way_proves facts meaning setup old table octets m (effect.Refused fault) new new_table keys is established = inl (sym (ap phase_of is.association) ∙ established)
way_proves facts meaning setup old table octets m (effect.Repeated reply) new new_table keys is established = inl (sym (ap phase_of is.same.association) ∙ established)
way_proves facts meaning setup old table octets m (effect.Replied answered) new new_table keys (inl is) established =
    inr (record {
      plain = is.plain;
      opened = (facts.effective meaning.plain_of old octets m is.plain is.received).opened;
      proved = inl (request_proves facts.acceptance (prover_of meaning) setup old table m.header.id is.plain answered new new_table keys is.done established);
    })
way_proves facts meaning setup old table octets m (effect.Replied answered) new new_table keys (inr is) established =
    let d = answered_later meaning setup old table octets m answered new new_table is in
    inl (closed_if_before (closed_by answered.fate) d.ends.serials (with_incoming old d.incoming) d.ends.before setup.moment new d.ends.after keys d.ends.is established)
way_proves facts meaning setup old table octets m (effect.Again next) new new_table keys is established =
    absurd (waiting_is_not _ keys (sym (ap phase_of is.done.content) ∙ established))
way_proves facts meaning setup old table octets m (effect.AsksAuth next) new new_table keys is established =
    absurd (asking_is_not _ keys (sym (ap phase_of is.done.content) ∙ established))
way_proves facts meaning setup old table octets m (effect.Counted ended) new new_table keys (inl is) established =
    inr (record {
      plain = is.plain;
      opened = (facts.answering meaning.plain_of old octets m is.plain is.received).opened;
      proved = inr (response_proves facts.acceptance meaning.accepts setup old table m.header.id is.plain ended new new_table keys is.done established);
    })
way_proves facts meaning setup old table octets m (effect.Counted ended) new new_table keys (inr is) established =
    let d = counted_later meaning setup old table octets m ended new new_table is in
    inl (closed_if_before (closed_by ended.fate) d.ends.serials (with_outgoing old d.outgoing) d.ends.before setup.moment new d.ends.after keys d.ends.is established)

pub message_proves : OpenedFacts → (meaning : Meaning) (setup : Setup) (old : Association) (table : Database) (octets : Octets) (m : Message) (e : Effect) (new : Association) (new_table : Database) (keys : KeyRecord)
    → TakesMessage meaning setup old table octets m e new new_table → new.phase ≡ phase.Established keys → (old.phase ≡ phase.Established keys) ⊎ ProvesByMessage meaning setup old octets m
message_proves facts meaning setup old table octets m e new new_table keys is established =
    way_proves facts meaning setup old table octets m e new new_table keys (way_of meaning setup old table octets m e new new_table is) established
