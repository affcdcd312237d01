-- What an answer takes of an offer.
use Rattle.std.proofs.Common.{◌≡◌, inl, inr, ◌∷◌, [], ℕ, zero, suc, Bool, true, false, List, Option, Some, None, All, Contains, slice_index_or, ap, refl, subst, sym, ◌∙◌, arith}
use Rattle.std.proofs.lemmas.Bool.{eqb-true}
use Rattle.base.specs.Octets.{Octets}
use Rattle.wire.specs.Numbers.{CREATE_CHILD_SA, IKE_AUTH, INFORMATIONAL}
use Rattle.wire.specs.declared.message.Message.{Message}
use Rattle.wire.specs.declared.payload.Payload.{Payload}
use Rattle.wire.specs.declared.payload.Payload.TheVariants.{Sa}
use Rattle.wire.specs.declared.proposal.Proposal.{Proposal}
use Rattle.wire.specs.declared.proposal.Transform.{Transform}
use Rattle.suite.specs.Choice.{kinds, IsAcceptableProposal, IsChosenProposal}
use Rattle.suite.specs.declared.choice.Chosen.{Chosen}
use Rattle.suite.specs.declared.choice.Wanted.{Wanted}
use Rattle.suite.specs.declared.choice.Wanted.TheVariants.{Ike, Esp}
use Rattle.suite.specs.declared.fresh.Fresh.{Fresh}
use Rattle.suite.specs.declared.key_record.KeyRecord.{KeyRecord}
use Rattle.suite.specs.declared.keys.Keys.{Keys}
use Rattle.suite.specs.declared.sealer.Cipher.{Cipher}
use Rattle.suite.specs.Offers.{answer_of, answered_transforms, count_of_kind, IsTakenFrom}
use Rattle.exchange.specs.declared.sealed.Plain.{Plain}
use Rattle.sadb.specs.Database.{Database}
use Rattle.sa_init.specs.Cookies.{CookieSecrets}
use Rattle.sa_init.specs.Judging.{Accepted, IsJudgement, OfferView}
use Rattle.sa_init.specs.Messages.{answer_message, ike_wanted}
use Rattle.sa_init.specs.declared.judging.Sender.{Sender}
use Rattle.association.specs.Phases.{keys_in}
use Rattle.association.specs.Receiving.{IsEffective, IsReceived, Opening, TakesEffect}
use Rattle.association.specs.declared.phase.Association.{Association}
use Rattle.association.specs.declared.phase.HalfOpen.{HalfOpen}
use Rattle.auth.specs.Proofs.{Accepts}
use Rattle.children.specs.Responding.{answered_proposals}
use Rattle.children.specs.declared.responding.Made.{Made}
use Rattle.children.specs.declared.responding.Response.TheVariants as response
use Rattle.initial.specs.Answering.{reply_payloads, AnswersAuth, Prover}
use Rattle.association.specs.Admitting.{Admits}
use Rattle.setup.specs.Configs.{Setup}
use Rattle.initial.specs.Deciding.{own_proving, IsDecision}
use Rattle.exchange.specs.Chains.{IsRead}
use Rattle.further.specs.Answering.{answer_to_further, further_answer}
use Rattle.further.specs.Deciding.{DecidesFurtherBy, IsFurtherDecision}
use Rattle.further.specs.Judging.{Admitted, FurtherJudgement, IsFurtherJudgement, Refused}
use Rattle.further.specs.declared.deciding.Decision as further
use Rattle.further.specs.declared.deciding.Decision.TheVariants as decided
use Rattle.exchange.specs.declared.notices.Notice.TheVariants.{InvalidSyntax, UnsupportedCriticalPayload}
use Rattle.deletions.specs.Answering.{deletion_if_any, payloads_of_verdict}
use Rattle.deletions.specs.Deciding.{verdict_on}
use Rattle.deletions.specs.declared.deciding.Verdict.{Verdict}
use Rattle.deletions.specs.declared.deciding.Verdict.TheVariants as verdict
use Rattle.create_child.specs.Answering.{AnswersFurther}
use Rattle.effects.specs.Offers.{AnswersInitialSa, AnswersMessageSa, AnswersOneOf, AnswersPlain, AnswersSealedSa}
use Rattle.effects.specs.Taking.{prover_of, Meaning, TakesMessage}
use Rattle.effects.specs.declared.taking.Effect.TheVariants as effect
use Rattle.association.specs.declared.outcome.Answered.{Answered}
use Rattle.association.specs.declared.admitting.Admitted as admitting
use Rattle.initial.specs.declared.deciding.Decision.{Decision}
use Rattle.initial.specs.declared.deciding.Decision.TheVariants as decision
use Rattle.effects.proofs.ExchangeLemmas.{auth_exchange, further_exchange}
use Rattle.effects.proofs.PayloadLemmas.{answer_sa, answer_without, further_sa, notice_without}
use Rattle.effects.proofs.WayLemmas.{way_of, Way}

-- what is known of an answer
pub record OfferFacts : Type 0 where
  pub taken : (wanted : Wanted) (proposals : List Proposal) (chosen : Chosen) (spi : List ℕ) → IsChosenProposal wanted proposals chosen → IsTakenFrom proposals chosen.place (answer_of wanted chosen spi)

-- ---- one transform of each type

abbrev pub OneOf : Wanted → Bool → ℕ → Type 0
OneOf wanted extended kind = count_of_kind (answered_transforms wanted extended) kind ≡ 1

counted_at : (wanted : Wanted) (extended : Bool) (here kind : ℕ) → here ≡ kind → OneOf wanted extended here → OneOf wanted extended kind
counted_at wanted extended here kind same one = subst (λ n. OneOf wanted extended n) same one

counted_once : (wanted : Wanted) (extended : Bool) (kind : ℕ) → Contains (kinds wanted) kind → OneOf wanted extended kind
counted_once (Ike encr key_length group) extended kind (zero, below, at) = counted_at (Ike encr key_length group) extended 1 kind at refl
counted_once (Ike encr key_length group) extended kind (suc zero, below, at) = counted_at (Ike encr key_length group) extended 2 kind at refl
counted_once (Ike encr key_length group) extended kind (suc (suc zero), below, at) = counted_at (Ike encr key_length group) extended 3 kind at refl
counted_once (Ike encr key_length group) extended kind (suc (suc (suc zero)), below, at) = counted_at (Ike encr key_length group) extended 4 kind at refl
counted_once (Ike encr key_length group) extended kind (suc (suc (suc (suc j))), below, at) = absurd (omega (arith, below))
counted_once (Esp allowed) true kind (zero, below, at) = counted_at (Esp allowed) true 1 kind at refl
counted_once (Esp allowed) true kind (suc zero, below, at) = counted_at (Esp allowed) true 3 kind at refl
counted_once (Esp allowed) true kind (suc (suc zero), below, at) = counted_at (Esp allowed) true 5 kind at refl
counted_once (Esp allowed) true kind (suc (suc (suc j)), below, at) = absurd (omega (arith, below))
counted_once (Esp allowed) false kind (zero, below, at) = counted_at (Esp allowed) false 1 kind at refl
counted_once (Esp allowed) false kind (suc zero, below, at) = counted_at (Esp allowed) false 3 kind at refl
counted_once (Esp allowed) false kind (suc (suc zero), below, at) = counted_at (Esp allowed) false 5 kind at refl
counted_once (Esp allowed) false kind (suc (suc (suc j)), below, at) = absurd (omega (arith, below))

one_each : (wanted : Wanted) (extended : Bool) (p : Proposal) → IsAcceptableProposal wanted p → All (λ (t : Transform). OneOf wanted extended t.kind) p.transforms
one_each wanted extended p acceptable = λ k d below. counted_once wanted extended (slice_index_or p.transforms k d).kind (acceptable.no_other k d below)

same_proposal : (p q : Proposal) → Some p ≡ Some q → p ≡ q
same_proposal p q e = cc

answers_one : (facts : OfferFacts) (wanted : Wanted) (proposals : List Proposal) (chosen : Chosen) (spi : List ℕ) → IsChosenProposal wanted proposals chosen → AnswersOneOf proposals (answer_of wanted chosen spi ∷ [])
answers_one facts wanted proposals chosen spi found =
    let taken : IsTakenFrom proposals chosen.place (answer_of wanted chosen spi) = facts.taken wanted proposals chosen spi found in
    let acceptable : IsAcceptableProposal wanted taken.proposal = subst (λ (p : Proposal). IsAcceptableProposal wanted p) (same_proposal found.proposal taken.proposal (sym found.here ∙ taken.there)) found.acceptable in
    record {
      answer = answer_of wanted chosen spi;
      lone = refl;
      place = chosen.place;
      proposal = taken.proposal;
      there = taken.there;
      number = taken.number;
      protocol = taken.protocol;
      taken = taken.transforms;
      one_each = one_each wanted chosen.extended taken.proposal acceptable;
    }

-- ---- IKE_SA_INIT

pub initial_answers : OfferFacts → (cipher : Cipher) (group : ℕ) (public_value : Octets → Octets) (shared_secret : Octets → Octets → Option Octets) (secrets : CookieSecrets) (sender : Sender) (half_open held : ℕ) (payloads : List Payload)
    (fresh : Fresh) (moment serial : ℕ) (offer : OfferView) (spi_i : ℕ) (request : Octets) (admitted : admitting.Admitted)
    → IsJudgement cipher group secrets sender half_open held payloads (Accepted offer) → Admits cipher group public_value shared_secret fresh moment serial offer spi_i request admitted
    → AnswersInitialSa payloads admitted.octets
initial_answers facts cipher group public_value shared_secret secrets sender half_open held payloads fresh moment serial offer spi_i request admitted judged is =
    let answer : AnswersInitialSa payloads is.agreed.octets = record {
      reply = answer_message cipher group (public_value fresh.secret) offer.chosen fresh.nonce spi_i fresh.spi;
      spelled = is.answer.spelled;
      answered = answer_of (ike_wanted cipher group) offer.chosen [] ∷ [];
      sa = refl;
      answers = record {
        offered = judged.parts.proposals;
        sa = judged.considered.heard.whole.complete.sa;
        one = answers_one facts (ike_wanted cipher group) judged.parts.proposals offer.chosen [] judged.suited.choice;
      };
    } in
    subst (λ (o : Octets). AnswersInitialSa payloads o) (sym is.octets) answer

-- ---- IKE_AUTH

decision_answers : (facts : OfferFacts) (own_method : ℕ) (proof_of : Octets → Octets) (accepts : Accepts) (setup : Setup) (ike : ℕ) (opened : HalfOpen) (table : Database) (plain : Plain) (payloads : Option (List Payload)) (d : Decision) (answered : List Proposal)
    → IsRead plain payloads → IsDecision accepts setup ike opened table payloads d → Contains (reply_payloads own_method proof_of setup opened d) (Sa answered) → AnswersPlain plain answered
decision_answers facts own_method proof_of accepts setup ike opened table plain payloads (decision.Refused notice) answered read due sa = absurd (notice_without notice answered sa)
decision_answers facts own_method proof_of accepts setup ike opened table plain payloads (decision.Accepted (response.Refused notice) window) answered read due sa =
    absurd (answer_without own_method proof_of setup.config.own.identity (own_proving opened) notice setup.config.window answered sa)
decision_answers facts own_method proof_of accepts setup ike opened table plain None (decision.Accepted (response.Made made) window) answered read due sa = absurd due
decision_answers facts own_method proof_of accepts setup ike opened table plain (Some payloads) (decision.Accepted (response.Made made) window) answered read due sa =
    let child = due.child in
    let is : answered_proposals (Esp setup.config.extended) child.chosen child.terms.spi_r ≡ answered =
    sym (ap (λ (x : Made). x.payloads.proposals) child.whole) ∙ answer_sa own_method proof_of setup.config.own.identity (own_proving opened) made.payloads setup.config.window answered sa in
    record {
      request = payloads;
      read = read;
      answers = record {
        offered = due.asked.child.proposals;
        sa = due.judged.sa;
        one = subst (λ (ps : List Proposal). AnswersOneOf due.asked.child.proposals ps) is
            (answers_one facts (Esp setup.config.extended) due.asked.child.proposals child.chosen _ child.due.choice);
      };
    }

pub auth_answers : OfferFacts → (prover : Prover) (setup : Setup) (old : Association) (table : Database) (number : ℕ) (plain : Plain) (answered : Answered) (new : Association) (new_table : Database)
    → AnswersAuth prover setup old table number plain answered new new_table → AnswersSealedSa IKE_AUTH prover.body_of setup old number plain answered.octets
auth_answers facts prover setup old table number plain answered new new_table is =
    record {
      keys = is.opened.keys;
      are = ap keys_in is.was;
      reply = reply_payloads prover.own_method prover.proof_of setup is.opened is.decision;
      sealed = is.sealed;
      answers = λ proposals sa. decision_answers facts prover.own_method prover.proof_of prover.accepts setup old.serial is.opened table plain is.decided.payloads is.decision proposals is.decided.read is.decided.due sa;
    }

-- ---- CREATE_CHILD_SA

further_by : (facts : OfferFacts) (setup : Setup) (ike : ℕ) (keys : KeyRecord) (table : Database) (deleting : Bool) (plain : Plain) (payloads : List Payload) (j : FurtherJudgement) (made : Made) (answered : List Proposal)
    → IsRead plain (Some payloads) → IsFurtherJudgement payloads deleting j → DecidesFurtherBy setup ike keys table j (decided.Made made) → Contains (further_answer (answer_to_further (decided.Made made)) setup.fresh.nonce) (Sa answered) → AnswersPlain plain answered
further_by facts setup ike keys table deleting plain payloads (Refused notice) made answered read judged due sa = absurd due
further_by facts setup ike keys table deleting plain payloads (Admitted asked) made answered read judged child sa =
    let is : answered_proposals (Esp setup.config.extended) child.chosen child.terms.spi_r ≡ answered =
    sym (ap (λ (x : Made). x.payloads.proposals) child.whole) ∙ further_sa made.payloads setup.fresh.nonce answered sa in
    record {
      request = payloads;
      read = read;
      answers = record {
        offered = asked.child.proposals;
        sa = judged.sa;
        one = subst (λ (ps : List Proposal). AnswersOneOf asked.child.proposals ps) is
            (answers_one facts (Esp setup.config.extended) asked.child.proposals child.chosen _ child.due.choice);
      };
    }

further_decides : (facts : OfferFacts) (setup : Setup) (ike : ℕ) (keys : KeyRecord) (table : Database) (deleting : Bool) (plain : Plain) (payloads : Option (List Payload)) (d : further.Decision) (answered : List Proposal)
    → IsRead plain payloads → IsFurtherDecision setup ike keys table deleting payloads d → Contains (further_answer (answer_to_further d) setup.fresh.nonce) (Sa answered) → AnswersPlain plain answered
further_decides facts setup ike keys table deleting plain payloads (decided.Refused notice) answered read due sa = absurd (notice_without notice answered sa)
further_decides facts setup ike keys table deleting plain None (decided.Made made) answered read due sa = absurd due
further_decides facts setup ike keys table deleting plain (Some payloads) (decided.Made made) answered read due sa = further_by facts setup ike keys table deleting plain payloads due.judgement made answered read due.judged due.due sa

pub further_answers : OfferFacts → (body_of : Keys → Octets → Octets → Octets → Octets) (setup : Setup) (old : Association) (table : Database) (number : ℕ) (plain : Plain) (answered : Answered) (new : Association) (new_table : Database)
    → AnswersFurther body_of setup old table number plain answered new new_table → AnswersSealedSa CREATE_CHILD_SA body_of setup old number plain answered.octets
further_answers facts body_of setup old table number plain answered new new_table is =
    record {
      keys = is.keys;
      are = ap keys_in is.established;
      reply = further_answer (answer_to_further is.decision) setup.fresh.nonce;
      sealed = is.sealed;
      answers = λ proposals sa. further_decides facts setup old.serial is.keys table is.deleting plain is.decided.payloads is.decision proposals is.decided.read is.decided.due sa;
    }

-- ---- a message

-- an answer to INFORMATIONAL is a Notify payload, deletions, or nothing
deletions_without : (spis : List ℕ) (proposals : List Proposal) → Contains (deletion_if_any spis) (Sa proposals) → ⊥
deletions_without [] proposals (k, below, at) = absurd (omega (arith, below))
deletions_without (spi ∷ others) proposals (zero, below, at) = absurd cc
deletions_without (spi ∷ others) proposals (suc k, below, at) = absurd (omega (arith, below))

verdict_without : (v : Verdict) (proposals : List Proposal) → Contains (payloads_of_verdict v) (Sa proposals) → ⊥
verdict_without verdict.BadSyntax proposals has = notice_without InvalidSyntax proposals has
verdict_without (verdict.Unsupported kind) proposals has = notice_without (UnsupportedCriticalPayload kind) proposals has
verdict_without verdict.Closes proposals (k, below, at) = absurd (omega (arith, below))
verdict_without (verdict.Deletes deleted) proposals has = deletions_without deleted.inbound_spis proposals has

way_answers : (facts : OfferFacts) (effective : (plain_of : Opening) (a : Association) (octets : Octets) (m : Message) (plain : Plain) → IsReceived plain_of a octets m (TakesEffect plain) → IsEffective plain_of a octets m plain)
    → (meaning : Meaning) (setup : Setup) (old : Association) (table : Database) (octets : Octets) (m : Message) (answered : Answered) (new : Association) (new_table : Database)
    → Way meaning setup old table octets m (effect.Replied answered) new new_table → AnswersMessageSa meaning setup old octets m answered.octets
way_answers facts effective meaning setup old table octets m answered new new_table (inl is) =
    let taken = effective meaning.plain_of old octets m is.plain is.received in
    record {
      plain = is.plain;
      opened = taken.opened;
      answers = subst (λ (n : ℕ). AnswersSealedSa n meaning.body_of setup old m.header.id is.plain answered.octets) (sym (auth_exchange old.phase is.done.opened m.header.exchange is.done.was taken.admitted))
          (auth_answers facts (prover_of meaning) setup old table m.header.id is.plain answered new new_table is.done);
    }
way_answers facts effective meaning setup old table octets m answered new new_table (inr (inl is)) =
    record {
      plain = is.plain;
      opened = (effective meaning.plain_of old octets m is.plain is.received).opened;
      answers = subst (λ (n : ℕ). AnswersSealedSa n meaning.body_of setup old m.header.id is.plain answered.octets) (sym (eqb-true m.header.exchange INFORMATIONAL is.one)) (record {
        keys = is.done.keys;
        are = ap keys_in is.done.established;
        reply = payloads_of_verdict (verdict_on table.pairs old.serial is.done.payloads);
        sealed = is.done.sealed;
        answers = λ proposals has. absurd (verdict_without (verdict_on table.pairs old.serial is.done.payloads) proposals has);
      });
    }
way_answers facts effective meaning setup old table octets m answered new new_table (inr (inr is)) =
    let taken = effective meaning.plain_of old octets m is.plain is.received in
    record {
      plain = is.plain;
      opened = taken.opened;
      answers = subst (λ (n : ℕ). AnswersSealedSa n meaning.body_of setup old m.header.id is.plain answered.octets) (sym (further_exchange old.phase is.done.keys m.header.exchange is.done.established taken.admitted is.other))
          (further_answers facts meaning.body_of setup old table m.header.id is.plain answered new new_table is.done);
    }

pub message_answers : OfferFacts → ((plain_of : Opening) (a : Association) (octets : Octets) (m : Message) (plain : Plain) → IsReceived plain_of a octets m (TakesEffect plain) → IsEffective plain_of a octets m plain)
    → (meaning : Meaning) (setup : Setup) (old : Association) (table : Database) (octets : Octets) (m : Message) (answered : Answered) (new : Association) (new_table : Database)
    → TakesMessage meaning setup old table octets m (effect.Replied answered) new new_table → AnswersMessageSa meaning setup old octets m answered.octets
message_answers facts effective meaning setup old table octets m answered new new_table is =
    way_answers facts effective meaning setup old table octets m answered new new_table (way_of meaning setup old table octets m (effect.Replied answered) new new_table is)
