-- A responder answers the request of IKE_AUTH of a peer that proves its identity: the IKE SA is established,
-- and what is asked for the Child SA is answered.
use Rattle.std.proofs.Common.{◌≡◌, ℕ, List, Option, Some, ap, subst, sym, ◌∙◌}
use Rattle.wire.specs.Numbers.{IKE_AUTH}
use Rattle.wire.specs.Payloads.{SpellsChain}
use Rattle.wire.specs.declared.payload.Payload.{Payload}
use Rattle.exchange.specs.Headers.{keys_of}
use Rattle.exchange.specs.Sealed.{IsSealed}
use Rattle.exchange.specs.declared.sealed.Plain.{Plain}
use Rattle.requests.specs.Incoming.{PeerRequests}
use Rattle.sadb.specs.Database.{Database, IsAsBefore}
use Rattle.association.specs.Issuing.{with_incoming}
use Rattle.association.specs.Sending.{reply_message}
use Rattle.association.specs.declared.outcome.Answered.{Answered}
use Rattle.association.specs.declared.phase.Association.{Association}
use Rattle.association.specs.declared.phase.HalfOpen.{HalfOpen}
use Rattle.association.specs.declared.phase.Phase.TheVariants as phase
use Rattle.auth.specs.Answers.{auth_answer}
use Rattle.auth.specs.Proofs.{Accepts, ProvingView}
use Rattle.auth.specs.Requests.{Accepted, AskedView, AuthJudgement, IsAuthJudgement, Refused}
use Rattle.auth.specs.declared.identity.Identity.{Identity}
use Rattle.exchange.specs.declared.notices.Notice.{Notice}
use Rattle.children.specs.Responding.{IsChildResponse}
use Rattle.children.specs.declared.responding.Response.{Response}
use Rattle.setup.specs.Configs.{first_setting, Setup}
use Rattle.initial.specs.Answering.{child_answer, outcome_of, pair_of, reply_payloads, AnswersAuth, Prover}
use Rattle.initial.specs.Concluding.{ConcludesBy, EstablishesBy}
use Rattle.initial.specs.Deciding.{own_proving, peer_proving, Decides, IsDecision}
use Rattle.initial.specs.declared.deciding.Decision.{Decision}
use Rattle.initial.specs.declared.deciding.Decision.TheVariants as decision
use Rattle.laws_coming_up.proofs.SealedLemmas.{read_is, OneChain}

-- the law of a lower crate that this goes by
abbrev pub JudgesOnce : Type 0
JudgesOnce = (accepts : Accepts) (peer : Identity) (what : ProvingView) (payloads : List Payload) (one other : AuthJudgement)
    → IsAuthJudgement accepts peer what payloads one → IsAuthJudgement accepts peer what payloads other → one ≡ other

apart : (notice : Notice) (asked : AskedView) → Refused notice ≡ Accepted asked → ⊥
apart notice asked is = cc

same_asked : (one other : AskedView) → Accepted one ≡ Accepted other → one ≡ other
same_asked one other is = cc

-- ---- the decision

-- it accepts the peer, and what was asked for the Child SA is answered
record AcceptsAs (setup : Setup) (ike : ℕ) (h : HalfOpen) (table : Database) (asked : AskedView) (decided : Decision) : Type 0 where
  answer : Response
  is : decided ≡ decision.Accepted answer asked.window
  child : IsChildResponse (first_setting setup.config ike h.keys) setup.config.extended setup.entries table asked.child answer

module _ (judges_once : JudgesOnce) (accepts : Accepts) (setup : Setup) (ike : ℕ) (h : HalfOpen) (table : Database) (payloads : List Payload) (asked : AskedView)
    (judged : IsAuthJudgement accepts setup.config.peer.identity (peer_proving h) payloads (Accepted asked)) where
  accepts_as : (decided : Decision) → IsDecision accepts setup ike h table (Some payloads) decided → AcceptsAs setup ike h table asked decided
  accepts_as (decision.Refused notice) due =
      absurd (apart notice asked (judges_once accepts setup.config.peer.identity (peer_proving h) payloads (Refused notice) (Accepted asked) due judged))
  accepts_as (decision.Accepted answer window) due =
      let same : due.asked ≡ asked =
      same_asked due.asked asked
      (judges_once accepts setup.config.peer.identity (peer_proving h) payloads (Accepted due.asked) (Accepted asked) due.judged judged) in
      record {
        answer = answer;
        is = ap (λ (w : ℕ). decision.Accepted answer w) (due.told ∙ ap (λ (x : AskedView). x.window) same);
        child = subst (λ (x : AskedView). IsChildResponse (first_setting setup.config ike h.keys) setup.config.extended setup.entries table x.child answer) same due.child;
      }

  decided_as : OneChain → (plain : Plain) (decided : Decision) → SpellsChain plain.first payloads plain.octets → Decides accepts setup ike h table plain decided
      → AcceptsAs setup ike h table asked decided
  decided_as one_chain plain decided chain d =
      accepts_as decided
      (subst (λ (o : Option (List Payload)). IsDecision accepts setup ike h table o decided) (read_is one_chain plain payloads d.payloads chain d.read) d.due)

-- ---- the answer

-- the IKE SA is established, and the answer is sealed
pub record AnswersAs (prover : Prover) (setup : Setup) (old : Association) (h : HalfOpen) (table : Database) (number : ℕ) (asked : AskedView) (said : Answered) (new : Association) (new_table : Database) : Type 0 where
  pub answer : Response
  pub child : IsChildResponse (first_setting setup.config old.serial h.keys) setup.config.extended setup.entries table asked.child answer
  pub sealed : IsSealed prover.body_of (keys_of old.role h.keys) setup.fresh.seal (reply_message old IKE_AUTH number (auth_answer prover.own_method prover.proof_of setup.config.own.identity (own_proving h) (child_answer answer) setup.config.window)) said.octets
  pub incoming : PeerRequests
  pub size : incoming.size ≡ old.incoming.size
  pub between : Database
  pub room : IsAsBefore table between
  pub concluded : EstablishesBy setup (with_incoming old incoming) between (pair_of answer) asked.window said.fate new new_table

same_half : (one other : HalfOpen) → phase.HalfOpen one ≡ phase.HalfOpen other → one ≡ other
same_half one other is = cc

module _ (judges_once : JudgesOnce) (one_chain : OneChain) (prover : Prover) (setup : Setup) (old : Association) (h : HalfOpen) (was : old.phase ≡ phase.HalfOpen h)
    (table : Database) (number : ℕ) (plain : Plain) (payloads : List Payload) (chain : SpellsChain plain.first payloads plain.octets) (asked : AskedView)
    (judged : IsAuthJudgement prover.accepts setup.config.peer.identity (peer_proving h) payloads (Accepted asked)) where
  pub answers_as : (said : Answered) (new : Association) (new_table : Database) → AnswersAuth prover setup old table number plain said new new_table
      → AnswersAs prover setup old h table number asked said new new_table
  answers_as said new new_table a =
      let same : a.opened ≡ h = same_half a.opened h (sym a.was ∙ was) in
      let decides : Decides prover.accepts setup old.serial h table plain a.decision =
      subst (λ (x : HalfOpen). Decides prover.accepts setup old.serial x table plain a.decision) same a.decided in
      let so = decided_as judges_once prover.accepts setup old.serial h table payloads asked judged one_chain plain a.decision chain decides in
      let sealed : IsSealed prover.body_of (keys_of old.role h.keys) setup.fresh.seal
      (reply_message old IKE_AUTH number (reply_payloads prover.own_method prover.proof_of setup h a.decision)) said.octets =
      subst (λ (x : HalfOpen). IsSealed prover.body_of (keys_of old.role x.keys) setup.fresh.seal
      (reply_message old IKE_AUTH number (reply_payloads prover.own_method prover.proof_of setup x a.decision)) said.octets) same a.sealed in
      record {
        answer = so.answer;
        child = so.child;
        sealed = subst (λ (x : Decision). IsSealed prover.body_of (keys_of old.role h.keys) setup.fresh.seal
            (reply_message old IKE_AUTH number (reply_payloads prover.own_method prover.proof_of setup h x)) said.octets) so.is sealed;
        incoming = a.incoming;
        size = a.taken.size ∙ ap (λ (x : PeerRequests). x.size) a.prepared.content;
        between = a.between;
        room = a.room;
        concluded = subst (λ (x : Decision). ConcludesBy setup (with_incoming old a.incoming) a.between (outcome_of x) said.fate new new_table) so.is a.concluded;
      }
