-- The responder's step: the request of IKE_AUTH opens and is processed, the IKE SA is established, and what
-- is asked for the Child SA is answered (RFC 7296 sections 1.2 and 2.15). So it is of the IKE SA at any
-- place.
use Rattle.std.proofs.Common.{◌≡◌, ◌∷◌, ℕ, Bool, [], Option, Some, None, max, ap, arith, refl, subst, sym, ◌∙◌}
use Rattle.std.specs.Cmp.{nat_cmp_total}
use Rattle.std.specs.FinMap as map
use Rattle.std.specs.FinSet as set
use Rattle.std.specs.Ordering.{nat_cmp}
use Rattle.std.specs.Prelude.{IsTrue}
use Rattle.base.specs.Octets.{Octets}
use Rattle.esp.proofs.NumberLemmas.{contains-insert_nat}
use Rattle.wire.specs.Numbers.{IKE_AUTH}
use Rattle.wire.specs.Payloads.{SpellsChain}
use Rattle.wire.specs.declared.message.Message.{Message}
use Rattle.wire.specs.declared.payload.Payload.{Payload}
use Rattle.exchange.specs.Headers.{keys_of}
use Rattle.exchange.specs.Sealed.{plain_of_message, IsSealed}
use Rattle.exchange.specs.declared.child.ChildPayloads.{ChildPayloads}
use Rattle.exchange.specs.declared.headers.Role.TheVariants.{Initiator, Responder}
use Rattle.exchange.specs.declared.sealed.Plain.{Plain}
use Rattle.requests.specs.Incoming.{after_number_0, IsFreshRequest}
use Rattle.requests.specs.Numbers.{HasNumber}
use Rattle.sadb.specs.Database.{Database, IsAsBefore}
use Rattle.association.specs.AskedChildren.{asked_of}
use Rattle.association.specs.Outcomes.{made_by}
use Rattle.association.specs.Phases.{keys_in}
use Rattle.association.specs.Receiving.{IsEffective, IsReceived, Opening as OpeningOf, Reception, TakesEffect}
use Rattle.association.specs.declared.outcome.Answered.{Answered}
use Rattle.association.specs.declared.phase.Association.{Association}
use Rattle.association.specs.declared.phase.HalfOpen.{HalfOpen}
use Rattle.association.specs.declared.phase.Phase.{Phase}
use Rattle.association.specs.declared.phase.Phase.TheVariants as phase
use Rattle.association.specs.declared.phase.Request.{Request}
use Rattle.auth.specs.Proofs.{octets_to_prove, Accepts, ProvingView}
use Rattle.auth.specs.Requests.{auth_request, Accepted, AskedView, IsAuthJudgement}
use Rattle.auth.specs.Windows.{IsWindow}
use Rattle.auth.specs.declared.identity.Identity.{Identity}
use Rattle.children.specs.Asking.{child_request}
use Rattle.children.specs.Responding.{IsChildResponse}
use Rattle.children.specs.declared.responding.Response.{Response}
use Rattle.setup.specs.Configs.{first_setting, IsConfig, Setup}
use Rattle.setup.specs.declared.config.Config.{Config}
use Rattle.initial.specs.Answering.{child_answer, pair_of, AnswersAuth}
use Rattle.initial.specs.Concluding.{AddsChild}
use Rattle.effects.specs.Lengths.{AreWholeKeys}
use Rattle.effects.specs.Taking.{prover_of, Does, DoesRequest, Meaning, TakesMessage}
use Rattle.effects.specs.Waiting.{SuitPhase}
use Rattle.effects.specs.declared.taking.Effect.{Effect}
use Rattle.effects.specs.declared.taking.Effect.TheVariants as effect
use Rattle.ike.specs.Machines.{Held}
use Rattle.ike.specs.Outputs.{closed_serial, stepped_of}
use Rattle.ike.specs.Soundness.{AreSound}
use Rattle.gateway.specs.Outputs.{view_of_ike, Reply}
use Rattle.laws_coming_up.specs.ComingUpBeside.{answer_in, identity_in, proved_in, AwaitsIdentity, IsKnownIn, IsStandingIn, Meeting}
use Rattle.laws_coming_up.proofs.AnsweringLemmas.{answers_as, JudgesOnce}
use Rattle.laws_coming_up.proofs.StepLemmas.{request_header, with_names}
use Rattle.laws_coming_up.proofs.SealedLemmas.{OneChain}

-- ---- an IKE SA that is half open, with all that is known of it

abbrev pub half_in : Meeting → ℕ → HalfOpen
half_in d made = record { keys = d.keys; request = d.request; reply = d.response; made = made }

abbrev pub half_as : Association → Meeting → ℕ → Association
half_as a d made = record (with_names a Responder d) {
  incoming = record after_number_0 { room = a.incoming.room };
  phase = phase.HalfOpen (half_in d made);
}

is_none : {X : Type 0} (o : Option X) → ((x : X) → o ≡ Some x → ⊥) → o ≡ None
is_none {X} None never = refl
is_none {X} (Some x) never = absurd (never x refl)

none_out : (m : map.FinMap nat_cmp Request) → ((n : ℕ) (r : Request) → map.get m n ≡ Some r → ⊥) → m ≡ map.empty
none_out m never =
    map.same_map nat_cmp_total map.nat_cmp-IsAntisymmetric m map.empty (λ n. is_none (map.get m n) (λ r is. never n r is) ∙ sym (map.get-empty nat_cmp n))

-- it is this one, which sent no request, and its peer may have one under way
pub record IsHalfOpenSo (d : Meeting) (made : ℕ) (a : Association) : Type 0 where
  pub is : a ≡ half_as a d made
  pub window : a.outgoing.window ≡ 1
  pub quiet : a.outgoing.outstanding ≡ map.empty
  pub whole : AreWholeKeys d.keys

pub half_so : (d : Meeting) (held : Held) (table : Database) → AreSound held table → (waits : AwaitsIdentity d held) → IsHalfOpenSo d waits.made waits.association
half_so d held table sound waits =
    let a : Association = waits.association in
    let it = sound.each waits.place a waits.there in
    let first = it.soundly.took_first (record { opened = half_in d waits.made; is = waits.phase_is }) in
    let suits : SuitPhase (phase.HalfOpen (half_in d waits.made)) a.outgoing.outstanding =
    subst (λ (p : Phase). SuitPhase p a.outgoing.outstanding) waits.phase_is it.soundly.waits in
    record {
      is = (λ i. record a { role = first.role i; spi_i = waits.spi_i i; spi_r = waits.spi_r i; incoming = first.incoming i; phase = waits.phase_is i });
      window = first.window;
      quiet = none_out a.outgoing.outstanding (λ n r is. suits n r is);
      whole = it.whole d.keys (ap (λ (p : Phase). keys_in p) waits.phase_is);
    }

-- ---- the request is the next one

in_it : HasNumber (set.insert set.empty 0) 0
in_it = contains-insert_nat set.empty 0 0

fresh_one : (room : ℕ) → IsFreshRequest (record after_number_0 { room = room }) 1
fresh_one room = record {
  not_in_effect = contains-insert_nat set.empty 0 1 ∙ set.contains-empty nat_cmp 1;
  gap = 1;
  is_gap = record {
    missing = contains-insert_nat set.empty 0 1 ∙ set.contains-empty nat_cmp 1;
    below = λ n less. let same : 0 ≡ n = omega (arith, less) in subst (λ (x : ℕ). HasNumber (set.insert set.empty 0) x) same in_it;
  };
  inside = omega arith;
}

-- ---- it is processed

-- the laws of lower crates that this goes by
abbrev pub ReceivesOnce : Type 0
ReceivesOnce = (plain_of : OpeningOf) (a : Association) (octets : Octets) (m : Message) (one other : Reception)
    → IsReceived plain_of a octets m one → IsReceived plain_of a octets m other → one ≡ other

abbrev pub ReceivesWhatIsDue : Type 0
ReceivesWhatIsDue = (plain_of : OpeningOf) (a : Association) (octets : Octets) (m : Message) (plain : Plain)
    → IsEffective plain_of a octets m plain → IsReceived plain_of a octets m (TakesEffect plain)

abbrev pub AcceptsRequests : Type 0
AcceptsRequests = (accepts : Accepts) (own_method : ℕ) (proof_of : Octets → Octets) (own : Identity) (what : ProvingView) (child : ChildPayloads) (window : ℕ)
    → IsWindow window
    → IsTrue (accepts own.kind own.data own_method (octets_to_prove what own) (proof_of (octets_to_prove what own)))
    → IsAuthJudgement accepts own what (auth_request own_method proof_of own what child window) (Accepted (record { child = child; window = window }))

-- it is answered
pub record IsReplied (meaning : Meaning) (setup : Setup) (old : Association) (table : Database) (plain : Plain) (e : Effect) (new : Association) (new_table : Database) : Type 0 where
  pub answered : Answered
  pub is : e ≡ effect.Replied answered
  pub done : AnswersAuth (prover_of meaning) setup old table 1 plain answered new new_table

module _ (meaning : Meaning) (setup : Setup) (d : Meeting) (base : Association) (made : ℕ) (table : Database) (auth : Octets) (sealed : Payload) (plain : Plain)
    (opens : plain_of_message meaning.plain_of (keys_of Initiator d.keys) auth (sealed ∷ []) ≡ Some plain) where
  abbrev request : Message
  request = record { header = request_header d; payloads = sealed ∷ [] }

  effective : IsEffective meaning.plain_of (half_as base d made) auth request plain
  effective = record { request = refl; fresh = fresh_one base.incoming.room; admitted = refl; opened = opens }

  replies : (e : Effect) (new : Association) (new_table : Database)
      → DoesRequest meaning setup (phase.HalfOpen (half_in d made)) IKE_AUTH (half_as base d made) table 1 plain e new new_table
      → IsReplied meaning setup (half_as base d made) table plain e new new_table
  replies (effect.Replied answered) new new_table done = record { answered = answered; is = refl; done = done }
  replies e new new_table done = absurd done

  pub replied : ReceivesOnce → ReceivesWhatIsDue → (e : Effect) (new : Association) (new_table : Database)
      → TakesMessage meaning setup (half_as base d made) table auth request e new new_table
      → IsReplied meaning setup (half_as base d made) table plain e new new_table
  replied once due e new new_table t =
      let is : t.reception ≡ TakesEffect plain =
      once meaning.plain_of (half_as base d made) auth request t.reception (TakesEffect plain) t.received
      (due meaning.plain_of (half_as base d made) auth request plain effective) in
      replies e new new_table (subst (λ (r : Reception). Does meaning setup (half_as base d made) table auth request r e new new_table) is t.done)

-- ---- what comes of it

pub record AcceptsAt (meaning : Meaning) (one : Config) (setup : Setup) (d : Meeting) (number : ℕ) (table : Database) (e : Effect) (new : Association) (new_table : Database) : Type 0 where
  pub answer : Response
  pub child : IsChildResponse (first_setting setup.config number d.keys) setup.config.extended setup.entries table (child_request (asked_of d.child)) answer
  pub octets : Octets
  pub said : view_of_ike (stepped_of number 1 e).output ≡ Reply octets None
  pub sealed : IsSealed meaning.body_of (keys_of Responder d.keys) setup.fresh.seal (answer_in meaning setup.config d (child_answer answer)) octets
  pub serial : Option ℕ
  pub between : Database
  pub room : IsAsBefore table between
  pub added : AddsChild between None (pair_of answer) serial new_table
  pub standing : IsStandingIn Responder setup.config one d number new

pub widest : (window size : ℕ) → IsWindow window → size ≡ 1 → max window size ≡ window
widest window size is one = (let least = is.least in omega (arith, least, one))

module _ (judges_once : JudgesOnce) (one_chain : OneChain) (accepts_requests : AcceptsRequests) (asker meaning : Meaning) (one : Config) (setup : Setup) (d : Meeting)
    (base : Association) (made : ℕ) (so : IsHalfOpenSo d made base) (config : IsConfig one) (other_config : IsConfig setup.config)
    (known : IsKnownIn Initiator one setup.config asker meaning d) (table : Database) (plain : Plain)
    (chain : SpellsChain plain.first (identity_in asker one d).payloads plain.octets) where
  abbrev asked : AskedView
  asked = record { child = child_request (asked_of d.child); window = one.window }

  judged : IsAuthJudgement meaning.accepts setup.config.peer.identity (proved_in Initiator d) (identity_in asker one d).payloads (Accepted asked)
  judged =
      subst (λ (peer : Identity). IsAuthJudgement meaning.accepts peer (proved_in Initiator d) (identity_in asker one d).payloads (Accepted asked)) (sym known.named)
      (accepts_requests meaning.accepts asker.own_method asker.proof_of one.own.identity (proved_in Initiator d) (child_request (asked_of d.child)) one.window
      config.window known.proved)

  pub accepts_at : (e : Effect) (new : Association) (new_table : Database) → IsReplied meaning setup (half_as base d made) table plain e new new_table
      → AcceptsAt meaning one setup d base.serial table e new new_table
  accepts_at e new new_table r =
      let it = answers_as judges_once one_chain (prover_of meaning) setup (half_as base d made) (half_in d made) refl table 1 plain (identity_in asker one d).payloads chain
      asked judged r.answered new new_table r.done in
      let content = it.concluded.content in
      record {
        answer = it.answer;
        child = it.child;
        octets = r.answered.octets;
        said = ap (λ (x : Effect). view_of_ike (stepped_of base.serial 1 x).output) r.is
            ∙ ap (λ (b : Bool). Reply r.answered.octets (closed_serial base.serial b)) it.concluded.stands;
        sealed = it.sealed;
        serial = made_by r.answered.fate;
        between = it.between;
        room = it.room;
        added = it.concluded.added;
        standing = record {
          serial = ap (λ (a : Association). a.serial) content;
          role_is = ap (λ (a : Association). a.role) content;
          spi_i = ap (λ (a : Association). a.spi_i) content;
          spi_r = ap (λ (a : Association). a.spi_r) content;
          established = ap (λ (a : Association). a.phase) content;
          incoming = ap (λ (a : Association). a.incoming.size) content ∙ widest setup.config.window it.incoming.size other_config.window it.size;
          outgoing = ap (λ (a : Association). a.outgoing.window) content ∙ widest one.window base.outgoing.window config.window so.window;
          quiet = ap (λ (a : Association). a.outgoing.outstanding) content ∙ so.quiet;
        };
      }
