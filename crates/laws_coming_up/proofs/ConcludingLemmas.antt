-- The initiator's step: the response to IKE_AUTH opens and is matched, the IKE SA is established, and the
-- Child SA is made where the response has one (RFC 7296 sections 1.2 and 2.15). So it is of the IKE SA at any
-- place.
use Rattle.std.proofs.Common.{◌≡◌, ◌≤◌, ◌<◌, ◌^◌, ◌∷◌, inl, inr, ℕ, Bool, true, false, List, [], Option, Some, None, max, cond, ap, arith, refl, subst, sym, ◌∙◌}
use Rattle.std.proofs.lemmas.Bool.{eq-eqb, true≢false}
use Rattle.std.specs.Cmp.{nat_cmp_total, unsigned_tied}
use Rattle.std.specs.FinMap as map
use Rattle.std.specs.Ordering.{eq_by_cmp, nat_cmp}
use Rattle.std.specs.Prelude.{◌==◌, IsTrue}
use Rattle.base.specs.Octets.{Octets}
use Rattle.wire.specs.Numbers.{IKE_AUTH}
use Rattle.wire.specs.Payloads.{SpellsChain}
use Rattle.wire.specs.declared.message.Message.{Message}
use Rattle.wire.specs.declared.payload.Payload.{Payload}
use Rattle.exchange.specs.Headers.{keys_of}
use Rattle.exchange.specs.Sealed.{plain_of_message}
use Rattle.exchange.specs.declared.child.ChildAnswer.{ChildAnswer}
use Rattle.exchange.specs.declared.headers.Role.TheVariants.{Initiator, Responder}
use Rattle.exchange.specs.declared.sealed.Plain.{Plain}
use Rattle.requests.specs.Incoming.{PeerRequests}
use Rattle.sadb.specs.Database.{Database, IsSoundTable}
use Rattle.sadb.specs.declared.pair.Pair.{Pair}
use Rattle.association.specs.Outcomes.{made_by}
use Rattle.association.specs.Phases.{keys_in, spi_in}
use Rattle.association.specs.Purposes.{exchange_of}
use Rattle.association.specs.Receiving.{answering_reception, reception_by, Answers, Reception}
use Rattle.association.specs.declared.outcome.Ended.{Ended}
use Rattle.association.specs.declared.phase.Association.{Association}
use Rattle.association.specs.declared.phase.AuthSent.{AuthSent}
use Rattle.association.specs.declared.phase.Phase.{Phase}
use Rattle.association.specs.declared.phase.Phase.TheVariants as phase
use Rattle.association.specs.declared.phase.Request.{Request}
use Rattle.association.specs.declared.purpose.Purpose.{Purpose}
use Rattle.association.specs.declared.purpose.Purpose.TheVariants.{Identify}
use Rattle.auth.specs.Answers.{auth_answer, is_accepted}
use Rattle.auth.specs.Proofs.{octets_to_prove, Accepts, ProvingView}
use Rattle.auth.specs.Windows.{peer_window, IsWindow}
use Rattle.auth.specs.declared.identity.Identity.{Identity}
use Rattle.setup.specs.Configs.{IsConfig, Setup}
use Rattle.setup.specs.declared.config.Config.{Config}
use Rattle.initial.specs.Concluding.{AddsChild}
use Rattle.initial.specs.Ending.{EndsAuth, IsAuthSent, IsFirstChild}
use Rattle.effects.specs.Lengths.{AreWholeKeys}
use Rattle.effects.specs.Taking.{Does, DoesResponse, Meaning, TakesMessage}
use Rattle.effects.specs.Waiting.{SuitPhase}
use Rattle.effects.specs.declared.taking.Effect.{Effect}
use Rattle.effects.specs.declared.taking.Effect.TheVariants as effect
use Rattle.ike.specs.Machines.{Held}
use Rattle.ike.specs.Outputs.{closed_serial, stepped_of}
use Rattle.ike.specs.Soundness.{AreSound}
use Rattle.gateway.specs.Outputs.{view_of_ike, Counted}
use Rattle.laws_coming_up.specs.ComingUpBeside.{answer_in, proved_in, AwaitsAnswer, IsKnownIn, IsStandingIn, Meeting}
use Rattle.laws_coming_up.proofs.EndingLemmas.{ends_as}
use Rattle.laws_coming_up.proofs.StepLemmas.{response_header, with_names}
use Rattle.laws_coming_up.proofs.AcceptingLemmas.{widest}
use Rattle.laws_coming_up.proofs.SealedLemmas.{OneChain}

-- the laws of lower crates that this goes by
abbrev pub AcceptsAnswers : Type 0
AcceptsAnswers = (accepts : Accepts) (own_method : ℕ) (proof_of : Octets → Octets) (own : Identity) (what : ProvingView) (answer : ChildAnswer) (window : ℕ)
    → IsTrue (accepts own.kind own.data own_method (octets_to_prove what own) (proof_of (octets_to_prove what own)))
    → is_accepted accepts own what (auth_answer own_method proof_of own what answer window) ≡ true

abbrev pub TellsWindows : Type 0
TellsWindows = (own_method : ℕ) (proof_of : Octets → Octets) (own : Identity) (what : ProvingView) (answer : ChildAnswer) (window : ℕ) → IsWindow window
    → peer_window (auth_answer own_method proof_of own what answer window) ≡ window

-- ---- an IKE SA that waits, with all that is known of it

-- what it waits by
abbrev pub sent_in : Meeting → AuthSent
sent_in d = record { keys = d.keys; first = d.response; child = d.child }

abbrev pub waiting_in : Association → Meeting → Association
waiting_in a d = record (with_names a Initiator d) { phase = phase.AuthSent (sent_in d) }

-- the one request that is outstanding is taken out
gone : (b : Bool) (o : Option Request) → ((r : Request) → o ≡ Some r → b ≡ true) → cond b None o ≡ None
gone true o only = refl
gone false None only = refl
gone false (Some r) only = absurd (true≢false (sym (only r refl)))

none_left : (m : map.FinMap nat_cmp Request) → ((n : ℕ) (r : Request) → map.get m n ≡ Some r → n ≡ 1) → map.remove m 1 ≡ map.empty
none_left m only = map.same_map nat_cmp_total map.nat_cmp-IsAntisymmetric (map.remove m 1) map.empty (λ n.
    map.get-remove nat_cmp_total m 1 n ∙ gone (eq_by_cmp nat_cmp n 1) (map.get m n) (λ r is. unsigned_tied n 1 ∙ eq-eqb n 1 (only n r is))
    ∙ sym (map.get-empty nat_cmp n))

-- it is this one; its peer's window isn't told yet, and nothing else is outstanding
pub record IsWaitingSo (d : Meeting) (asked : Request) (a : Association) : Type 0 where
  pub is : a ≡ waiting_in a d
  pub size : a.incoming.size ≡ 1
  pub window : a.outgoing.window ≡ 1
  pub purpose : asked.purpose ≡ Identify
  pub quiet : map.remove a.outgoing.outstanding 1 ≡ map.empty
  pub whole : AreWholeKeys d.keys
  -- its table can give the SPI
  pub least : 256 ≤ d.child.spi
  pub most : d.child.spi < 2 ^ 32

pub waiting_so : (d : Meeting) (held : Held) (table : Database) → AreSound held table → IsSoundTable table → (waits : AwaitsAnswer d held)
    → IsWaitingSo d waits.asked waits.association
waiting_so d held table sound sound_table waits =
    let a : Association = waits.association in
    let it = sound.each waits.place a waits.there in
    let sent : IsAuthSent a.phase = record { sent = sent_in d; is = waits.phase_is } in
    let first = it.soundly.took_none (inr sent) in
    let suits : SuitPhase (phase.AuthSent (sent_in d)) a.outgoing.outstanding = subst (λ (p : Phase). SuitPhase p a.outgoing.outstanding) waits.phase_is it.soundly.waits in
    let given = sound_table.reserved_given d.child.spi (it.reserved.reserved d.child.spi (inl (ap (λ (p : Phase). spi_in p) waits.phase_is))) in
    let start = sound_table.start in
    record {
      is = (λ i. record a { role = first.role i; spi_i = waits.spi_i i; spi_r = waits.spi_r i; phase = waits.phase_is i });
      size = ap (λ (r : PeerRequests). r.size) first.incoming;
      window = first.window;
      purpose = (suits 1 waits.asked waits.outstanding).1;
      quiet = none_left a.outgoing.outstanding (λ n r is. (suits n r is).0);
      whole = it.whole d.keys (ap (λ (p : Phase). keys_in p) waits.phase_is);
      least = (let from = given.from_start in let first_spi = start.least in omega (arith, from, first_spi));
      most = (let before = given.before_next in let few = sound_table.given in let last = start.most in omega (arith, before, few, last));
    }

-- ---- it is matched

pub record IsCounted (meaning : Meaning) (setup : Setup) (old : Association) (table : Database) (plain : Plain) (e : Effect) (new : Association) (new_table : Database) : Type 0 where
  pub ended : Ended
  pub is : e ≡ effect.Counted ended
  pub done : EndsAuth meaning.accepts setup old table 1 plain ended new new_table

module _ (meaning : Meaning) (setup : Setup) (d : Meeting) (base : Association) (waiting : Request) (outstanding : map.get base.outgoing.outstanding 1 ≡ Some waiting)
    (purpose : waiting.purpose ≡ Identify) (table : Database) (octets : Octets) (sealed : Payload) (plain : Plain)
    (opens : plain_of_message meaning.plain_of (keys_of Responder d.keys) octets (sealed ∷ []) ≡ Some plain) where
  abbrev response : Message
  response = record { header = response_header d; payloads = sealed ∷ [] }

  counts : (e : Effect) (new : Association) (new_table : Database)
      → DoesResponse meaning setup (phase.AuthSent (sent_in d)) (waiting_in base d) table 1 plain e new new_table
      → IsCounted meaning setup (waiting_in base d) table plain e new new_table
  counts (effect.Counted ended) new new_table done = record { ended = ended; is = refl; done = done }
  counts e new new_table done = absurd done

  pub counted : (e : Effect) (new : Association) (new_table : Database)
      → TakesMessage meaning setup (waiting_in base d) table octets response e new new_table
      → IsCounted meaning setup (waiting_in base d) table plain e new new_table
  counted e new new_table t =
      let is : t.reception ≡ Answers plain =
      t.received ∙ (λ i. reception_by (phase.AuthSent (sent_in d)) IKE_AUTH (outstanding i) (opens i))
      ∙ ap (λ (p : Purpose). answering_reception (phase.AuthSent (sent_in d)) (exchange_of p == IKE_AUTH) (Some plain)) purpose in
      counts e new new_table (subst (λ (r : Reception). Does meaning setup (waiting_in base d) table octets response r e new new_table) is t.done)

-- ---- what comes of it

pub record ConcludesAt (other : Config) (setup : Setup) (d : Meeting) (number : ℕ) (payloads : List Payload) (table : Database) (e : Effect) (new : Association) (new_table : Database) : Type 0 where
  pub pair : Option Pair
  pub child : IsFirstChild setup number (sent_in d) payloads pair
  pub serial : Option ℕ
  pub said : view_of_ike (stepped_of number 1 e).output ≡ Counted number serial None
  pub added : AddsChild table (Some d.child.spi) pair serial new_table
  pub standing : IsStandingIn Initiator setup.config other d number new

module _ (one_chain : OneChain) (accepts_answers : AcceptsAnswers) (tells_windows : TellsWindows) (teller meaning : Meaning) (other : Config) (setup : Setup) (d : Meeting)
    (base : Association) (waiting : Request) (so : IsWaitingSo d waiting base) (config : IsConfig setup.config) (other_config : IsConfig other)
    (known : IsKnownIn Responder other setup.config teller meaning d) (table : Database) (answer : ChildAnswer) (plain : Plain)
    (chain : SpellsChain plain.first (answer_in teller other d answer).payloads plain.octets) where
  accepted : is_accepted meaning.accepts setup.config.peer.identity (proved_in Responder d) (answer_in teller other d answer).payloads ≡ true
  accepted =
      subst (λ (peer : Identity). is_accepted meaning.accepts peer (proved_in Responder d) (answer_in teller other d answer).payloads ≡ true) (sym known.named)
      (accepts_answers meaning.accepts teller.own_method teller.proof_of other.own.identity (proved_in Responder d) answer other.window known.proved)

  told : peer_window (answer_in teller other d answer).payloads ≡ other.window
  told = tells_windows teller.own_method teller.proof_of other.own.identity (proved_in Responder d) answer other.window other_config.window

  pub concludes_at : (e : Effect) (new : Association) (new_table : Database) → IsCounted meaning setup (waiting_in base d) table plain e new new_table
      → ConcludesAt other setup d base.serial (answer_in teller other d answer).payloads table e new new_table
  concludes_at e new new_table r =
      let it = ends_as one_chain meaning.accepts setup (waiting_in base d) (sent_in d) refl table 1 plain (answer_in teller other d answer).payloads
      chain accepted r.ended new new_table r.done in
      let content = it.concluded.content in
      record {
        pair = it.pair;
        child = it.child;
        serial = made_by r.ended.fate;
        said = ap (λ (x : Effect). view_of_ike (stepped_of base.serial 1 x).output) r.is
            ∙ ap (λ (b : Bool). Counted base.serial (made_by r.ended.fate) (closed_serial base.serial b)) it.concluded.stands;
        added = it.concluded.added;
        standing = record {
          serial = ap (λ (a : Association). a.serial) content;
          role_is = ap (λ (a : Association). a.role) content;
          spi_i = ap (λ (a : Association). a.spi_i) content;
          spi_r = ap (λ (a : Association). a.spi_r) content;
          established = ap (λ (a : Association). a.phase) content;
          incoming = ap (λ (a : Association). a.incoming.size) content ∙ widest setup.config.window base.incoming.size config.window so.size;
          outgoing = ap (λ (a : Association). a.outgoing.window) content
              ∙ ap (λ (w : ℕ). max w it.outgoing.window) told ∙ widest other.window it.outgoing.window other_config.window (it.window ∙ so.window);
          quiet = ap (λ (a : Association). a.outgoing.outstanding) content ∙ it.outstanding ∙ so.quiet;
        };
      }
