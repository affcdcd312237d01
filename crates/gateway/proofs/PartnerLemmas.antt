-- Who is established, as initiator or as responder, has a partner.
use Rattle.std.proofs.Common.{◌≡◌, ◌<◌, ◌==◌, ◌∷◌, inl, inr, ℕ, Bool, true, false, not, ◌&&◌, List, [], Option, Some, None, slice_get, refl, sym, ap, subst, ◌∙◌, arith}
use Rattle.std.specs.Prelude.{option_and_then}
use Rattle.base.specs.Octets.{Octets}
use Rattle.wire.specs.Messages.{Spells}
use Rattle.wire.specs.Numbers.{IKE_SA_INIT}
use Rattle.wire.specs.declared.message.Header.{Header}
use Rattle.wire.specs.declared.message.Message.{Message}
use Rattle.policy.specs.declared.entry.Entry.{Entry}
use Rattle.suite.specs.SignedOctets.{rest_of_id}
use Rattle.suite.specs.declared.fresh.Fresh.{Fresh}
use Rattle.suite.specs.declared.key_record.KeyRecord.{KeyRecord}
use Rattle.suite.specs.declared.sealer.Cipher.{Cipher}
use Rattle.exchange.specs.declared.headers.Role.TheVariants.{Initiator, Responder}
use Rattle.sadb.specs.Database.{Database, IsSoundTable}
use Rattle.association.specs.Phases.{keys_in}
use Rattle.association.specs.declared.phase.Association.{Association}
use Rattle.association.specs.declared.phase.AuthSent.{AuthSent}
use Rattle.association.specs.declared.phase.HalfOpen.{HalfOpen}
use Rattle.association.specs.declared.phase.Phase.{Phase}
use Rattle.association.specs.declared.phase.Phase.TheVariants as phase
use Rattle.auth.specs.Proofs.{octets_to_prove, proving_of}
use Rattle.auth.specs.declared.identity.Identity.{Identity}
use Rattle.effects.specs.Taking.{asker_of, Meaning}
use Rattle.ike.specs.Before.{How}
use Rattle.ike.specs.LawsOfBefore.{WhoAsksHasRead, WhoAsksWithoutKeysWaited, WhoIsHalfOpenWasSo}
use Rattle.ike.specs.LawsOfChildren.{WhoWaitsWaitedOrAsksNow}
use Rattle.ike.specs.LawsOfOutputs.{TracesNameWhatIsHeld}
use Rattle.ike.specs.LawsOfPeers.{TheEstablishedProvedThemselves}
use Rattle.ike.specs.Machines.{association_of, keys_of_serial, Machine}
use Rattle.ike.specs.Proving.{ProvedBy}
use Rattle.ike.specs.Records.{introduced, ComesToKeysAsInitiator, ComesToKeysAsResponder, Introduction, SaysOfSender}
use Rattle.ike.specs.Soundness.{IsSoundMachine}
use Rattle.ike.specs.Steps as ike
use Rattle.ike.specs.declared.output.Stepped.{Stepped}
use Rattle.gateway.specs.Exchanges.{HaveExchanged, ReadsResponse, SendsRequest}
use Rattle.gateway.specs.Inputs.{Input}
use Rattle.gateway.specs.Inputs as input
use Rattle.gateway.specs.Requests.{for_ike}
use Rattle.gateway.specs.States.{association_in, State}
use Rattle.gateway.specs.WorldHistories.{Happening, IsWorldTrail}
use Rattle.gateway.specs.Worlds.{gateway_at, other_end, HoldsNothing, TakesEvent, WorldState}
use Rattle.gateway.specs.declared.world.stored.End.{End}
use Rattle.gateway.specs.declared.world.stored.End.TheVariants.{A, B}
use Rattle.gateway.proofs.AlongLemmas.{after_here, after_there, ahead, between, each_end, kept_along}
use Rattle.gateway.proofs.BeforeLemmas.{given_before, none_some, same_one}
use Rattle.gateway.proofs.ChildLemmas.{way_of}
use Rattle.gateway.proofs.ExchangeLemmas.{given_there, held_on, introduced_by, keys_agree, made_of, request_tells, step_at, MadeAt, Offered, RecordLaws, TellsOffer}
use Rattle.gateway.proofs.Nonces.{EachNonceIsOfOne}
use Rattle.proved_octets.specs.Parts.{HaveTheSameParts, what_is_proved}
use Rattle.gateway.specs.Agreeing.{IsEstablishedAsInitiator, IsEstablishedAsResponder, HasAsker, HasPartner, HasProved, IsToBeProved, mac_of, NoProofIsForged, NoTwoRecordsProveAlike, ProvesAsInitiator, ProvesAsResponder}

-- what is known of one step
pub record PartnerLaws : Type 0 where
  pub records : RecordLaws
  pub traced : TracesNameWhatIsHeld
  pub waits : WhoWaitsWaitedOrAsksNow
  pub read : WhoAsksHasRead
  pub waited : WhoAsksWithoutKeysWaited
  pub half : WhoIsHalfOpenWasSo
  pub proved : TheEstablishedProvedThemselves
  pub one_message : (m n : Message) (b : Octets) → Spells m b → Spells n b → m ≡ n
  pub parts : (m n : Message) (first nonce sk_p text other another key content : Octets) → Spells m first → Spells n other
      → what_is_proved first nonce sk_p text ≡ what_is_proved other another key content → HaveTheSameParts first nonce sk_p text other another key content

other_twice : (e : End) → other_end (other_end e) ≡ e
other_twice A = refl
other_twice B = refl

no_response_by : (zero response exchange : Bool) → zero && not response && exchange ≡ true → response ≡ false
no_response_by true false exchange is = refl
no_response_by true true exchange is = absurd cc
no_response_by false response exchange is = absurd cc

-- a response is no request
response_not : (m n : Message) → m ≡ n → m.header.flags.response ≡ true → n.header.flags.response ≡ false → ⊥
response_not m n same one other = let no : true ≡ false = sym one ∙ ap (λ (x : Message). x.header.flags.response) same ∙ other in cc

same_told : (one other : AuthSent) → phase.AuthSent one ≡ phase.AuthSent other → one ≡ other
same_told one other is = cc

same_opened : (one other : HalfOpen) → phase.HalfOpen one ≡ phase.HalfOpen other → one ≡ other
same_opened one other is = cc

same_first : (from octets other given : Octets) (fresh drawn : Fresh) → ike.Message from octets fresh ≡ ike.Message other given drawn → octets ≡ given
same_first from octets other given fresh drawn is = cc

-- ---- what an initiator holds of the response was read

pub record IsReadResponse (told : AuthSent) : Type 0 where
  pub message : Message
  pub spelled : Spells message told.first
  pub response : message.header.flags.response ≡ true

abbrev HoldsRead : Association → Type 0
HoldsRead a = (told : AuthSent) → a.phase ≡ phase.AuthSent told → IsReadResponse told

abbrev AllRead : {C : Type 0} → State C → Type 0
AllRead {C} s = (serial : ℕ) (a : Association) → association_in s serial ≡ Some a → HoldsRead a

read_by_step : PartnerLaws → (meaning : Meaning) (entries : List Entry) (view : ike.InputView) (old : Machine) (table : Database) (stepped : Stepped) (new : Machine) (new_table : Database)
    → IsSoundTable table → IsSoundMachine old table → ike.Steps meaning entries view old table stepped new new_table
    → ((serial : ℕ) (a : Association) → association_of serial old.held.associations ≡ Some a → HoldsRead a)
    → (serial : ℕ) (a : Association) → association_of serial new.held.associations ≡ Some a → HoldsRead a
read_by_step laws meaning entries view old table stepped new new_table sound_table sound steps before serial a there told waits =
    elim (laws.waits meaning entries view old table stepped new new_table serial a told sound_table sound steps there waits) [
      | inl was ↦ before serial was.was was.stood told was.waited
      | inr asks ↦
          let gets = (laws.traced meaning entries view old table stepped new new_table sound_table sound steps).keyed serial asks.keyed in
          elim (laws.records.steps.came meaning entries view old table stepped new new_table serial a sound steps there) [
            | inl was ↦
                let none : keys_in was.was.phase ≡ None = sym (ap (λ (o : Option Association). option_and_then (λ x. keys_in x.phase) o) was.stood) ∙ gets.none in
                let sent = laws.waited meaning entries view old table stepped new new_table was.was a told was.how waits none in
                let now = laws.read meaning entries view old table stepped new new_table was.was a sent.sent told was.how sent.is waits in
                record { message = now.message; spelled = now.spelled; response = now.response }
            | inr came ↦ elim came.how [
              | inl admitted ↦ absurd (let no = sym waits ∙ ap (λ (x : Association). x.phase) (sym admitted.made ∙ admitted.admits.content) in cc)
              | inr began ↦ absurd (let no = sym waits ∙ began.waits in cc)
            ]
          ]
    ]

module _ {C : Type 0} (laws : PartnerLaws) (meaning_of : C → Meaning) where
  read_here : (h : Happening C) (t : TakesEvent meaning_of h.event h.before h.said h.after) → AllRead (gateway_at h.event.end h.before) → AllRead t.gateway
  read_here h t before =
      let was = gateway_at h.event.end h.before in
      let meaning = meaning_of was.caller in
      elim (way_of meaning h.event.input was h.said t.trace t.gateway t.traces.does) [
        | inl w ↦ read_by_step laws meaning was.entries w.view was.machine was.table w.stepped t.gateway.machine t.gateway.table t.sound.table t.sound.machine w.steps before
        | inr still ↦ λ serial a there. before serial a (ap (λ (m : Machine). association_of serial m.held.associations) (sym still.machine) ∙ there)
      ]

  read_event : (end : End) (h : Happening C) (t : TakesEvent meaning_of h.event h.before h.said h.after) → AllRead (gateway_at end h.before) → AllRead (gateway_at end h.after)
  read_event end h t =
      each_end (λ e. AllRead (gateway_at e h.before) → AllRead (gateway_at e h.after)) h.event.end
      (λ before. subst AllRead (sym (after_here meaning_of h t)) (read_here h t before))
      (λ before. subst AllRead (sym (after_there meaning_of h t)) before) end

  read_along : (end : End) (hs : List (Happening C)) (old new : WorldState C) → IsWorldTrail meaning_of old hs new → AllRead (gateway_at end old) → AllRead (gateway_at end new)
  read_along end [] old new trail before = subst (λ (w : WorldState C). AllRead (gateway_at end w)) (sym trail) before
  read_along end (h ∷ hs) old new trail before =
      read_along end hs h.after new trail.2 (read_event end h trail.1 (subst (λ (w : WorldState C). AllRead (gateway_at end w)) (sym trail.0) before))

  none_read : (s : State C) → HoldsNothing s → AllRead s
  none_read s none serial a there = absurd (none_some a (sym (ap (λ (xs : List Association). association_of serial xs) none.associations) ∙ there))

  -- ---- what stays along a history

  -- it has these keys, and where it waits for the response of IKE_AUTH, it waits so
  record IsToldOf (told : AuthSent) (a : Association) : Type 0 where
    pub keyed : keys_in a.phase ≡ Some told.keys
    pub same : (one : AuthSent) → a.phase ≡ phase.AuthSent one → one ≡ told

  told_on : (serial : ℕ) (told : AuthSent) (meaning : Meaning) (entries : List Entry) (view : ike.InputView) (old : Machine) (table : Database) (stepped : Stepped) (new : Machine) (new_table : Database) (was is : Association)
      → IsSoundTable table → IsSoundMachine old table → ike.Steps meaning entries view old table stepped new new_table
      → association_of serial old.held.associations ≡ Some was → association_of serial new.held.associations ≡ Some is → How meaning entries view old table new.held new_table was is → IsToldOf told was → IsToldOf told is
  told_on serial told meaning entries view old table stepped new new_table was is sound_table sound steps stood there how held =
      let keyed : keys_of_serial serial old.held.associations ≡ Some told.keys = ap (λ (o : Option Association). option_and_then (λ a. keys_in a.phase) o) stood ∙ held.keyed in
      record {
        keyed = laws.records.keys meaning entries view old table stepped new new_table serial told.keys is sound_table sound steps keyed there;
        same = λ one waiting. elim (laws.waits meaning entries view old table stepped new new_table serial is one sound_table sound steps there waiting) [
          | inl before ↦ held.same one (ap (λ (a : Association). a.phase) (same_one was before.was (sym stood ∙ before.stood)) ∙ before.waited)
          | inr asks ↦ absurd (none_some told.keys (sym ((laws.traced meaning entries view old table stepped new new_table sound_table sound steps).keyed serial asks.keyed).none ∙ keyed))
        ];
      }

  abbrev IsOpenedAs : HalfOpen → Association → Type 0
  IsOpenedAs opened a = (one : HalfOpen) → a.phase ≡ phase.HalfOpen one → one ≡ opened

  -- ---- who becomes established proved itself by what came

  record ProvesNow (h : Happening C) (was : Association) : Type 0 where
    pub view : ike.InputView
    pub came : for_ike h.event.input ≡ Some view
    pub by : ProvedBy (meaning_of (gateway_at h.event.end h.before).caller) (gateway_at h.event.end h.before).entries view (gateway_at h.event.end h.before).machine was

  proves_now : (h : Happening C) (t : TakesEvent meaning_of h.event h.before h.said h.after) (serial : ℕ) (was is : Association) (keys : KeyRecord) → association_in (gateway_at h.event.end h.before) serial ≡ Some was
      → association_in t.gateway serial ≡ Some is → is.phase ≡ phase.Established keys → (was.phase ≡ phase.Established keys → ⊥) → ProvesNow h was
  proves_now h t serial was is keys stood there established not_yet =
      let state = gateway_at h.event.end h.before in
      let meaning = meaning_of state.caller in
      elim (way_of meaning h.event.input state h.said t.trace t.gateway t.traces.does) [
        | inl w ↦
            let known = laws.proved meaning state.entries w.view state.machine state.table w.stepped t.gateway.machine t.gateway.table serial is keys t.sound.machine w.steps there established in
            let one = same_one was known.was (sym stood ∙ known.stood) in
            elim known.known [
              | inl already ↦ absurd (not_yet (ap (λ (a : Association). a.phase) one ∙ already))
              | inr proof ↦ record { view = w.view; came = w.is; by = subst (λ (a : Association). ProvedBy meaning state.entries w.view state.machine a) (sym one) proof }
            ]
        | inr still ↦ absurd (not_yet (ap (λ (a : Association). a.phase) (same_one was is (sym stood ∙ ap (λ (m : Machine). association_of serial m.held.associations) (sym still.machine) ∙ there)) ∙ established))
      ]

  -- ---- the keys of a responder have the nonce of the request

  pub nonce_of_responder : (cipher : Cipher) (group : ℕ) (public_value : Octets → Octets) (shared_secret : Octets → Octets → Option Octets) (own other : Introduction) (keys : KeyRecord)
      → ComesToKeysAsResponder cipher group public_value shared_secret own other keys → keys.nonce_i ≡ other.nonce
  nonce_of_responder cipher group public_value shared_secret own other keys r =
      let kept : Some r.admits.agreed.record ≡ Some keys = sym (ap (λ (a : Association). keys_in a.phase) r.admits.content) ∙ r.keyed in
      let record_is : r.admits.agreed.record ≡ keys = cc in
      ap (λ (k : KeyRecord). k.nonce_i) (sym record_is ∙ r.admits.answer.keys) ∙ ap (λ (x : Introduction). x.nonce) (sym r.other_is)

  -- and its own
  pub own_nonce_of_responder : (cipher : Cipher) (group : ℕ) (public_value : Octets → Octets) (shared_secret : Octets → Octets → Option Octets) (own other : Introduction) (keys : KeyRecord)
      → ComesToKeysAsResponder cipher group public_value shared_secret own other keys → keys.nonce_r ≡ own.nonce
  own_nonce_of_responder cipher group public_value shared_secret own other keys r =
      let kept : Some r.admits.agreed.record ≡ Some keys = sym (ap (λ (a : Association). keys_in a.phase) r.admits.content) ∙ r.keyed in
      let record_is : r.admits.agreed.record ≡ keys = cc in
      ap (λ (k : KeyRecord). k.nonce_r) (sym record_is ∙ r.admits.answer.keys) ∙ ap (λ (x : Introduction). x.nonce) (sym r.own_is)

  -- ---- over a history that begins with new gateways

  module _ (public_value : Octets → Octets) (shares : (caller : C) → (meaning_of caller).public_value ≡ public_value) (hs : List (Happening C)) (old new : WorldState C) (trail : IsWorldTrail meaning_of old hs new)
      (begins : (end : End) → HoldsNothing (gateway_at end old)) (unforged : NoProofIsForged meaning_of hs) where
    abbrev step_of : (place : ℕ) (h : Happening C) → slice_get hs place ≡ Some h → TakesEvent meaning_of h.event h.before h.said h.after
    step_of = step_at laws.records meaning_of public_value shares hs old new trail

    -- an end asked by IKE_AUTH at an earlier place, with this request of IKE_SA_INIT before it
    record Asked (end : End) (before serial : ℕ) (request : Octets) (told : AuthSent) : Type 0 where
      pub place : ℕ
      pub earlier : place < before
      pub h : Happening C
      pub there : slice_get hs place ≡ Some h
      pub response : Octets
      pub reads : ReadsResponse h end serial response
      pub tells : reads.is.phase ≡ phase.AuthSent told
      pub asked : ℕ
      pub asks : Happening C
      pub asks_there : slice_get hs asked ≡ Some asks
      pub first : asked < place
      pub sends : SendsRequest asks end serial request

    abbrev asked_by : (end : End) (before place : ℕ) (h : Happening C) (octets : Octets) → place < before → slice_get hs place ≡ Some h → (i : ProvesAsInitiator hs place h end octets) → Asked end before i.serial i.request i.told
    asked_by end before place h octets earlier there i = record {
      place = place;
      earlier = earlier;
      h = h;
      there = there;
      response = i.response;
      reads = i.reads;
      tells = i.tells;
      asked = i.asked;
      asks = i.asks;
      asks_there = i.asks_there;
      first = i.earlier;
      sends = i.sends;
    }

    tells_of : (end : End) (before serial : ℕ) (request : Octets) (told : AuthSent) (k : Asked end before serial request told) → TellsOffer laws.records meaning_of request public_value k.sends.association k.sends.sent
    tells_of end before serial request told k = request_tells laws.records meaning_of public_value shares k.asks (step_of k.asked k.asks k.asks_there) end serial request k.sends

    -- it read the response that it holds, and its keys have the nonce that its request told
    record HoldsAsRead (end : End) (before serial : ℕ) (request : Octets) (told : AuthSent) (k : Asked end before serial request told) : Type 0 where
      pub first : told.first ≡ k.response
      pub nonce : told.keys.nonce_i ≡ k.sends.sent.nonce

    input_view : (given : Input) (from octets : Octets) (fresh : Fresh) (view : ike.InputView) → given ≡ input.Ike from octets fresh → for_ike given ≡ Some view → view ≡ ike.Message from octets fresh
    input_view given from octets fresh view is viewed = same_one view (ike.Message from octets fresh) (sym viewed ∙ ap for_ike is)

    holds_as_read : (end : End) (before serial : ℕ) (request : Octets) (told : AuthSent) (k : Asked end before serial request told) → HoldsAsRead end before serial request told k
    holds_as_read end before serial request told k =
        let h = k.h in
        let r = k.reads in
        let t = step_of k.place h k.there in
        let state = gateway_at h.event.end h.before in
        let meaning = meaning_of state.caller in
        let stood : association_in state serial ≡ Some r.was = ap (λ (e : End). association_in (gateway_at e h.before) serial) r.at ∙ r.stood in
        let there : association_in t.gateway serial ≡ Some r.is = ap (λ (s : State C). association_in s serial) (sym (subst (λ (e : End). gateway_at e h.after ≡ t.gateway) r.at (after_here meaning_of h t))) ∙ r.there in
        let held = held_on laws.records meaning_of public_value shares hs old new trail k.asked k.place k.asks h k.asks_there k.there k.first end serial request k.response k.sends r in
        elim (way_of meaning h.event.input state h.said t.trace t.gateway t.traces.does) [
          | inl w ↦ elim (laws.records.steps.came meaning state.entries w.view state.machine state.table w.stepped t.gateway.machine t.gateway.table serial r.is t.sound.machine w.steps there) [
            | inl was ↦
                let one = same_one was.was r.was (sym was.stood ∙ stood) in
                let now = laws.read meaning state.entries w.view state.machine state.table w.stepped t.gateway.machine t.gateway.table was.was r.is r.sent told was.how (ap (λ (a : Association). a.phase) one ∙ r.waited) k.tells in
                record {
                  first = same_first now.from told.first r.from k.response now.fresh r.fresh (sym now.came ∙ input_view h.event.input r.from k.response r.fresh w.view r.came w.is);
                  nonce = now.nonce ∙ ap (λ (o : Offered). o.nonce) held;
                }
            | inr came ↦
                let given = given_before laws.records.steps state.machine state.table t.sound.machine serial r.was stood in
                absurd (let next = came.next in omega (arith, given, next))
          ]
          | inr still ↦
              let one = same_one r.was r.is (sym stood ∙ ap (λ (m : Machine). association_of serial m.held.associations) (sym still.machine) ∙ there) in
              absurd (let no = sym r.waited ∙ ap (λ (a : Association). a.phase) one ∙ k.tells in cc)
        ]

    -- what it held then it holds as long as it waits
    told_still : (end : End) (before serial : ℕ) (request : Octets) (told : AuthSent) (k : Asked end before serial request told) (later : ℕ) (g : Happening C) → slice_get hs later ≡ Some g → k.place < later
        → (a : Association) (one : AuthSent) → association_in (gateway_at end g.before) serial ≡ Some a → a.phase ≡ phase.AuthSent one → one ≡ told
    told_still end before serial request told k later g g_there less a one there waits =
        let h = k.h in
        let t = step_of k.place h k.there in
        let here : gateway_at end h.after ≡ t.gateway = subst (λ (e : End). gateway_at e h.after ≡ t.gateway) k.reads.at (after_here meaning_of h t) in
        let way = between meaning_of hs old new trail k.place later h g less k.there g_there in
        let given : serial < (gateway_at end h.after).machine.held.next = given_there laws.records meaning_of h t end serial k.reads.is k.reads.at k.reads.there in
        let kept = kept_along laws.records.steps meaning_of serial (IsToldOf told)
        (λ meaning entries view from table stepped after new_table was is sound_table sound steps stood stands how. told_on serial told meaning entries view from table stepped after new_table was is sound_table sound steps stood stands how)
        end way.happenings h.after g.before way.trail (record {
          given = given;
          each = λ b stands.
              let same = same_one b k.reads.is (sym stands ∙ k.reads.there) in
              record {
                keyed = ap keys_in (ap (λ (x : Association). x.phase) same ∙ k.tells);
                same = λ other waiting. same_told other told (sym waiting ∙ ap (λ (x : Association). x.phase) same ∙ k.tells);
              };
        }) in
        (kept.each a there).same one waits

    -- ---- the response that it read is one by which the other end proved itself

    record Responded (end : End) (before : ℕ) (first nonce : Octets) : Type 0 where
      pub by : ℕ
      pub earlier : by < before
      pub prover : Happening C
      pub there : slice_get hs by ≡ Some prover
      pub octets : Octets
      pub proves : ProvesAsResponder hs by prover end octets
      pub first_is : first ≡ proves.response
      pub nonce_is : nonce ≡ proves.opened.keys.nonce_i

    abbrev made_by : (end : End) (by : ℕ) (prover : Happening C) (octets : Octets) (pr : ProvesAsResponder hs by prover end octets)
        → MadeAt laws.records meaning_of pr.replies (step_of pr.answered pr.replies pr.replies_there) pr.request pr.response pr.answers.fresh pr.answers.association
    made_by end by prover octets pr = made_of laws.records meaning_of public_value shares pr.replies (step_of pr.answered pr.replies pr.replies_there) end pr.serial pr.request pr.response pr.answers

    responded : (end : End) (before : ℕ) (told : AuthSent) (peer : Identity) → IsReadResponse told → HasProved hs before end (octets_to_prove (proving_of Responder told.keys told.first) peer)
        → Responded end before told.first told.keys.nonce_i
    responded end before told peer read p = elim p.proves [
      | inl i ↦
          let k = asked_by end before p.by p.prover (octets_to_prove (proving_of Responder told.keys told.first) peer) p.earlier p.there i in
          let tells = tells_of end before i.serial i.request i.told k in
          let own = (gateway_at end p.prover.before).machine.config.own.identity in
          let same = laws.parts read.message tells.says.message told.first told.keys.nonce_i told.keys.sk_pr (rest_of_id peer.kind peer.data) i.request i.told.keys.nonce_r i.told.keys.sk_pi (rest_of_id own.kind own.data) read.spelled tells.says.spelled i.proved in
          absurd (response_not read.message tells.says.message
          (laws.one_message read.message tells.says.message i.request (subst (λ (o : Octets). Spells read.message o) same.firsts read.spelled) tells.says.spelled) read.response tells.asks)
      | inr pr ↦
          let made = made_by end p.by p.prover (octets_to_prove (proving_of Responder told.keys told.first) peer) pr in
          let own = (gateway_at end p.prover.before).machine.config.own.identity in
          let same = laws.parts read.message made.says.message told.first told.keys.nonce_i told.keys.sk_pr (rest_of_id peer.kind peer.data) pr.response pr.opened.keys.nonce_i pr.opened.keys.sk_pr (rest_of_id own.kind own.data) read.spelled made.says.spelled pr.proved in
          record {
            by = p.by;
            earlier = p.earlier;
            prover = p.prover;
            there = p.there;
            octets = octets_to_prove (proving_of Responder told.keys told.first) peer;
            proves = pr;
            first_is = same.firsts;
            nonce_is = same.nonces;
          }
    ]

    -- ---- and that end had checked who asked it

    -- what is half-open there is what the request made
    opened_still : (end : End) (by : ℕ) (prover : Happening C) (octets : Octets) (pr : ProvesAsResponder hs by prover end octets) → slice_get hs by ≡ Some prover → pr.opened ≡ (made_by end by prover octets pr).opened
    opened_still end by prover octets pr there =
        let made = made_by end by prover octets pr in
        let t = step_of pr.answered pr.replies pr.replies_there in
        let way = between meaning_of hs old new trail pr.answered by pr.replies prover pr.earlier pr.replies_there there in
        let kept = kept_along laws.records.steps meaning_of pr.serial (IsOpenedAs made.opened)
        (λ meaning entries view from table stepped after new_table was is sound_table sound steps stood stands how held one waits. held one (laws.half meaning entries view from table stepped after new_table was is one how waits))
        end way.happenings pr.replies.after prover.before way.trail (record {
          given = given_there laws.records meaning_of pr.replies t end pr.serial pr.answers.association pr.answers.at pr.answers.there;
          each = λ b stands one waits.
              let same = same_one b pr.answers.association (sym stands ∙ pr.answers.there) in
              same_opened one made.opened (sym waits ∙ ap (λ (x : Association). x.phase) same ∙ made.opens);
        }) in
        kept.each pr.was pr.stood pr.opened pr.waited

    record AskedBy (end : End) (before : ℕ) (opened : HalfOpen) (peer : Identity) : Type 0 where
      pub serial : ℕ
      pub request : Octets
      pub told : AuthSent
      pub asked : Asked end before serial request told
      pub request_is : opened.request ≡ request
      pub macs : mac_of told.keys (gateway_at end asked.h.before).machine.config.own.identity ≡ mac_of opened.keys peer

    asked_of : (end : End) (by : ℕ) (prover : Happening C) (serial : ℕ) (keys : KeyRecord) (c : IsEstablishedAsResponder prover end serial keys) → slice_get hs by ≡ Some prover → AskedBy (other_end end) by c.opened (gateway_at end prover.before).machine.config.peer.identity
    asked_of end by prover serial keys c there =
        let t = step_of by prover there in
        let e = prover.event.end in
        let asker = other_end end in
        let state = gateway_at e prover.before in
        let stood : association_in state serial ≡ Some c.was = ap (λ (x : End). association_in (gateway_at x prover.before) serial) c.at ∙ c.stood in
        let here : gateway_at end prover.after ≡ t.gateway = subst (λ (x : End). gateway_at x prover.after ≡ t.gateway) c.at (after_here meaning_of prover t) in
        let stands : association_in t.gateway serial ≡ Some c.is = ap (λ (s : State C). association_in s serial) (sym here) ∙ c.there in
        let now = proves_now prover t serial c.was c.is keys stood stands c.established (λ no. let not_so = sym c.waited ∙ no in cc) in
        let peer = state.machine.config.peer.identity in
        let opened = c.opened in
        let octets_so = octets_to_prove (proving_of Initiator opened.keys opened.request) peer in
        let asked_for = (laws.records.steps.sound_at state.machine state.table serial c.was t.sound.machine stood).asked opened c.waited in
        let asks : asked_for.message.header.flags.response ≡ false = no_response_by (asked_for.message.header.spi_r == 0) asked_for.message.header.flags.response (asked_for.message.header.exchange == IKE_SA_INIT) asked_for.initial in
        let p : HasProved hs by asker octets_so = subst (λ (x : End). HasProved hs by (other_end x) octets_so) c.at
        (unforged.each by serial prover c.was c.is keys now.view octets_so there stood now.came now.by (subst (λ (x : Phase). IsToBeProved x peer octets_so) (sym c.waited) refl)
        (ap (λ (x : End). association_in (gateway_at x prover.after) serial) c.at ∙ c.there) c.established) in
        elim p.proves [
          | inl i ↦
              let k = asked_by asker by p.by p.prover octets_so p.earlier p.there i in
              let tells = tells_of asker by i.serial i.request i.told k in
              let own = (gateway_at asker p.prover.before).machine.config.own.identity in
              let same = laws.parts asked_for.message tells.says.message opened.request opened.keys.nonce_r opened.keys.sk_pi (rest_of_id peer.kind peer.data) i.request i.told.keys.nonce_r i.told.keys.sk_pi (rest_of_id own.kind own.data) asked_for.spelled tells.says.spelled i.proved in
              record {
                serial = i.serial;
                request = i.request;
                told = i.told;
                asked = k;
                request_is = same.firsts;
                macs = sym same.macs ∙ ap (λ (x : End). mac_of opened.keys (gateway_at x prover.before).machine.config.peer.identity) c.at;
              }
          | inr q ↦
              let made = made_by asker p.by p.prover octets_so q in
              let own = (gateway_at asker p.prover.before).machine.config.own.identity in
              let same = laws.parts asked_for.message made.says.message opened.request opened.keys.nonce_r opened.keys.sk_pi (rest_of_id peer.kind peer.data) q.response q.opened.keys.nonce_i q.opened.keys.sk_pr (rest_of_id own.kind own.data) asked_for.spelled made.says.spelled q.proved in
              absurd (response_not made.says.message asked_for.message
              (sym (laws.one_message asked_for.message made.says.message q.response (subst (λ (o : Octets). Spells asked_for.message o) same.firsts asked_for.spelled) made.says.spelled)) made.responds asks)
        ]

    -- ---- the partner of a responder

    module _ (place : ℕ) (h : Happening C) (there : slice_get hs place ≡ Some h) (end : End) (serial : ℕ) (keys : KeyRecord) (c : IsEstablishedAsResponder h end serial keys) where
      -- it is established under the keys that it had half-open
      opened_under : c.opened.keys ≡ keys
      opened_under =
          let t = step_of place h there in
          let state = gateway_at h.event.end h.before in
          let meaning = meaning_of state.caller in
          let stood : association_in state serial ≡ Some c.was = ap (λ (x : End). association_in (gateway_at x h.before) serial) c.at ∙ c.stood in
          let here : gateway_at end h.after ≡ t.gateway = subst (λ (x : End). gateway_at x h.after ≡ t.gateway) c.at (after_here meaning_of h t) in
          let stands : association_in t.gateway serial ≡ Some c.is = ap (λ (s : State C). association_in s serial) (sym here) ∙ c.there in
          elim (way_of meaning h.event.input state h.said t.trace t.gateway t.traces.does) [
            | inl w ↦
                let keyed : keys_of_serial serial state.machine.held.associations ≡ Some c.opened.keys =
                ap (λ (o : Option Association). option_and_then (λ a. keys_in a.phase) o) stood ∙ ap keys_in c.waited in
                let kept = laws.records.keys meaning state.entries w.view state.machine state.table w.stepped t.gateway.machine t.gateway.table serial c.opened.keys c.is t.sound.table t.sound.machine w.steps keyed stands in
                same_one c.opened.keys keys (sym kept ∙ ap keys_in c.established)
            | inr still ↦
                let one = same_one c.was c.is (sym stood ∙ ap (λ (m : Machine). association_of serial m.held.associations) (sym still.machine) ∙ stands) in
                absurd (let no = sym c.waited ∙ ap (λ (a : Association). a.phase) one ∙ c.established in cc)
          ]

      pub has_asker : NoTwoRecordsProveAlike hs → HasAsker hs place end c.opened keys
      has_asker alike =
          let a = asked_of end place h serial keys c there in
          let k = a.asked in
          let same : a.told.keys ≡ c.opened.keys =
          alike.each k.place place k.h h (other_end end) end a.serial serial a.told.keys c.opened.keys k.there there
          (record { association = k.reads.is; there = k.reads.there; keyed = ap keys_in k.tells })
          (record { association = c.was; there = c.stood; keyed = ap keys_in c.waited }) a.macs in
          record {
            partner = a.serial;
            asked = k.asked;
            asks = k.asks;
            asks_there = k.asks_there;
            sends = subst (λ (o : Octets). SendsRequest k.asks (other_end end) a.serial o) (sym a.request_is) k.sends;
            by = k.place;
            earlier = k.earlier;
            first = k.first;
            reader = k.h;
            reader_there = k.there;
            response = k.response;
            reads = k.reads;
            told = a.told;
            tells = k.tells;
            same_keys = same ∙ opened_under;
          }

    -- ---- the partner of an initiator

    module _ (apart : EachNonceIsOfOne hs)
        (agree : (caller answerer : C) (initiator responder : Introduction) (one other : KeyRecord) → ComesToKeysAsInitiator (asker_of (meaning_of caller)) initiator responder one
        → ComesToKeysAsResponder (meaning_of answerer).cipher (meaning_of answerer).group (meaning_of answerer).public_value (meaning_of answerer).shared_secret responder initiator other → one ≡ other) where
      module _ (place : ℕ) (h : Happening C) (there : slice_get hs place ≡ Some h) (serial : ℕ) (keys : KeyRecord) (c : IsEstablishedAsInitiator h h.event.end serial keys) where
        abbrev end : End
        end = h.event.end

        abbrev here : TakesEvent meaning_of h.event h.before h.said h.after
        here = step_of place h there

        stands : association_in here.gateway serial ≡ Some c.is
        stands = ap (λ (s : State C). association_in s serial) (sym (after_here meaning_of h here)) ∙ c.there

        keys_are : c.told.keys ≡ keys
        keys_are =
            let state = gateway_at end h.before in
            let meaning = meaning_of state.caller in
            elim (way_of meaning h.event.input state h.said here.trace here.gateway here.traces.does) [
              | inl w ↦
                  let keyed : keys_of_serial serial state.machine.held.associations ≡ Some c.told.keys =
                  ap (λ (o : Option Association). option_and_then (λ a. keys_in a.phase) o) c.stood ∙ ap keys_in c.waited in
                  let kept = laws.records.keys meaning state.entries w.view state.machine state.table w.stepped here.gateway.machine here.gateway.table serial c.told.keys c.is here.sound.table here.sound.machine w.steps keyed stands in
                  same_one c.told.keys keys (sym kept ∙ ap keys_in c.established)
              | inr still ↦
                  let one = same_one c.was c.is (sym c.stood ∙ ap (λ (m : Machine). association_of serial m.held.associations) (sym still.machine) ∙ stands) in
                  absurd (let no = sym c.waited ∙ ap (λ (a : Association). a.phase) one ∙ c.established in cc)
            ]

        read : IsReadResponse c.told
        read = read_along end (ahead meaning_of hs old new trail place h there).happenings old h.before (ahead meaning_of hs old new trail place h there).trail (none_read (gateway_at end old) (begins end)) serial c.was c.stood c.told c.waited

        responds : Responded (other_end end) place c.told.first c.told.keys.nonce_i
        responds =
            let now = proves_now h here serial c.was c.is keys c.stood stands c.established (λ no. let not_so = sym c.waited ∙ no in cc) in
            let peer = (gateway_at end h.before).machine.config.peer.identity in
            let octets = octets_to_prove (proving_of Responder c.told.keys c.told.first) peer in
            responded (other_end end) place c.told peer read
            (unforged.each place serial h c.was c.is keys now.view octets there c.stood now.came now.by (subst (λ (x : Phase). IsToBeProved x peer octets) (sym c.waited) refl) c.there c.established)

        abbrev pr : ProvesAsResponder hs responds.by responds.prover (other_end end) responds.octets
        pr = responds.proves

        abbrev made : MadeAt laws.records meaning_of pr.replies (step_of pr.answered pr.replies pr.replies_there) pr.request pr.response pr.answers.fresh pr.answers.association
        made = made_by (other_end end) responds.by responds.prover responds.octets pr

        opened_is : pr.opened ≡ made.opened
        opened_is = opened_still (other_end end) responds.by responds.prover responds.octets pr responds.there

        asker : AskedBy end responds.by pr.opened (gateway_at (other_end end) responds.prover.before).machine.config.peer.identity
        asker = subst (λ (e : End). AskedBy e responds.by pr.opened (gateway_at (other_end end) responds.prover.before).machine.config.peer.identity) (other_twice end) (asked_of (other_end end) responds.by responds.prover pr.serial pr.opened.keys (record {
          at = pr.at;
          was = pr.was;
          stood = pr.stood;
          opened = pr.opened;
          waited = pr.waited;
          is = pr.is;
          there = pr.there;
          established = pr.established;
        }) responds.there)

        abbrev was_read : HoldsAsRead end responds.by asker.serial asker.request asker.told asker.asked
        was_read = holds_as_read end responds.by asker.serial asker.request asker.told asker.asked

        -- the responder's keys have the nonce of the asker's request
        nonces : asker.told.keys.nonce_i ≡ c.told.keys.nonce_i
        nonces =
            let k = asker.asked in
            let tells = tells_of end responds.by asker.serial asker.request asker.told k in
            let who = introduced public_value k.sends.association.spi_i k.sends.sent.secret k.sends.sent.nonce in
            let same : asker.request ≡ pr.request = sym asker.request_is ∙ ap (λ (o : HalfOpen). o.request) opened_is ∙ made.request_is in
            let comes = made.comes pr.answers.secret who (subst (λ (o : Octets). SaysOfSender (λ (x : Header). x.spi_i) o who) same tells.says) in
            let answerer = meaning_of (gateway_at pr.replies.event.end pr.replies.before).caller in
            let theirs = nonce_of_responder answerer.cipher answerer.group answerer.public_value answerer.shared_secret (introduced answerer.public_value pr.answers.fresh.spi pr.answers.fresh.secret pr.answers.fresh.nonce) who made.opened.keys comes in
            was_read.nonce ∙ sym theirs ∙ ap (λ (o : HalfOpen). o.keys.nonce_i) (sym opened_is) ∙ sym responds.nonce_is

        serials : asker.serial ≡ serial
        serials =
            let k = asker.asked in
            apart.each k.place place k.h h end asker.serial serial c.told.keys.nonce_i k.there there
            (record { association = k.reads.is; there = k.reads.there; told = asker.told; tells = k.tells; is = nonces })
            (record { association = c.was; there = c.stood; told = c.told; tells = c.waited; is = refl })

        own : Asked end responds.by serial asker.request asker.told
        own = subst (λ (n : ℕ). Asked end responds.by n asker.request asker.told) serials asker.asked

        own_read : HoldsAsRead end responds.by serial asker.request asker.told own
        own_read = holds_as_read end responds.by serial asker.request asker.told own

        told_is : c.told ≡ asker.told
        told_is =
            let one = own.earlier in
            let two = responds.earlier in
            told_still end responds.by serial asker.request asker.told own place h there (omega (arith, one, two)) c.was c.told c.stood c.waited

        response_is : own.response ≡ pr.response
        response_is = sym own_read.first ∙ ap (λ (x : AuthSent). x.first) (sym told_is) ∙ responds.first_is

        request_is : asker.request ≡ pr.request
        request_is = sym asker.request_is ∙ ap (λ (o : HalfOpen). o.request) opened_is ∙ made.request_is

        exchanged : HaveExchanged hs end serial pr.serial
        exchanged = record {
          request = pr.request;
          response = pr.response;
          asked = own.asked;
          asks = own.asks;
          asks_there = own.asks_there;
          sends = subst (λ (o : Octets). SendsRequest own.asks end serial o) request_is own.sends;
          answered = pr.answered;
          replies = pr.replies;
          replies_there = pr.replies_there;
          answers = pr.answers;
          taken = own.place;
          takes = own.h;
          takes_there = own.there;
          reads = subst (λ (o : Octets). ReadsResponse own.h end serial o) response_is own.reads;
          later = own.first;
        }

        -- the keys that were read are those of the phase
        reads_are : (o : Octets) (same : own.response ≡ o) → (subst (λ (x : Octets). ReadsResponse own.h end serial x) same own.reads).keys ≡ asker.told.keys
        reads_are o same = same_one _ asker.told.keys (sym (subst (λ (x : Octets). ReadsResponse own.h end serial x) same own.reads).keyed ∙ ap keys_in (phase_of o same)) where
          phase_of : (o : Octets) (same : own.response ≡ o) → (subst (λ (x : Octets). ReadsResponse own.h end serial x) same own.reads).is.phase ≡ phase.AuthSent asker.told
          phase_of o same =
              let r = subst (λ (x : Octets). ReadsResponse own.h end serial x) same own.reads in
              ap (λ (a : Association). a.phase) (same_one r.is own.reads.is (sym r.there ∙ own.reads.there)) ∙ own.tells

        pub has_partner : HasPartner hs place end serial keys
        unfolding exchanged
        has_partner =
            let agreed = keys_agree laws.records meaning_of public_value shares hs old new trail agree end serial pr.serial (introduced_by laws.records meaning_of public_value shares hs old new trail end serial pr.serial exchanged) in
            let mine = reads_are pr.response response_is ∙ ap (λ (x : AuthSent). x.keys) (sym told_is) ∙ keys_are in
            let one : pr.opened.keys ≡ keys = ap (λ (o : HalfOpen). o.keys) opened_is ∙ sym agreed ∙ mine in
            record {
              partner = pr.serial;
              exchanged = exchanged;
              by = responds.by;
              earlier = responds.earlier;
              after_it = own.earlier;
              read = mine;
              accepts = responds.prover;
              accepts_there = responds.there;
              at = pr.at;
              was = pr.was;
              stood = pr.stood;
              opened = pr.opened;
              half_open = pr.waited;
              association = pr.is;
              there = pr.there;
              established = pr.established ∙ ap phase.Established one;
            }

      -- the same of whichever end it took place at
      pub partner_of : (place : ℕ) (h : Happening C) → slice_get hs place ≡ Some h → (serial : ℕ) (which : End) (keys : KeyRecord) → IsEstablishedAsInitiator h which serial keys → HasPartner hs place which serial keys
      partner_of place h there serial which keys c =
          subst (λ (e : End). HasPartner hs place e serial keys) c.at (has_partner place h there serial keys (subst (λ (e : End). IsEstablishedAsInitiator h e serial keys) (sym c.at) c))
