-- Both ends hold one record, where each came to its keys by what the other sent.
use Rattle.std.proofs.Common.{◌≡◌, ◌⊎◌, ◌<◌, ◌∷◌, inl, inr, ℕ, Bool, true, false, List, [], Option, Some, None, length, slice_get, refl, sym, ap, subst, ◌∙◌, arith}
use Rattle.std.specs.Prelude.{option_and_then}
use Rattle.base.specs.Octets.{Octets}
use Rattle.wire.specs.declared.message.Header.{Header}
use Rattle.policy.specs.declared.entry.Entry.{Entry}
use Rattle.suite.specs.Callers.{IsSecret}
use Rattle.suite.specs.declared.fresh.Fresh.{Fresh}
use Rattle.suite.specs.declared.key_record.KeyRecord.{KeyRecord}
use Rattle.sa_init.specs.Judging.{OfferView}
use Rattle.sadb.specs.Database.{Database, IsSoundTable}
use Rattle.association.specs.Admitting.{Admits}
use Rattle.association.specs.Phases.{keys_in}
use Rattle.association.specs.declared.admitting.Admitted.{Admitted}
use Rattle.association.specs.declared.phase.Association.{Association}
use Rattle.association.specs.declared.phase.HalfOpen.{HalfOpen}
use Rattle.association.specs.declared.phase.InitSent.{InitSent}
use Rattle.association.specs.declared.phase.Phase.TheVariants as phase
use Rattle.effects.specs.Taking.{asker_of, Meaning}
use Rattle.ike.specs.Before.{ByMessage, ByOrder, ByTick, CameNow, How, IsFirstRequest, Same}
use Rattle.ike.specs.LawsOfBefore.{WhoWaitsKeepsItsOffer}
use Rattle.ike.specs.LawsOfOutputs.{KeysStay}
use Rattle.ike.specs.LawsOfRecords.{FirstAnswersIntroduceTheirSenders, FirstRequestsIntroduceTheirSenders, KeysComeToTheInitiator, KeysComeToTheResponder, OctetsIntroduceOneSender}
use Rattle.ike.specs.LawsOfSoundness.{SoundnessStays}
use Rattle.ike.specs.Orders as orders
use Rattle.ike.specs.Machines.{association_of, Machine}
use Rattle.ike.specs.Soundness.{IsSoundMachine}
use Rattle.ike.specs.Steps as ike
use Rattle.ike.specs.declared.output.IkeOutput.{IkeOutput}
use Rattle.ike.specs.declared.output.IkeOutput.TheVariants as made
use Rattle.ike.specs.declared.output.Stepped.{Stepped}
use Rattle.ike.specs.declared.output.Trace.{Trace}
use Rattle.gateway.specs.Inputs.{Input}
use Rattle.gateway.specs.Inputs as input
use Rattle.gateway.specs.Outputs as said
use Rattle.gateway.specs.Outputs.{view_of_ike, view_of_outcome, OutputView}
use Rattle.traffic.specs.Outcomes.{Outcome}
use Rattle.traffic.specs.Outcomes as traffic
use Rattle.gateway.specs.States.{association_in, State}
use Rattle.gateway.specs.Steps.{DoesInput, StepsIke}
use Rattle.gateway.specs.WorldHistories.{Happening, IsWorldTrail}
use Rattle.gateway.specs.Worlds.{gateway_at, other_end, TakesEvent, WorldState}
use Rattle.gateway.specs.declared.world.stored.End.{End}
use Rattle.gateway.proofs.ChildLemmas.{way_of}
use Rattle.ike.specs.Records.{introduced, ComesToKeysAsInitiator, ComesToKeysAsResponder, Introduces, Introduction, SaysOfSender}
use Rattle.gateway.specs.Exchanges.{AnswersRequest, HaveExchanged, HaveIntroduced, HoldsWith, ReadsResponse, SendsRequest}
use Rattle.gateway.proofs.BeforeLemmas.{given_before, none_some, same_one, step_previous, StepLaws}
use Rattle.gateway.proofs.AlongLemmas.{after_here, behind, between, each_step, kept_along}

-- what is known beside one step
pub record RecordLaws : Type 0 where
  pub steps : StepLaws
  pub sound : SoundnessStays
  pub keys : KeysStay
  pub request : FirstRequestsIntroduceTheirSenders
  pub answer : FirstAnswersIntroduceTheirSenders
  pub one_sender : OctetsIntroduceOneSender
  pub initiator : KeysComeToTheInitiator
  pub responder : KeysComeToTheResponder
  pub waits : WhoWaitsKeepsItsOffer

-- ---- what an initiator holds of itself

pub record Offered : Type 0 where
  pub spi : ℕ
  pub secret : Octets
  pub nonce : Octets

abbrev pub offered : Association → InitSent → Offered
offered a sent = record { spi = a.spi_i; secret = sent.secret; nonce = sent.nonce }

-- where it waits for the response, it holds this of itself
abbrev pub Offers : Offered → Association → Type 0
Offers what a = (sent : InitSent) → a.phase ≡ phase.InitSent sent → offered a sent ≡ what

offers_on : WhoWaitsKeepsItsOffer → (meaning : Meaning) (entries : List Entry) (view : ike.InputView) (old : Machine) (table : Database) (stepped : Stepped) (new : Machine) (new_table : Database) (what : Offered) (was is : Association)
    → How meaning entries view old table new.held new_table was is → Offers what was → Offers what is
offers_on keeps meaning entries view old table stepped new new_table what was is how offers sent waits =
    let it = keeps meaning entries view old table stepped new new_table was is sent how waits in
    (λ i. record { spi = it.spi_i i; secret = it.secret i; nonce = it.nonce i }) ∙ offers it.before it.waited

-- ---- what is said

said_request : (o : IkeOutput) (serial : ℕ) (octets : Octets) → view_of_ike o ≡ said.Request serial octets → o ≡ made.Request serial octets
said_request (made.Request other given) serial octets is = cc
said_request (made.Reply given closed) serial octets is = absurd cc
said_request (made.Repeat given) serial octets is = absurd cc
said_request (made.Counted other child closed) serial octets is = absurd cc
said_request (made.Ticked ticked) serial octets is = absurd cc
said_request made.Done serial octets is = absurd cc
said_request (made.Dropped why) serial octets is = absurd cc

said_reply : (octets given : Octets) → said.Reply octets None ≡ said.Reply given None → octets ≡ given
said_reply octets given is = cc

-- of two messages that are one
record SameMessage (octets given : Octets) (fresh drawn : Fresh) : Type 0 where
  octets_are : octets ≡ given
  fresh_is : fresh ≡ drawn

same_message : (from octets : Octets) (fresh : Fresh) (other given : Octets) (drawn : Fresh) → ike.Message from octets fresh ≡ ike.Message other given drawn → SameMessage octets given fresh drawn
same_message from octets fresh other given drawn is = record { octets_are = cc; fresh_is = cc }

-- a request is said by the machine of IKE alone
record SaidBy (meaning : Meaning) (entries : List Entry) (old : Machine) (table : Database) (s : OutputView) (new : Machine) (new_table : Database) : Type 0 where
  view : ike.InputView
  stepped : Stepped
  steps : ike.Steps meaning entries view old table stepped new new_table
  output : s ≡ view_of_ike stepped.output

outcome_not : (o : Outcome) (serial : ℕ) (octets : Octets) → view_of_outcome o ≡ said.Request serial octets → ⊥
outcome_not (traffic.Up child number packet) serial octets is = cc
outcome_not (traffic.Dummy child number) serial octets is = cc
outcome_not (traffic.Sealed child number given) serial octets is = cc
outcome_not (traffic.Clear packet) serial octets is = cc
outcome_not traffic.Discarded serial octets is = cc
outcome_not (traffic.Dropped why) serial octets is = cc

module _ (meaning : Meaning) (entries : List Entry) (old : Machine) (table : Database) (s : OutputView) (trace : Trace) (new : Machine) (new_table : Database) (serial : ℕ) (octets : Octets)
    (is : s ≡ said.Request serial octets) where
  said_by_ike : (view : ike.InputView) → StepsIke meaning entries view old table s trace new new_table → SaidBy meaning entries old table s new new_table
  said_by_ike view (inl answers) = record { view = view; stepped = answers.stepped; steps = answers.steps; output = answers.output }
  said_by_ike view (inr refuses) = absurd (let no = sym refuses.output ∙ is in cc)

  said_by : (given : Input) → DoesInput meaning entries given old table s trace new new_table → SaidBy meaning entries old table s new new_table
  said_by (input.Ike from given fresh) does = said_by_ike (ike.Message from given fresh) does
  said_by (input.Start asker place fresh) does = said_by_ike (ike.Start asker place fresh) does
  said_by (input.Probe asker fresh) does = said_by_ike (ike.Order (orders.Probe asker) fresh) does
  said_by (input.DeleteChild child fresh) does = said_by_ike (ike.Order (orders.DeleteChild child) fresh) does
  said_by (input.DeleteIke asker fresh) does = said_by_ike (ike.Order (orders.DeleteIke asker) fresh) does
  said_by (input.Secret secret) does = said_by_ike (ike.Secret secret) does
  said_by (input.Tick moment) does = said_by_ike (ike.Tick moment) does
  said_by (input.Esp given) does = absurd (outcome_not does.1.outcome serial octets (sym does.1.output ∙ is))
  said_by (input.Outward packet) does = elim does.1 [
    | inl sends ↦ absurd (outcome_not sends.outcome serial octets (sym sends.output ∙ is))
    | inr lacks ↦ absurd (let no = sym lacks.output ∙ is in cc)
  ]
  said_by (input.Inward packet) does = absurd (outcome_not does.1.outcome serial octets (sym does.1.output ∙ is))

-- a datagram came, and the machine of IKE stepped, or is as it was
record CameBy (meaning : Meaning) (entries : List Entry) (from octets : Octets) (fresh : Fresh) (old : Machine) (table : Database) (s : OutputView) (new : Machine) (new_table : Database) : Type 0 where
  stepped : Stepped
  steps : ike.Steps meaning entries (ike.Message from octets fresh) old table stepped new new_table
  output : s ≡ view_of_ike stepped.output

module _ {C : Type 0} (laws : RecordLaws) (meaning_of : C → Meaning) where
  module _ (h : Happening C) (t : TakesEvent meaning_of h.event h.before h.said h.after) where
    abbrev was : State C
    was = gateway_at h.event.end h.before

    abbrev meaning : Meaning
    meaning = meaning_of was.caller

    came_by : (from octets : Octets) (fresh : Fresh) → h.event.input ≡ input.Ike from octets fresh
        → CameBy meaning was.entries from octets fresh was.machine was.table h.said t.gateway.machine t.gateway.table ⊎ (t.gateway.machine ≡ was.machine)
    came_by from octets fresh came =
        let does : StepsIke meaning was.entries (ike.Message from octets fresh) was.machine was.table h.said t.trace t.gateway.machine t.gateway.table =
        subst (λ (i : Input). DoesInput meaning was.entries i was.machine was.table h.said t.trace t.gateway.machine t.gateway.table) came t.traces.does in
        elim does [
          | inl answers ↦ inl (record { stepped = answers.stepped; steps = answers.steps; output = answers.output })
          | inr refuses ↦ inr refuses.machine
        ]

    -- a serial that is held after the event was given by then
    given_by : (serial : ℕ) (a : Association) → association_in t.gateway serial ≡ Some a → serial < t.gateway.machine.held.next
    given_by serial a there = elim (way_of meaning h.event.input was h.said t.trace t.gateway t.traces.does) [
      | inl w ↦ given_before laws.steps t.gateway.machine t.gateway.table
          (laws.sound meaning was.entries w.view was.machine was.table w.stepped t.gateway.machine t.gateway.table t.sound.table t.sound.machine w.steps) serial a there
      | inr still ↦ given_before laws.steps t.gateway.machine was.table (subst (λ (m : Machine). IsSoundMachine m was.table) (sym still.machine) t.sound.machine) serial a there
    ]

    -- ---- this end sends its request

    pub requests : (serial : ℕ) (octets : Octets) → h.said ≡ said.Request serial octets → (a : Association) → association_in t.gateway serial ≡ Some a → (sent : InitSent) → a.phase ≡ phase.InitSent sent
        → IsFirstRequest meaning a.spi_i sent.secret sent.nonce octets
    requests serial octets is a there sent waits =
        let by = said_by meaning was.entries was.machine was.table h.said t.trace t.gateway.machine t.gateway.table serial octets is h.event.input t.traces.does in
        laws.steps.tells meaning was.entries by.view was.machine was.table by.stepped t.gateway.machine t.gateway.table serial octets a sent t.sound.machine by.steps
        (said_request by.stepped.output serial octets (sym by.output ∙ is)) there waits

    -- ---- this end's IKE SA waited, and has keys by a datagram

    pub record Placed (serial : ℕ) (before after : Association) : Type 0 where
      pub place : ℕ
      pub stood_at : slice_get was.machine.held.associations place ≡ Some before
      pub stands_at : slice_get t.gateway.machine.held.associations place ≡ Some after

    apart_not : (serial : ℕ) (before after : Association) (sent : InitSent) (keys : KeyRecord) → association_of serial was.machine.held.associations ≡ Some before → association_of serial t.gateway.machine.held.associations ≡ Some after
        → before.phase ≡ phase.InitSent sent → keys_in after.phase ≡ Some keys → association_of serial t.gateway.machine.held.associations ≡ association_of serial was.machine.held.associations → ⊥
    apart_not serial before after sent keys stood there waited keyed same =
        let one = same_one before after (sym stood ∙ sym same ∙ there) in
        let no : None ≡ Some keys = sym (ap keys_in waited) ∙ ap (λ (a : Association). keys_in a.phase) one ∙ keyed in
        none_some keys no

    placed_by : (view : ike.InputView) (serial : ℕ) (before after : Association) (sent : InitSent) (keys : KeyRecord) → before.phase ≡ phase.InitSent sent → keys_in after.phase ≡ Some keys
        → How meaning was.entries view was.machine was.table t.gateway.machine.held t.gateway.table before after → Placed serial before after
    placed_by view serial before after sent keys waited keyed (Same same) =
        let no : None ≡ Some keys = sym (ap keys_in waited) ∙ ap (λ (a : Association). keys_in a.phase) (sym same) ∙ keyed in
        absurd (none_some keys no)
    placed_by view serial before after sent keys waited keyed (ByMessage it) = record { place = it.place; stood_at = it.stood_at; stands_at = it.stands_at }
    placed_by view serial before after sent keys waited keyed (ByOrder held established phase_is spi) = absurd (let no = sym waited ∙ established in cc)
    placed_by view serial before after sent keys waited keyed (ByTick now on) = elim on.phase [
      | inl stays ↦ (let no : None ≡ Some keys = sym (ap keys_in waited) ∙ ap keys_in (sym stays.1) ∙ keyed in absurd (none_some keys no))
      | inr closes ↦ (let no : None ≡ Some keys = sym (ap keys_in waited) ∙ ap (λ (a : Association). keys_in a.phase) (sym closes.content) ∙ keyed in absurd (none_some keys no))
    ]

    pub placed : (view : ike.InputView) (stepped : Stepped) → ike.Steps meaning was.entries view was.machine was.table stepped t.gateway.machine t.gateway.table
        → (serial : ℕ) (before after : Association) (sent : InitSent) (keys : KeyRecord) → association_of serial was.machine.held.associations ≡ Some before → association_of serial t.gateway.machine.held.associations ≡ Some after
        → before.phase ≡ phase.InitSent sent → keys_in after.phase ≡ Some keys → Placed serial before after
    placed view stepped steps serial before after sent keys stood_there there waited keyed =
        let given = given_before laws.steps was.machine was.table t.sound.machine serial before stood_there in
        let it = step_previous laws.steps meaning was.entries view was.machine was.table stepped t.gateway.machine t.gateway.table t.sound.machine steps serial after given there in
        let same = same_one it.was before (sym it.stood ∙ stood_there) in
        placed_by view serial before after sent keys waited keyed
        (subst (λ (a : Association). How meaning was.entries view was.machine was.table t.gateway.machine.held t.gateway.table a after) same it.how)

    -- ---- this end's IKE SA was made by a datagram, and answered it

    pub record MadeAt (request response : Octets) (fresh : Fresh) (after : Association) : Type 0 where
      pub place : ℕ
      pub none_stood : slice_get was.machine.held.associations place ≡ None
      pub stands_at : slice_get t.gateway.machine.held.associations place ≡ Some after
      pub opened : HalfOpen
      pub opens : after.phase ≡ phase.HalfOpen opened
      pub request_is : opened.request ≡ request
      pub says : SaysOfSender (λ (x : Header). x.spi_r) response (introduced meaning.public_value fresh.spi fresh.secret fresh.nonce)
      pub responds : says.message.header.flags.response ≡ true
      pub comes : IsSecret fresh.secret → (other : Introduction) → SaysOfSender (λ (x : Header). x.spi_i) request other
          → ComesToKeysAsResponder meaning.cipher meaning.group meaning.public_value meaning.shared_secret (introduced meaning.public_value fresh.spi fresh.secret fresh.nonce) other opened.keys

    same_not : (serial : ℕ) (after : Association) → association_of serial was.machine.held.associations ≡ None → association_of serial t.gateway.machine.held.associations ≡ Some after
        → association_of serial t.gateway.machine.held.associations ≡ association_of serial was.machine.held.associations → ⊥
    same_not serial after none there same = none_some after (sym none ∙ sym same ∙ there)

    made_of_it : (request response from : Octets) (fresh : Fresh) (stepped : Stepped) → ike.Steps meaning was.entries (ike.Message from request fresh) was.machine was.table stepped t.gateway.machine t.gateway.table → (serial : ℕ) (after : Association) (place : ℕ) → slice_get was.machine.held.associations place ≡ None → slice_get t.gateway.machine.held.associations place ≡ Some after
        → (offer : OfferView) (spi_i : ℕ) (admitted : Admitted) → admitted.association ≡ after → admitted.octets ≡ response
        → Admits meaning.cipher meaning.group meaning.public_value meaning.shared_secret fresh was.machine.moment serial offer spi_i request admitted → MadeAt request response fresh after
    made_of_it request response from fresh stepped steps serial after place none_at stands_at offer spi_i admitted now reply admits =
        let introduces = subst (λ (o : Octets). Introduces (λ (x : Header). x.spi_r) true o (introduced meaning.public_value fresh.spi fresh.secret fresh.nonce)) reply
        (laws.answer meaning.cipher meaning.group meaning.public_value meaning.shared_secret fresh was.machine.moment serial offer spi_i request admitted admits) in
        record {
          place = place;
          none_stood = none_at;
          stands_at = stands_at;
          opened = _;
          opens = ap (λ (a : Association). a.phase) (sym now ∙ admits.content);
          request_is = refl;
          says = introduces.says;
          responds = introduces.flag;
          comes = λ secret other says.
              laws.responder meaning was.entries from request fresh was.machine was.table stepped t.gateway.machine t.gateway.table place after _ (introduced meaning.public_value fresh.spi fresh.secret fresh.nonce) other steps none_at stands_at
              (ap keys_in (ap (λ (a : Association). a.phase) (sym now ∙ admits.content))) secret refl says;
        }

    made_by : (request response from : Octets) (fresh : Fresh) (stepped : Stepped) → ike.Steps meaning was.entries (ike.Message from request fresh) was.machine was.table stepped t.gateway.machine t.gateway.table
        → h.said ≡ view_of_ike stepped.output → h.said ≡ said.Reply response None
        → (serial : ℕ) (after : Association) → CameNow meaning was.entries (ike.Message from request fresh) was.machine stepped t.gateway.machine.held serial after → MadeAt request response fresh after
    made_by request response from fresh stepped steps output is serial after now = elim now.how [
      | inl it ↦
          let own = same_message from request fresh it.from it.octets it.fresh it.came in
          let reply : it.admitted.octets ≡ response = said_reply it.admitted.octets response (sym (output ∙ ap (λ (x : Stepped). view_of_ike x.output) it.said) ∙ is) in
          made_of_it request response from fresh stepped steps serial after now.place now.none_at now.stands_at it.offer it.spi_i it.admitted it.made reply
          (subst (λ (f : Fresh). Admits meaning.cipher meaning.group meaning.public_value meaning.shared_secret f was.machine.moment serial it.offer it.spi_i request it.admitted) (sym own.fresh_is)
          (subst (λ (o : Octets). Admits meaning.cipher meaning.group meaning.public_value meaning.shared_secret it.fresh was.machine.moment serial it.offer it.spi_i o it.admitted) (sym own.octets_are) it.admits))
      | inr began ↦ (let no = began.came in absurd cc)
    ]

    made_at : (request response from : Octets) (fresh : Fresh) (stepped : Stepped) → h.said ≡ view_of_ike stepped.output → h.said ≡ said.Reply response None
        → ike.Steps meaning was.entries (ike.Message from request fresh) was.machine was.table stepped t.gateway.machine t.gateway.table
        → (serial : ℕ) (after : Association) → association_of serial was.machine.held.associations ≡ None → association_of serial t.gateway.machine.held.associations ≡ Some after → MadeAt request response fresh after
    made_at request response from fresh stepped output is steps serial after none there =
        elim (laws.steps.came meaning was.entries (ike.Message from request fresh) was.machine was.table stepped t.gateway.machine t.gateway.table serial after t.sound.machine steps there) [
          | inl before ↦ absurd (none_some before.was (sym none ∙ before.stood))
          | inr now ↦ made_by request response from fresh stepped steps output is serial after now
        ]

  -- ---- keys stay as long as they are held

  abbrev Keyed : KeyRecord → Association → Type 0
  Keyed keys a = keys_in a.phase ≡ Some keys

  keys_on : (serial : ℕ) (keys : KeyRecord) (meaning : Meaning) (entries : List Entry) (view : ike.InputView) (old : Machine) (table : Database) (stepped : Stepped) (new : Machine) (new_table : Database) (before is : Association)
      → IsSoundTable table → IsSoundMachine old table → ike.Steps meaning entries view old table stepped new new_table
      → association_of serial old.held.associations ≡ Some before → association_of serial new.held.associations ≡ Some is → How meaning entries view old table new.held new_table before is → Keyed keys before → Keyed keys is
  keys_on serial keys meaning entries view old table stepped new new_table before is sound_table sound steps stood_there there how keyed =
      laws.keys meaning entries view old table stepped new new_table serial keys is sound_table sound steps
      (ap (λ (o : Option Association). option_and_then (λ a. keys_in a.phase) o) stood_there ∙ keyed) there

  pub keys_at_the_end : (end : End) (serial : ℕ) (keys one : KeyRecord) (hs : List (Happening C)) (from new : WorldState C) → IsWorldTrail meaning_of from hs new
      → serial < (gateway_at end from).machine.held.next → (a : Association) → association_in (gateway_at end from) serial ≡ Some a → keys_in a.phase ≡ Some keys → HoldsWith new end serial one → keys ≡ one
  keys_at_the_end end serial keys one hs from new trail given a there keyed holds =
      let kept = kept_along laws.steps meaning_of serial (Keyed keys) (keys_on serial keys) end hs from new trail (record {
        given = given;
        each = λ b stands. ap (λ (x : Association). keys_in x.phase) (same_one b a (sym stands ∙ there)) ∙ keyed;
      }) in
      same_one keys one (sym (kept.each holds.association holds.there) ∙ holds.keyed)

  -- ---- an end at an event of it

  here_of : (h : Happening C) (t : TakesEvent meaning_of h.event h.before h.said h.after) (end : End) → h.event.end ≡ end → gateway_at end h.after ≡ t.gateway
  here_of h t end at = subst (λ (e : End). gateway_at e h.after ≡ t.gateway) at (after_here meaning_of h t)

  there_of : (h : Happening C) (t : TakesEvent meaning_of h.event h.before h.said h.after) (end : End) (serial : ℕ) (a : Association) → h.event.end ≡ end → association_in (gateway_at end h.after) serial ≡ Some a
      → association_in t.gateway serial ≡ Some a
  there_of h t end serial a at there = ap (λ (s : State C). association_in s serial) (sym (here_of h t end at)) ∙ there

  pub given_there : (h : Happening C) (t : TakesEvent meaning_of h.event h.before h.said h.after) (end : End) (serial : ℕ) (a : Association) → h.event.end ≡ end → association_in (gateway_at end h.after) serial ≡ Some a
      → serial < (gateway_at end h.after).machine.held.next
  given_there h t end serial a at there = subst (λ (s : State C). serial < s.machine.held.next) (sym (here_of h t end at)) (given_by h t serial a (there_of h t end serial a at there))

  -- ---- over a history

  same_wait : (one other : InitSent) → phase.InitSent one ≡ phase.InitSent other → one ≡ other
  same_wait one other is = cc

  -- what an end sends as its request of IKE_SA_INIT is one, and says what its IKE SA holds of itself
  pub record TellsOffer (octets : Octets) (public_value : Octets → Octets) (a : Association) (sent : InitSent) : Type 0 where
    pub says : SaysOfSender (λ (x : Header). x.spi_i) octets (introduced public_value a.spi_i sent.secret sent.nonce)
    pub asks : says.message.header.flags.response ≡ false

  module _ (public_value : Octets → Octets) (shares : (caller : C) → (meaning_of caller).public_value ≡ public_value) where
    pub request_tells : (h : Happening C) (t : TakesEvent meaning_of h.event h.before h.said h.after) (end : End) (serial : ℕ) (octets : Octets) (s : SendsRequest h end serial octets) → TellsOffer octets public_value s.association s.sent
    request_tells h t end serial octets s =
        let caller = (gateway_at h.event.end h.before).caller in
        let goes = requests h t serial octets s.said s.association (there_of h t end serial s.association s.at s.there) s.sent s.waits in
        subst (λ (f : Octets → Octets). TellsOffer octets f s.association s.sent) (shares caller)
        (let introduces = laws.request (meaning_of caller) s.association.spi_i s.sent.secret s.sent.nonce octets goes in record { says = introduces.says; asks = introduces.flag })

    pub made_of : (h : Happening C) (t : TakesEvent meaning_of h.event h.before h.said h.after) (end : End) (serial : ℕ) (request response : Octets) (a : AnswersRequest h end serial request response) → MadeAt h t request response a.fresh a.association
    made_of h t end serial request response a =
        let responder = gateway_at h.event.end h.before in
        let none : association_in responder serial ≡ None = ap (λ (en : End). association_in (gateway_at en h.before) serial) a.at ∙ a.none in
        let there = there_of h t end serial a.association a.at a.there in
        elim (came_by h t a.from request a.fresh a.came) [
          | inl by ↦ made_at h t request response a.from a.fresh by.stepped by.output a.said by.steps serial a.association none there
          | inr same ↦ absurd (same_not h t serial a.association none there (ap (λ (m : Machine). association_of serial m.held.associations) same))
        ]

    pub read_keys : (h : Happening C) (t : TakesEvent meaning_of h.event h.before h.said h.after) (end : End) (serial : ℕ) (response : Octets) (r : ReadsResponse h end serial response) → IsSecret r.sent.secret
        → (other : Introduction) → SaysOfSender (λ (x : Header). x.spi_r) response other
        → ComesToKeysAsInitiator (asker_of (meaning_of (gateway_at h.event.end h.before).caller)) (introduced (meaning_of (gateway_at h.event.end h.before).caller).public_value r.was.spi_i r.sent.secret r.sent.nonce) other r.keys
    read_keys h t end serial response r secret other says =
        let initiator = gateway_at h.event.end h.before in
        let before : association_in initiator serial ≡ Some r.was = ap (λ (en : End). association_in (gateway_at en h.before) serial) r.at ∙ r.stood in
        let there = there_of h t end serial r.is r.at r.there in
        elim (came_by h t r.from response r.fresh r.came) [
          | inl by ↦
              let it = placed h t (ike.Message r.from response r.fresh) by.stepped by.steps serial r.was r.is r.sent r.keys before there r.waited r.keyed in
              laws.initiator (meaning_of initiator.caller) initiator.entries r.from response r.fresh initiator.machine initiator.table by.stepped t.gateway.machine t.gateway.table it.place r.was r.is r.sent r.keys
              (introduced (meaning_of initiator.caller).public_value r.was.spi_i r.sent.secret r.sent.nonce) other by.steps it.stood_at r.waited it.stands_at r.keyed secret refl says
          | inr same ↦ absurd (apart_not h t serial r.was r.is r.sent r.keys before there r.waited r.keyed (ap (λ (m : Machine). association_of serial m.held.associations) same))
        ]

    module _ (hs : List (Happening C)) (old new : WorldState C) (trail : IsWorldTrail meaning_of old hs new) where
      pub step_at : (place : ℕ) (h : Happening C) → slice_get hs place ≡ Some h → TakesEvent meaning_of h.event h.before h.said h.after
      step_at = each_step meaning_of hs old new trail

      -- what it holds of itself as it sends its request is what it holds as it reads a response
      pub held_on : (asked taken : ℕ) (asks takes : Happening C) (asks_there : slice_get hs asked ≡ Some asks) (takes_there : slice_get hs taken ≡ Some takes) → asked < taken → (end : End) (serial : ℕ) (request response : Octets)
          (s : SendsRequest asks end serial request) (r : ReadsResponse takes end serial response) → offered r.was r.sent ≡ offered s.association s.sent
      held_on asked taken asks takes asks_there takes_there later end serial request response s r =
          let what = offered s.association s.sent in
          let way = between meaning_of hs old new trail asked taken asks takes later asks_there takes_there in
          let kept = kept_along laws.steps meaning_of serial (Offers what)
          (λ meaning entries view before table stepped after new_table was is sound_table sound steps stood_there there how. offers_on laws.waits meaning entries view before table stepped after new_table what was is how) end way.happenings asks.after takes.before way.trail (record {
            given = given_there asks (step_at asked asks asks_there) end serial s.association s.at s.there;
            each = λ b stands sent waits.
                let one = same_one b s.association (sym stands ∙ s.there) in
                let own = same_wait sent s.sent (sym waits ∙ ap (λ (a : Association). a.phase) one ∙ s.waits) in
                (λ i. offered (one i) (own i));
          }) in
          kept.each r.was r.stood r.sent r.waited

      abbrev pub introduction_at : {h : Happening C} {end : End} {serial : ℕ} {response : Octets} → ReadsResponse h end serial response → Introduction
      introduction_at r = introduced public_value r.was.spi_i r.sent.secret r.sent.nonce

      -- octets that come as they were sent tell the same
      abbrev pub introduced_by : (end : End) (asking answering : ℕ) → HaveExchanged hs end asking answering → HaveIntroduced hs end asking answering
      introduced_by end asking answering e = record {
        initiator = introduced public_value e.sends.association.spi_i e.sends.sent.secret e.sends.sent.nonce;
        responder = introduced (meaning_of (gateway_at e.replies.event.end e.replies.before).caller).public_value e.answers.fresh.spi e.answers.fresh.secret e.answers.fresh.nonce;
        sent = e.request;
        came = e.request;
        answer = e.response;
        response = e.response;
        asked = e.asked;
        asks = e.asks;
        asks_there = e.asks_there;
        sends = e.sends;
        sent_says = (request_tells e.asks (step_at e.asked e.asks e.asks_there) end asking e.request e.sends).says;
        answered = e.answered;
        replies = e.replies;
        replies_there = e.replies_there;
        answers = e.answers;
        came_says = (request_tells e.asks (step_at e.asked e.asks e.asks_there) end asking e.request e.sends).says;
        answer_says = (made_of e.replies (step_at e.answered e.replies e.replies_there) (other_end end) answering e.request e.response e.answers).says;
        taken = e.taken;
        takes = e.takes;
        takes_there = e.takes_there;
        reads = e.reads;
        response_says = (made_of e.replies (step_at e.answered e.replies e.replies_there) (other_end end) answering e.request e.response e.answers).says;
        later = e.later;
      }

      module _ (agree : (caller answerer : C) (initiator responder : Introduction) (one other : KeyRecord) → ComesToKeysAsInitiator (asker_of (meaning_of caller)) initiator responder one
          → ComesToKeysAsResponder (meaning_of answerer).cipher (meaning_of answerer).group (meaning_of answerer).public_value (meaning_of answerer).shared_secret responder initiator other → one ≡ other)
          (end : End) (asking answering : ℕ) (e : HaveIntroduced hs end asking answering) where
        abbrev asks_step : TakesEvent meaning_of e.asks.event e.asks.before e.asks.said e.asks.after
        asks_step = step_at e.asked e.asks e.asks_there

        abbrev replies_step : TakesEvent meaning_of e.replies.event e.replies.before e.replies.said e.replies.after
        replies_step = step_at e.answered e.replies e.replies_there

        abbrev takes_step : TakesEvent meaning_of e.takes.event e.takes.before e.takes.said e.takes.after
        takes_step = step_at e.taken e.takes e.takes_there

        abbrev made_so : MadeAt e.replies replies_step e.came e.answer e.answers.fresh e.answers.association
        made_so = made_of e.replies replies_step (other_end end) answering e.came e.answer e.answers

        what_is : offered e.reads.was e.reads.sent ≡ offered e.sends.association e.sends.sent
        what_is = held_on e.asked e.taken e.asks e.takes e.asks_there e.takes_there e.later end asking e.sent e.response e.sends e.reads

        -- what the initiator holds of itself is what the request told that it sent
        initiator_is : e.initiator ≡ introduction_at e.reads
        initiator_is =
            laws.one_sender (λ (x : Header). x.spi_i) e.sent e.initiator (introduced public_value e.sends.association.spi_i e.sends.sent.secret e.sends.sent.nonce) e.sent_says
            (request_tells e.asks asks_step end asking e.sent e.sends).says
            ∙ ap (λ (o : Offered). introduced public_value o.spi o.secret o.nonce) (sym what_is)

        request_is : SaysOfSender (λ (x : Header). x.spi_i) e.came (introduction_at e.reads)
        request_is = subst (λ (i : Introduction). SaysOfSender (λ (x : Header). x.spi_i) e.came i) initiator_is e.came_says

        abbrev asker_at : C
        asker_at = (gateway_at e.takes.event.end e.takes.before).caller

        abbrev answerer_at : C
        answerer_at = (gateway_at e.replies.event.end e.replies.before).caller

        abbrev responding : Introduction
        responding = introduced public_value e.answers.fresh.spi e.answers.fresh.secret e.answers.fresh.nonce

        -- and so of the responder and its answer
        responder_is : e.responder ≡ responding
        responder_is =
            laws.one_sender (λ (x : Header). x.spi_r) e.answer e.responder responding e.answer_says
            (subst (λ (f : Octets → Octets). SaysOfSender (λ (x : Header). x.spi_r) e.answer (introduced f e.answers.fresh.spi e.answers.fresh.secret e.answers.fresh.nonce)) (shares answerer_at) made_so.says)

        read_so : ComesToKeysAsInitiator (asker_of (meaning_of asker_at)) (introduction_at e.reads) responding e.reads.keys
        read_so =
            let says : SaysOfSender (λ (x : Header). x.spi_r) e.response responding = subst (λ (i : Introduction). SaysOfSender (λ (x : Header). x.spi_r) e.response i) responder_is e.response_says in
            subst (λ (f : Octets → Octets). ComesToKeysAsInitiator (asker_of (meaning_of asker_at)) (introduced f e.reads.was.spi_i e.reads.sent.secret e.reads.sent.nonce) responding e.reads.keys) (shares asker_at)
            (read_keys e.takes takes_step end asking e.response e.reads (subst (λ (o : Offered). IsSecret o.secret) (sym what_is) e.sends.secret) responding says)

        made_keys : ComesToKeysAsResponder (meaning_of answerer_at).cipher (meaning_of answerer_at).group (meaning_of answerer_at).public_value (meaning_of answerer_at).shared_secret responding (introduction_at e.reads) made_so.opened.keys
        made_keys =
            subst (λ (f : Octets → Octets). ComesToKeysAsResponder (meaning_of answerer_at).cipher (meaning_of answerer_at).group (meaning_of answerer_at).public_value (meaning_of answerer_at).shared_secret
            (introduced f e.answers.fresh.spi e.answers.fresh.secret e.answers.fresh.nonce) (introduction_at e.reads) made_so.opened.keys) (shares answerer_at)
            (made_so.comes e.answers.secret (introduction_at e.reads) request_is)

        -- both came to one record
        pub keys_agree : e.reads.keys ≡ made_so.opened.keys
        keys_agree = agree asker_at answerer_at (introduction_at e.reads) responding e.reads.keys made_so.opened.keys read_so made_keys

        pub hold_one : (one other : KeyRecord) → HoldsWith new end asking one → HoldsWith new (other_end end) answering other → one ≡ other
        hold_one one other holds also =
            let r = e.reads in
            let a = e.answers in
            let asked = behind meaning_of hs old new trail e.taken e.takes e.takes_there in
            let answered = behind meaning_of hs old new trail e.answered e.replies e.replies_there in
            let first = keys_at_the_end end asking r.keys one asked.happenings e.takes.after new asked.trail (given_there e.takes takes_step end asking r.is r.at r.there) r.is r.there r.keyed holds in
            let second = keys_at_the_end (other_end end) answering made_so.opened.keys other answered.happenings e.replies.after new answered.trail (given_there e.replies replies_step (other_end end) answering a.association a.at a.there)
            a.association a.there (ap keys_in made_so.opens) also in
            sym first ∙ keys_agree ∙ second
