-- An event keeps what a world knows of its Child SAs under a key record.
use Rattle.std.proofs.Common.{◌≡◌, ◌⊎◌, ℕ, Bool, true, false, List, Option, Some, None, Contains, map, inl, inr, refl, sym, ap, subst, ◌∙◌, arith}
use Rattle.std.specs.Prelude.{option_and_then}
use Rattle.std.specs.Option.{option_to_list}
use Rattle.std.specs.FinMap as finite
use Rattle.std.proofs.lemmas.List.Elements.{All-contains, All-from_recursion, Contains-append_cases, Contains-append_left, Contains-append_right}
use Rattle.base.specs.Octets.{Octets}
use Rattle.wire.specs.Messages.{Spells}
use Rattle.wire.specs.Numbers.{CREATE_CHILD_SA, IKE_AUTH}
use Rattle.wire.specs.Payloads.{SpellsChain}
use Rattle.wire.specs.declared.message.Message.{Message}
use Rattle.wire.specs.declared.payload.Payload.{Payload}
use Rattle.policy.specs.declared.entry.Entry.{Entry}
use Rattle.suite.specs.Sealing.{AreKeys}
use Rattle.suite.specs.declared.fresh.Fresh.{Fresh}
use Rattle.suite.specs.declared.key_record.KeyRecord.{KeyRecord}
use Rattle.suite.specs.declared.keys.Keys.{Keys}
use Rattle.exchange.specs.Headers.{is_initiator, keys_of, other_role, sent_header}
use Rattle.exchange.specs.Sealed.{plain_of_message, IsSealed}
use Rattle.exchange.specs.declared.headers.Role.{Role}
use Rattle.exchange.specs.declared.headers.Role.TheVariants.{Initiator, Responder}
use Rattle.exchange.specs.declared.sealed.Plain.{Plain}
use Rattle.sadb.specs.Database.{pair_at, Database, IsSoundTable}
use Rattle.sadb.specs.declared.pair.Pair.{Pair}
use Rattle.association.specs.AskedChildren.{asked_of}
use Rattle.association.specs.Phases.{keys_in}
use Rattle.association.specs.Purposes.{asks_for_child}
use Rattle.association.specs.Receiving.{opened_under, Opening}
use Rattle.association.specs.declared.phase.Association.{Association}
use Rattle.association.specs.declared.phase.AuthSent.{AuthSent}
use Rattle.association.specs.declared.phase.Phase.{Phase}
use Rattle.association.specs.declared.phase.Phase.TheVariants as phase
use Rattle.association.specs.declared.phase.Request.{Request}
use Rattle.association.specs.declared.purpose.FurtherChild.{FurtherChild}
use Rattle.association.specs.declared.purpose.Purpose.{Purpose}
use Rattle.association.specs.declared.purpose.Purpose.TheVariants as purpose
use Rattle.children.specs.Asking.{asked_proposal, child_request, HasChildPayloads}
use Rattle.further.specs.Payloads.{further_payloads}
use Rattle.setup.specs.Configs.{Setup}
use Rattle.association.specs.declared.outcome.Answered as answering
use Rattle.effects.specs.Children.{exchange_of_child, AnswersForChild, ChildKind, EndsWithChild, EndsWithFurther, First, Further, MadeBy, MayAnswer}
use Rattle.effects.specs.Lengths.{AreWholeKeys, HoldsWholeKeys}
use Rattle.effects.specs.Moves.{Count, Make, Move, TakeEffect}
use Rattle.effects.specs.Openings.{OpensAsMessage}
use Rattle.effects.specs.Taking.{Meaning}
use Rattle.effects.specs.Waiting.{MayBeOutstanding}
use Rattle.effects.specs.declared.taking.Effect.{Effect}
use Rattle.effects.specs.declared.taking.Effect.TheVariants as effect
use Rattle.ike.specs.Children.{AsksFirstChild, AsksForFurtherNow, AsksNow, FurtherOrdered, FurtherWaited, MakesChildOf, WaitedBefore}
use Rattle.ike.specs.LawsOfSealing.{EachAssociationHoldsWholeKeys, EachAssociationIsSound, KeysComeWithTheFirstRequest}
use Rattle.ike.specs.Lengths.{HoldWholeKeys}
use Rattle.ike.specs.Machines.{association_of, keys_of_serial, setup_at, Held, Machine}
use Rattle.ike.specs.Moves.{Comes, ComesFor, HasFresh, HasSeal, KeysCome, MoveComes, MovesAt}
use Rattle.ike.specs.Outputs.{asking_step, child_of, no_trace, stepped_of}
use Rattle.ike.specs.Soundness.{IsSoundMachine}
use Rattle.ike.specs.Steps as ike
use Rattle.ike.specs.Orders as orders
use Rattle.ike.specs.declared.output.IkeOutput.TheVariants as output
use Rattle.ike.specs.declared.output.MadeChild.{MadeChild}
use Rattle.ike.specs.declared.output.Mark as marks
use Rattle.ike.specs.declared.output.Stepped.{Stepped}
use Rattle.ike.specs.declared.output.Trace.{Trace}
use Rattle.gateway.specs.Inputs.{Input}
use Rattle.gateway.specs.Inputs as input
use Rattle.gateway.specs.Outputs.{view_of_ike, wants_memory, OutputView}
use Rattle.gateway.specs.Requests.{for_ike, IsDatagram}
use Rattle.gateway.specs.States.{association_in, State}
use Rattle.gateway.specs.Steps.{DoesInput, StepsIke}
use Rattle.ike.specs.Payloads.{OpensToPayloads, SealsPayloads}
use Rattle.gateway.specs.WorldChildren.{AccountsForChildren, AsksForItsChildren, IsStoredOf, SentRequest, WasAnsweredFor, WasAskedFor, WasMade}
use Rattle.gateway.specs.WorldHistories.{Happening}
use Rattle.gateway.specs.WorldParties.{HasSent, HoldsUnder}
use Rattle.gateway.specs.WorldPromises.{ComesUnder}
use Rattle.gateway.specs.WorldRuns.{IsLater}
use Rattle.gateway.specs.Worlds.{again_as, child_by, child_with, datagram_of, gateway_at, ike_mark, mark_under, other_end, requests_in, sent_by, sent_once, simplex_of, storing, with_gateway, IsFreshlyGiven, Stored, TakesEvent, WorldState}
use Rattle.gateway.specs.declared.world.stored.Child.{Child}
use Rattle.gateway.specs.declared.world.stored.End.{End}
use Rattle.gateway.specs.declared.world.stored.End.TheVariants.{A, B}
use Rattle.gateway.specs.declared.world.stored.Protection.{Protection}
use Rattle.gateway.specs.declared.world.stored.Protection.TheVariants as mark
use Rattle.gateway.proofs.MoveLemmas.{said_octets, wants_none, TurnLaws}
use Rattle.gateway.proofs.PartyLemmas.{none_some, single, some_is}
use Rattle.gateway.proofs.SoundWorldLemmas.{each_end, still_sent}
use Rattle.gateway.proofs.TurnLemmas.{is_once}
use Rattle.gateway.proofs.WorldLemmas.{stored_at}
use Rattle.association.specs.Outcomes.{made_by as serial_made}

-- what is known of the Child SAs that a step makes and asks for
pub record ChildLaws : Type 0 where
  pub made : (meaning : Meaning) (entries : List Entry) (from octets : Octets) (fresh : Fresh) (old : Machine) (table : Database) (stepped : Stepped) (made : MadeChild) (new : Machine) (new_table : Database)
      → IsSoundTable table → IsSoundMachine old table → ike.Steps meaning entries (ike.Message from octets fresh) old table stepped new new_table → stepped.trace.child ≡ Some made
      → MakesChildOf meaning (setup_at old entries fresh) octets old.held table stepped made new.held new_table
  pub asked : (meaning : Meaning) (entries : List Entry) (from octets : Octets) (fresh : Fresh) (old : Machine) (table : Database) (stepped : Stepped) (serial : ℕ) (next : Octets) (new : Machine) (new_table : Database)
      → IsSoundTable table → IsSoundMachine old table → ike.Steps meaning entries (ike.Message from octets fresh) old table stepped new new_table
      → stepped.output ≡ output.Request serial next → stepped.trace.keyed ≡ Some serial → AsksFirstChild meaning (setup_at old entries fresh) serial next new.held
  pub waits : (meaning : Meaning) (entries : List Entry) (view : ike.InputView) (old : Machine) (table : Database) (stepped : Stepped) (new : Machine) (new_table : Database) (serial : ℕ) (a : Association) (sent : AuthSent)
      → IsSoundTable table → IsSoundMachine old table → ike.Steps meaning entries view old table stepped new new_table
      → association_of serial new.held.associations ≡ Some a → a.phase ≡ phase.AuthSent sent → WaitedBefore serial sent old.held ⊎ AsksNow serial stepped
  pub asked_further : (meaning : Meaning) (entries : List Entry) (serial place : ℕ) (fresh : Fresh) (old : Machine) (table : Database) (stepped : Stepped) (new : Machine) (new_table : Database)
      → IsSoundMachine old table → ike.Steps meaning entries (ike.Start (Some serial) place fresh) old table stepped new new_table
      → AsksForFurtherNow meaning.body_of (setup_at old entries fresh) serial stepped new.held
  pub waits_further : (meaning : Meaning) (entries : List Entry) (view : ike.InputView) (old : Machine) (table : Database) (stepped : Stepped) (new : Machine) (new_table : Database) (serial number : ℕ) (a : Association) (request : Request)
      → IsSoundMachine old table → ike.Steps meaning entries view old table stepped new new_table
      → association_of serial new.held.associations ≡ Some a → finite.get a.outgoing.outstanding number ≡ Some request → asks_for_child request.purpose ≡ true
      → FurtherWaited serial number request old.held ⊎ FurtherOrdered view old.held serial number request stepped
  pub sound : (machine : Machine) (table : Database) → IsSoundMachine machine table → HoldWholeKeys machine.held
  pub whole : (meaning : Meaning) (entries : List Entry) (view : ike.InputView) (old : Machine) (table : Database) (stepped : Stepped) (new : Machine) (new_table : Database)
      → HoldWholeKeys old.held → ike.Steps meaning entries view old table stepped new new_table → HoldWholeKeys new.held
  pub one_message : (m n : Message) (b : Octets) → Spells m b → Spells n b → m ≡ n
  pub first : KeysComeWithTheFirstRequest
  pub each_sound : EachAssociationIsSound
  pub each_whole : EachAssociationHoldsWholeKeys

-- the callers of both ends seal and open by one cipher
pub record ShareCipher {C : Type 0} (meaning_of : C → Meaning) (body_of : Keys → Octets → Octets → Octets → Octets) (plain_of : Opening) : Type 0 where
  pub body : (caller : C) → (meaning_of caller).body_of ≡ body_of
  pub plain : (caller : C) → (meaning_of caller).plain_of ≡ plain_of

-- ---- what a step is to the machine of IKE

-- it takes a step, or stands still
pub record Answered {C : Type 0} (meaning : Meaning) (given : Option ike.InputView) (old : State C) (s : OutputView) (trace : Trace) (new : State C) : Type 0 where
  pub view : ike.InputView
  pub is : given ≡ Some view
  pub stepped : Stepped
  pub steps : ike.Steps meaning old.entries view old.machine old.table stepped new.machine new.table
  pub output : s ≡ view_of_ike stepped.output
  pub traced : trace ≡ stepped.trace

pub record StandsStill {C : Type 0} (old : State C) (trace : Trace) (new : State C) : Type 0 where
  pub machine : new.machine ≡ old.machine
  pub traced : trace ≡ no_trace

abbrev pub Way : {C : Type 0} → Meaning → Option ike.InputView → State C → OutputView → Trace → State C → Type 0
Way {C} meaning given old s trace new = Answered meaning given old s trace new ⊎ StandsStill old trace new

ike_way : {C : Type 0} (meaning : Meaning) (view : ike.InputView) (old : State C) (s : OutputView) (trace : Trace) (new : State C)
    → StepsIke meaning old.entries view old.machine old.table s trace new.machine new.table → Way meaning (Some view) old s trace new
ike_way {C} meaning view old s trace new (inl is) = inl (record { view = view; is = refl; stepped = is.stepped; steps = is.steps; output = is.output; traced = is.traced })
ike_way {C} meaning view old s trace new (inr is) = inr (record { machine = is.machine; traced = is.traced })

pub way_of : {C : Type 0} (meaning : Meaning) (given : Input) (old : State C) (s : OutputView) (trace : Trace) (new : State C)
    → DoesInput meaning old.entries given old.machine old.table s trace new.machine new.table → Way meaning (for_ike given) old s trace new
way_of {C} meaning (input.Ike from octets fresh) old s trace new is = ike_way meaning (ike.Message from octets fresh) old s trace new is
way_of {C} meaning (input.Start serial entry fresh) old s trace new is = ike_way meaning (ike.Start serial entry fresh) old s trace new is
way_of {C} meaning (input.Probe serial fresh) old s trace new is = ike_way meaning (ike.Order (orders.Probe serial) fresh) old s trace new is
way_of {C} meaning (input.DeleteChild serial fresh) old s trace new is = ike_way meaning (ike.Order (orders.DeleteChild serial) fresh) old s trace new is
way_of {C} meaning (input.DeleteIke serial fresh) old s trace new is = ike_way meaning (ike.Order (orders.DeleteIke serial) fresh) old s trace new is
way_of {C} meaning (input.Secret secret) old s trace new is = ike_way meaning (ike.Secret secret) old s trace new is
way_of {C} meaning (input.Tick moment) old s trace new is = ike_way meaning (ike.Tick moment) old s trace new is
way_of {C} meaning (input.Esp octets) old s trace new is = inr (record { machine = is.0.machine; traced = is.0.traced })
way_of {C} meaning (input.Outward packet) old s trace new is = inr (record { machine = is.0.machine; traced = is.0.traced })
way_of {C} meaning (input.Inward packet) old s trace new is = inr (record { machine = is.0.machine; traced = is.0.traced })

-- a datagram came
pub record IsMessage (view : ike.InputView) : Type 0 where
  pub from : Octets
  pub octets : Octets
  pub fresh : Fresh
  pub is : view ≡ ike.Message from octets fresh

-- the peer's message came by it
pub record Brought (meaning : Meaning) (view : ike.InputView) (a : Association) (response : Bool) (number : ℕ) : Type 0 where
  pub message : IsMessage view
  pub opens : OpensAsMessage meaning.plain_of a (other_role a.role) response number message.octets

pub brought : (meaning : Meaning) (view : ike.InputView) (a : Association) (response : Bool) (number : ℕ) → Comes meaning view a response number → Brought meaning view a response number
brought meaning (ike.Message from octets fresh) a response number comes = record { message = record { from = from; octets = octets; fresh = fresh; is = refl }; opens = comes }
brought meaning (ike.Start serial place fresh) a response number comes = absurd comes
brought meaning (ike.Order what fresh) a response number comes = absurd comes
brought meaning (ike.Secret secret) a response number comes = absurd comes
brought meaning (ike.Tick moment) a response number comes = absurd comes

keys_by_message : (view : ike.InputView) (o : Option Association) → KeysCome view o → IsMessage view
keys_by_message (ike.Message from octets fresh) o comes = record { from = from; octets = octets; fresh = fresh; is = refl }
keys_by_message (ike.Start serial place fresh) None comes = absurd comes
keys_by_message (ike.Start serial place fresh) (Some a) comes = absurd comes
keys_by_message (ike.Order what fresh) None comes = absurd comes
keys_by_message (ike.Order what fresh) (Some a) comes = absurd comes
keys_by_message (ike.Secret secret) None comes = absurd comes
keys_by_message (ike.Secret secret) (Some a) comes = absurd comes
keys_by_message (ike.Tick moment) None comes = absurd comes
keys_by_message (ike.Tick moment) (Some a) comes = absurd comes

-- ---- whole keys, and octets that are fresh

role_keys : (role : Role) (keys : KeyRecord) → AreWholeKeys keys → AreKeys (keys_of role keys)
role_keys Initiator keys whole = whole.initiator
role_keys Responder keys whole = whole.responder

pub keys_at : (a : Association) (keys : KeyRecord) (role : Role) → HoldsWholeKeys a.phase → keys_in a.phase ≡ Some keys → AreKeys (keys_of role keys)
keys_at a keys role whole keyed = role_keys role keys (whole keys keyed)

-- ---- the IKE SA that waits for the answer to a request for an additional Child SA is established

further_established : (p : Phase) (number : ℕ) (further : FurtherChild) → MayBeOutstanding p number (purpose.CreateChild further) → (keys : KeyRecord) × (p ≡ phase.Established keys)
further_established (phase.InitSent sent) number further may = absurd (let no : purpose.CreateChild further ≡ purpose.Begin = may.1 in cc)
further_established (phase.AuthSent sent) number further may = absurd (let no : purpose.CreateChild further ≡ purpose.Identify = may.1 in cc)
further_established (phase.HalfOpen opened) number further may = absurd may
further_established (phase.Established keys) number further may = (keys, refl)
further_established (phase.Closed keys at) number further may = absurd may

may_keys : (kind : ChildKind) (p : Phase) (keys : KeyRecord) → MayAnswer kind p keys → keys_in p ≡ Some keys
may_keys First (phase.HalfOpen opened) keys may = ap (λ (k : KeyRecord). Some k) may
may_keys First (phase.InitSent sent) keys may = absurd may
may_keys First (phase.AuthSent sent) keys may = absurd may
may_keys First (phase.Established known) keys may = absurd may
may_keys First (phase.Closed known at) keys may = absurd may
may_keys Further (phase.Established known) keys may = ap (λ (k : KeyRecord). Some k) may
may_keys Further (phase.InitSent sent) keys may = absurd may
may_keys Further (phase.AuthSent sent) keys may = absurd may
may_keys Further (phase.HalfOpen opened) keys may = absurd may
may_keys Further (phase.Closed known at) keys may = absurd may

asked_is : (serial number : ℕ) (asked : Bool) (o : Option ℕ) (made : MadeChild) → child_of serial number asked o ≡ Some made → made.asked ≡ asked
asked_is serial number asked None made is = absurd (none_some made is)
asked_is serial number asked (Some child) made is = sym (ap (λ (m : MadeChild). m.asked) (some_is _ made is))

no_child : (made : MadeChild) (stepped : Stepped) (o : Option MadeChild) → o ≡ None → stepped.trace.child ≡ o → stepped.trace.child ≡ Some made → ⊥
no_child made stepped o none is named = none_some made (sym none ∙ sym is ∙ named)

pub gateway_here : {C : Type 0} (end : End) (gateway : State C) (stored : Stored) (old : WorldState C) → gateway_at end (with_gateway end gateway stored old) ≡ gateway
gateway_here {C} A gateway stored old = refl
gateway_here {C} B gateway stored old = refl

pub gateway_there : {C : Type 0} (end : End) (gateway : State C) (stored : Stored) (old : WorldState C) → gateway_at (other_end end) (with_gateway end gateway stored old) ≡ gateway_at (other_end end) old
gateway_there {C} A gateway stored old = refl
gateway_there {C} B gateway stored old = refl

-- what was opened, by the keys that the IKE SA has
pub opened_with : (plain_of : Opening) (role : Role) (o : Option KeyRecord) (keys : KeyRecord) (octets : Octets) (payloads : List Payload) (plain : Plain) → o ≡ Some keys
    → opened_under plain_of role o octets payloads ≡ Some plain → plain_of_message plain_of (keys_of (other_role role) keys) octets payloads ≡ Some plain
opened_with plain_of role o keys octets payloads plain is opened = sym (ap (λ (k : Option KeyRecord). opened_under plain_of role k octets payloads) is) ∙ opened

pub child_there : (child : Child) (o : Option Child) → Contains (option_to_list o) child → o ≡ Some child
child_there child None there = absurd (let less = there.1 in omega (arith, less))
child_there child (Some c) there = ap (λ (x : Child). Some x) (single c child there)

-- ---- a message under SK is stored

stored_message : {C : Type 0} (end : End) (s : OutputView) (trace : Trace) (gateway : State C) (old : Stored) (serial number : ℕ) (response : Bool) (octets : Octets) (keys : KeyRecord)
    → trace.sent ≡ Some (record { ike = serial; response = response; number = number }) → said_octets s ≡ Some octets → keys_of_serial serial gateway.machine.held.associations ≡ Some keys
    → HasSent end keys response number octets (storing end s trace gateway old)
stored_message {C} end s trace gateway old serial number response octets keys marked said keyed =
    let sent = datagram_of end (mark.Ike keys response number) octets in
    let by : ike_mark gateway.machine trace.sent ≡ mark.Ike keys response number =
    ap (λ (o : Option marks.Mark). ike_mark gateway.machine o) marked ∙ ap (λ (k : Option KeyRecord). mark_under (record { ike = serial; response = response; number = number }) k) keyed in
    Contains-append_right old.sent (sent_by end s trace.sent gateway) sent
    (Contains-append_left (sent_once end s trace.sent gateway) (map (again_as end gateway.machine) (requests_in s)) sent
    (subst (λ (m : Protection). Contains (sent_once end s trace.sent gateway) (datagram_of end m octets)) by (is_once end s trace.sent gateway octets said)))

module _ {C : Type 0} (turns : TurnLaws) (kin : ChildLaws) (meaning_of : C → Meaning) (body_of : Keys → Octets → Octets → Octets → Octets) (plain_of : Opening) (shares : ShareCipher meaning_of body_of plain_of) (keys : KeyRecord) where
  module _ (h : Happening C) (t : TakesEvent meaning_of h.event h.before h.said h.after) (last : Stored) (later : IsLater h.after.stored last)
      (unforged : (response : Bool) (number : ℕ) (octets : Octets) → ComesUnder meaning_of keys response number octets h → HasSent (other_end h.event.end) keys response number octets last)
      (known : AccountsForChildren body_of plain_of keys h.before last) where
    abbrev e : End
    e = h.event.end

    abbrev was : State C
    was = gateway_at e h.before

    abbrev meaning : Meaning
    meaning = meaning_of was.caller

    abbrev now : Stored
    now = storing e h.said t.trace t.gateway h.before.stored

    here : gateway_at e h.after ≡ t.gateway
    here = ap (λ (w : WorldState C). gateway_at e w) t.content ∙ gateway_here e t.gateway now h.before

    stored_now : h.after.stored ≡ now
    stored_now = ap (λ (w : WorldState C). w.stored) t.content ∙ stored_at e t.gateway now h.before

    sent_last : (response : Bool) (number : ℕ) (octets : Octets) → HasSent e keys response number octets now → HasSent e keys response number octets last
    sent_last response number octets sent = still_sent e keys response number octets now last (subst (λ (s : Stored). IsLater s last) stored_now later) sent

    module _ (w : Answered meaning (for_ike h.event.input) was h.said t.trace t.gateway) where
      abbrev held : Held
      held = t.gateway.machine.held

      whole_old : HoldWholeKeys was.machine.held
      whole_old = kin.sound was.machine was.table t.sound.machine

      whole_new : HoldWholeKeys held
      whole_new = kin.whole meaning was.entries w.view was.machine was.table w.stepped t.gateway.machine t.gateway.table whole_old w.steps

      moves_at : (serial : ℕ) → MovesAt meaning w.view was.machine.held w.stepped held serial
      moves_at serial = turns.moves meaning was.entries w.view was.machine was.table w.stepped t.gateway.machine t.gateway.table serial t.sound.machine w.steps

      comes_by : (serial : ℕ) (move : Move) → Contains (moves_at serial).moves move → MoveComes meaning w.view was.machine.held serial move
      comes_by serial move there =
          All-contains (MoveComes meaning w.view was.machine.held serial) (moves_at serial).moves move (All-from_recursion (MoveComes meaning w.view was.machine.held serial) (moves_at serial).moves (moves_at serial).came) there

      fresh_view : HasFresh w.view
      fresh_view = subst (λ (o : Option ike.InputView). IsFreshlyGiven o) w.is t.fresh

      stepped_with : (view : ike.InputView) → w.view ≡ view → ike.Steps meaning was.entries view was.machine was.table w.stepped t.gateway.machine t.gateway.table
      stepped_with view is = subst (λ (v : ike.InputView). ike.Steps meaning was.entries v was.machine was.table w.stepped t.gateway.machine t.gateway.table) is w.steps

      -- keys that an IKE SA had it has still
      keys_stay : (serial : ℕ) (a b : Association) → association_of serial was.machine.held.associations ≡ Some a → association_of serial held.associations ≡ Some b → keys_in a.phase ≡ Some keys → keys_in b.phase ≡ Some keys
      keys_stay serial a b stood stands keyed =
          turns.keys meaning was.entries w.view was.machine was.table w.stepped t.gateway.machine t.gateway.table serial keys b t.sound.table t.sound.machine w.steps
          (ap (λ (o : Option Association). option_and_then (λ x. keys_in x.phase) o) stood ∙ keyed) stands

      keyed_serial : (serial : ℕ) (a : Association) → association_of serial held.associations ≡ Some a → keys_in a.phase ≡ Some keys → keys_of_serial serial held.associations ≡ Some keys
      keyed_serial serial a there keyed = ap (λ (o : Option Association). option_and_then (λ x. keys_in x.phase) o) there ∙ keyed

      -- a request that goes out under these keys is stored
      asked_now : (serial number : ℕ) (octets : Octets) → w.stepped.trace.sent ≡ Some (record { ike = serial; response = false; number = number }) → w.stepped.output ≡ output.Request serial octets
          → keys_of_serial serial held.associations ≡ Some keys → HasSent e keys false number octets last
      asked_now serial number octets marked said keyed =
          sent_last false number octets (stored_message e h.said t.trace t.gateway h.before.stored serial number false octets keys
          (ap (λ (x : Trace). x.sent) w.traced ∙ marked) (ap said_octets (w.output ∙ ap view_of_ike said)) keyed)

      sealed_by : (k : KeyRecord) (role : Role) (seal : Octets) (m : Message) (octets : Octets) → k ≡ keys → IsSealed meaning.body_of (keys_of role k) seal m octets → IsSealed body_of (keys_of role keys) seal m octets
      sealed_by k role seal m octets is sealed =
          subst (λ (b : Keys → Octets → Octets → Octets → Octets). IsSealed b (keys_of role keys) seal m octets) (shares.body was.caller)
          (subst (λ (x : KeyRecord). IsSealed meaning.body_of (keys_of role x) seal m octets) is sealed)

      module _ (serial : ℕ) (a : Association) (there : association_of serial held.associations ≡ Some a) (keyed : keys_in a.phase ≡ Some keys) where
        first_now : (sent : AuthSent) → a.phase ≡ phase.AuthSent sent → AsksNow serial w.stepped
            → (asks : List Payload) × HasChildPayloads asks (child_request (asked_of sent.child)) × SentRequest body_of keys e (exchange_of_child First) 1 asks last
        first_now sent is asking =
            let makes = (moves_at serial).no_more.keyed asking.keyed in
            let message = keys_by_message w.view (association_of serial was.machine.held.associations) (comes_by serial (Make makes.0) makes.1) in
            let steps = stepped_with (ike.Message message.from message.octets message.fresh) message.is in
            let seal : HasSeal message.fresh = subst HasFresh message.is fresh_view in
            let asks = kin.asked meaning was.entries message.from message.octets message.fresh was.machine was.table w.stepped serial asking.next t.gateway.machine t.gateway.table t.sound.table t.sound.machine steps asking.said asking.keyed in
            let own : asks.is ≡ a = some_is asks.is a (sym asks.stands ∙ there) in
            let waiting : phase.AuthSent asks.asks.sent ≡ phase.AuthSent sent = sym asks.asks.waits ∙ ap (λ (x : Association). x.phase) own ∙ is in
            let same : asks.asks.sent ≡ sent = cc in
            let keyed_is : keys_in asks.is.phase ≡ Some keys = ap (λ (x : Association). keys_in x.phase) own ∙ keyed in
            let known_keys : asks.asks.sent.keys ≡ keys = some_is asks.asks.sent.keys keys (sym (ap keys_in asks.asks.waits) ∙ keyed_is) in
            let marked = kin.first meaning was.entries message.from message.octets message.fresh was.machine was.table w.stepped t.gateway.machine t.gateway.table serial asking.next steps asking.said asking.keyed in (
              asks.asks.request,
              subst (λ (s : AuthSent). HasChildPayloads asks.asks.request (child_request (asked_of s.child))) same asks.asks.asks,
              record {
                octets = asking.next;
                sent = asked_now serial 1 asking.next marked asking.said (keyed_serial serial a there keyed);
                sealed = record {
                  header = sent_header asks.is.spi_i asks.is.spi_r IKE_AUTH asks.is.role false 1;
                  header_is = record { exchange_is = refl; response_is = refl; number_is = refl };
                  sender = asks.is.role;
                  from_sender = refl;
                  keyed = keys_at asks.is keys asks.is.role (kin.each_whole held serial asks.is whole_new asks.stands) keyed_is;
                  fresh = message.fresh.seal;
                  fresh_octets = seal.octets;
                  fresh_long = seal.many;
                  sealed = sealed_by asks.asks.sent.keys asks.is.role message.fresh.seal _ asking.next known_keys asks.asks.sealed;
                };
              },
            )

        first_asks : (sent : AuthSent) → a.phase ≡ phase.AuthSent sent
            → (asks : List Payload) × HasChildPayloads asks (child_request (asked_of sent.child)) × SentRequest body_of keys e (exchange_of_child First) 1 asks last
        first_asks sent is =
            elim (kin.waits meaning was.entries w.view was.machine was.table w.stepped t.gateway.machine t.gateway.table serial a sent t.sound.table t.sound.machine w.steps there is) [
              | inl before ↦
                  let held_before : HoldsUnder keys e h.before before.was = record { serial = serial; there = before.stood; keyed = ap keys_in before.waited ∙ sym (ap keys_in is) ∙ keyed } in
                  (known.asks e before.was held_before).first sent before.waited
              | inr asking ↦ first_now sent is asking
            ]

        further_before : (number : ℕ) (request : Request) (further : FurtherChild) → request.purpose ≡ purpose.CreateChild further → FurtherWaited serial number request was.machine.held
            → SentRequest body_of keys e (exchange_of_child Further) number (further_payloads (child_request (asked_of further.child)) further.nonce) last
        further_before number request further asked before =
            let asked_then : before.waited.was.purpose ≡ purpose.CreateChild further = sym before.waited.purpose ∙ asked in
            let may = (kin.each_sound was.machine was.table serial before.was t.sound.machine before.stood).soundly.waits number before.waited.was before.waited.there in
            let established = further_established before.was.phase number further (subst (λ (p : Purpose). MayBeOutstanding before.was.phase number p) asked_then may) in
            let keyed_then : keys_in before.was.phase ≡ Some established.0 = ap keys_in established.1 in
            let stays = turns.keys meaning was.entries w.view was.machine was.table w.stepped t.gateway.machine t.gateway.table serial established.0 a t.sound.table t.sound.machine w.steps
            (ap (λ (o : Option Association). option_and_then (λ x. keys_in x.phase) o) before.stood ∙ keyed_then) there in
            let held_before : HoldsUnder keys e h.before before.was = record { serial = serial; there = before.stood; keyed = keyed_then ∙ sym stays ∙ keyed } in
            (known.asks e before.was held_before).further number before.waited.was further before.waited.there asked_then

        further_now : (number : ℕ) (request : Request) (further : FurtherChild) → finite.get a.outgoing.outstanding number ≡ Some request → request.purpose ≡ purpose.CreateChild further
            → FurtherOrdered w.view was.machine.held serial number request w.stepped
            → SentRequest body_of keys e (exchange_of_child Further) number (further_payloads (child_request (asked_of further.child)) further.nonce) last
        further_now number request further outstanding asked ordered =
            let steps = stepped_with (ike.Start (Some serial) ordered.place ordered.fresh) ordered.is in
            let seal : HasSeal ordered.fresh = subst HasFresh ordered.is fresh_view in
            let asks = kin.asked_further meaning was.entries serial ordered.place ordered.fresh was.machine was.table w.stepped t.gateway.machine t.gateway.table t.sound.machine steps in
            let own : asks.is ≡ a = some_is asks.is a (sym asks.stands ∙ there) in
            let one : asking_step serial asks.number asks.octets ≡ asking_step serial number request.octets = sym asks.said ∙ ordered.said in
            let number_is : asks.number ≡ number = (let m = some_is _ _ (ap (λ (x : Stepped). x.trace.sent) one) in ap (λ (x : marks.Mark). x.number) m) in
            let kept : finite.get a.outgoing.outstanding number ≡ Some _ = ap (λ (n : ℕ). finite.get a.outgoing.outstanding n) (sym number_is) ∙ ap (λ (x : Association). finite.get x.outgoing.outstanding asks.number) (sym own) ∙ asks.asks.kept in
            let request_is = some_is request _ (sym outstanding ∙ kept) in
            let purposes : purpose.CreateChild further ≡ purpose.CreateChild asks.asks.further = sym asked ∙ ap (λ (r : Request). r.purpose) request_is in
            let same : asks.asks.further ≡ further = cc in
            let keyed_is : keys_in asks.is.phase ≡ Some keys = ap (λ (x : Association). keys_in x.phase) own ∙ keyed in
            let known_keys : asks.asks.keys ≡ keys = some_is asks.asks.keys keys (sym (ap keys_in asks.asks.established) ∙ keyed_is) in
            let sent = asked_now serial asks.number asks.octets (ap (λ (x : Stepped). x.trace.sent) asks.said) (ap (λ (x : Stepped). x.output) asks.said) (keyed_serial serial a there keyed) in
            let by : SentRequest body_of keys e (exchange_of_child Further) asks.number (further_payloads (child_request (asked_of asks.asks.further.child)) asks.asks.further.nonce) last = record {
              octets = asks.octets;
              sent = sent;
              sealed = record {
                header = sent_header asks.is.spi_i asks.is.spi_r CREATE_CHILD_SA asks.is.role false asks.number;
                header_is = record { exchange_is = refl; response_is = refl; number_is = refl };
                sender = asks.is.role;
                from_sender = refl;
                keyed = keys_at asks.is keys asks.is.role (kin.each_whole held serial asks.is whole_new asks.stands) keyed_is;
                fresh = ordered.fresh.seal;
                fresh_octets = seal.octets;
                fresh_long = seal.many;
                sealed = sealed_by asks.asks.keys asks.is.role ordered.fresh.seal _ asks.octets known_keys asks.asks.sealed;
              };
            } in
            subst (λ (n : ℕ). SentRequest body_of keys e (exchange_of_child Further) n (further_payloads (child_request (asked_of further.child)) further.nonce) last) number_is
            (subst (λ (f : FurtherChild). SentRequest body_of keys e (exchange_of_child Further) asks.number (further_payloads (child_request (asked_of f.child)) f.nonce) last) same by)

        asks_so : AsksForItsChildren body_of keys e a last
        asks_so = record {
          first = first_asks;
          further = λ number request further outstanding asked. elim (kin.waits_further meaning was.entries w.view was.machine was.table w.stepped t.gateway.machine t.gateway.table serial number a request t.sound.machine w.steps there outstanding (ap asks_for_child asked)) [
            | inl before ↦ further_before number request further asked before
            | inr ordered ↦ further_now number request further outstanding asked ordered
          ];
        }

      -- ---- a Child SA that is made

      record Arrives (response : Bool) (serial number : ℕ) : Type 0 where
        association : Association
        there : association_of serial was.machine.held.associations ≡ Some association
        by : Brought meaning w.view association response number

      arrives : (response : Bool) (serial number : ℕ) → ComesFor meaning w.view was.machine.held serial response number → Arrives response serial number
      arrives response serial number comes = record { association = comes.association; there = comes.there; by = brought meaning w.view comes.association response number comes.comes }

      record Arrived (made : MadeChild) : Type 0 where
        response : Bool
        arrival : Arrives response made.ike made.number
        asked : made.asked ≡ response

      arrived : (made : MadeChild) → w.stepped.trace.child ≡ Some made → Arrived made
      arrived made named = elim ((moves_at made.ike).no_more.child made named refl) [
        | inl counted ↦ record { response = true; arrival = arrives true made.ike made.number (comes_by made.ike (Count made.number) counted.1); asked = counted.0 }
        | inr taken ↦ record { response = false; arrival = arrives false made.ike made.number (comes_by made.ike (TakeEffect made.number taken.1.0) taken.1.1); asked = taken.0 }
      ]

      module _ (made : MadeChild) (named : w.stepped.trace.child ≡ Some made) where
        abbrev it : Arrived made
        it = arrived made named

        abbrev message : IsMessage w.view
        message = it.arrival.by.message

        steps_by : ike.Steps meaning was.entries (ike.Message message.from message.octets message.fresh) was.machine was.table w.stepped t.gateway.machine t.gateway.table
        steps_by = stepped_with (ike.Message message.from message.octets message.fresh) message.is

        abbrev setup : Setup
        setup = setup_at was.machine was.entries message.fresh

        makes : MakesChildOf meaning setup message.octets was.machine.held was.table w.stepped made held t.gateway.table
        makes = kin.made meaning was.entries message.from message.octets message.fresh was.machine was.table w.stepped made t.gateway.machine t.gateway.table t.sound.table t.sound.machine steps_by named

        abbrev pair : Pair
        pair = makes.makes.pair

        abbrev stored_child : Child
        stored_child = record {
          end = e;
          serial = made.serial;
          keys = keys;
          asked = made.asked;
          number = made.number;
          inbound = simplex_of pair.inbound.association;
          outbound = simplex_of pair.outbound.association;
          local = pair.local;
          remote = pair.remote;
        }

        child_is : child_by e (Some made) t.gateway ≡ child_with e made (Some makes.makes.keys) (Some pair)
        child_is =
            ap (λ (k : Option KeyRecord). child_with e made k (pair_at t.gateway.table.pairs made.serial))
            (ap (λ (o : Option Association). option_and_then (λ x. keys_in x.phase) o) makes.stands ∙ ap keys_in makes.makes.brings.established)
            ∙ ap (λ (p : Option Pair). child_with e made (Some makes.makes.keys) p) makes.makes.brings.there

        stored_of : IsStoredOf stored_child pair
        stored_of = record { inbound = refl; outbound = refl; local = refl; remote = refl }

        seal : HasSeal message.fresh
        seal = subst HasFresh message.is fresh_view

        own : it.arrival.association ≡ makes.was
        own = some_is it.arrival.association makes.was (sym it.arrival.there ∙ makes.stood)

        -- what came was sent by the other end
        module _ (keyed : keys_in makes.was.phase ≡ Some keys) where
          was_sent : HasSent (other_end e) keys it.response made.number message.octets last
          was_sent = unforged it.response made.number message.octets (record {
            association = it.arrival.association;
            held = record { serial = made.ike; there = it.arrival.there; keyed = ap (λ (x : Association). keys_in x.phase) own ∙ keyed };
            datagram = subst (λ (o : Option ike.InputView). IsDatagram o message.octets) (sym w.is) (subst (λ (v : ike.InputView). IsDatagram (Some v) message.octets) (sym message.is) refl);
            opens = it.arrival.by.opens;
            delivered = ap wants_memory w.output ∙ wants_none w.stepped.output;
          })

          opens_to : (exchange : ℕ) (payloads : List Payload) (plain : Plain) → makes.message.header.exchange ≡ exchange
              → opened_under meaning.plain_of makes.was.role (keys_in makes.was.phase) message.octets makes.message.payloads ≡ Some plain
              → SpellsChain plain.first payloads plain.octets → OpensToPayloads plain_of keys exchange it.response made.number payloads message.octets
          opens_to exchange payloads plain exchange_is opened read =
              let same : it.arrival.by.opens.message ≡ makes.message = kin.one_message it.arrival.by.opens.message makes.message message.octets it.arrival.by.opens.spelled makes.spelled in
              record {
                message = makes.message;
                spelled = makes.spelled;
                header_is = record {
                  exchange_is = exchange_is;
                  response_is = sym (ap (λ (m : Message). m.header.flags.response) same) ∙ it.arrival.by.opens.is_response;
                  number_is = sym makes.number;
                };
                sender = other_role makes.was.role;
                from_sender = sym (ap (λ (m : Message). m.header.flags.initiator) same) ∙ it.arrival.by.opens.from_sender ∙ ap (λ (x : Association). is_initiator (other_role x.role)) own;
                plain = plain;
                opened = subst (λ (p : Opening). plain_of_message p (keys_of (other_role makes.was.role) keys) message.octets makes.message.payloads ≡ Some plain) (shares.plain was.caller)
                    (opened_with meaning.plain_of makes.was.role (keys_in makes.was.phase) keys message.octets makes.message.payloads plain keyed opened);
                read = read;
              }

        answered_for : (kind : ChildKind) (answered : answering.Answered) → w.stepped ≡ stepped_of made.ike makes.message.header.id (effect.Replied answered) → it.response ≡ false
            → AnswersForChild kind meaning setup makes.was message.octets makes.message answered keys pair → WasAnsweredFor body_of plain_of stored_child last
        answered_for kind answered said response is =
            let keyed = may_keys kind makes.was.phase keys is.was in
            record {
              kind = kind;
              request = message.octets;
              requested = subst (λ (b : Bool). HasSent (other_end e) keys b made.number message.octets last) response (was_sent keyed);
              asks = is.request;
              opened = subst (λ (b : Bool). OpensToPayloads plain_of keys (exchange_of_child kind) b made.number is.request message.octets) response (opens_to keyed (exchange_of_child kind) is.request is.plain is.exchange is.opened is.read);
              response = answered.octets;
              responded = sent_last true made.number answered.octets (stored_message e h.said t.trace t.gateway h.before.stored made.ike made.number true answered.octets keys
                  (ap (λ (x : Trace). x.sent) w.traced ∙ ap (λ (x : Stepped). x.trace.sent) said ∙ ap (λ (n : ℕ). Some (record { ike = made.ike; response = true; number = n })) (sym makes.number))
                  (ap said_octets (w.output ∙ ap (λ (x : Stepped). view_of_ike x.output) said))
                  (keyed_serial made.ike makes.is makes.stands (keys_stay made.ike makes.was makes.is makes.stood makes.stands keyed)));
              answers = is.reply;
              sealed = record {
                header = sent_header makes.was.spi_i makes.was.spi_r (exchange_of_child kind) makes.was.role true makes.message.header.id;
                header_is = record { exchange_is = refl; response_is = refl; number_is = sym makes.number };
                sender = makes.was.role;
                from_sender = refl;
                keyed = keys_at makes.was keys makes.was.role (kin.each_whole was.machine.held made.ike makes.was whole_old makes.stood) keyed;
                fresh = message.fresh.seal;
                fresh_octets = seal.octets;
                fresh_long = seal.many;
                sealed = sealed_by keys makes.was.role message.fresh.seal _ answered.octets refl is.sealed;
              };
              pair = pair;
              stored_of = stored_of;
              is = is.is.child;
            }

        held_before : keys_in makes.was.phase ≡ Some keys → HoldsUnder keys e h.before makes.was
        held_before keyed = record { serial = made.ike; there = makes.stood; keyed = keyed }

        ended_first : it.response ≡ true → EndsWithChild meaning makes.was message.octets makes.message keys pair → WasAskedFor body_of plain_of stored_child last
        ended_first response is =
            let keyed : keys_in makes.was.phase ≡ Some keys = ap keys_in is.was ∙ ap (λ (k : KeyRecord). Some k) is.same_keys in
            let may = (kin.each_sound was.machine was.table made.ike makes.was t.sound.machine makes.stood).soundly.waits makes.message.header.id is.request is.outstanding in
            let one : makes.message.header.id ≡ 1 = (subst (λ (p : Phase). MayBeOutstanding p makes.message.header.id is.request.purpose) is.was may).0 in
            let asking = (known.asks e makes.was (held_before keyed)).first is.sent is.was in
            record {
              kind = First;
              request = asking.2.octets;
              requested = subst (λ (n : ℕ). HasSent e keys false n asking.2.octets last) (sym (makes.number ∙ one)) asking.2.sent;
              asks = asking.0;
              sealed = subst (λ (n : ℕ). SealsPayloads body_of keys (exchange_of_child First) false n asking.0 asking.2.octets) (sym (makes.number ∙ one)) asking.2.sealed;
              proposal = asked_proposal (asked_of is.sent.child);
              offers = asking.1.sa;
              response = message.octets;
              responded = subst (λ (b : Bool). HasSent (other_end e) keys b made.number message.octets last) response (was_sent keyed);
              answers = is.reply;
              opened = subst (λ (b : Bool). OpensToPayloads plain_of keys (exchange_of_child First) b made.number is.reply message.octets) response (opens_to keyed (exchange_of_child First) is.reply is.plain is.exchange is.opened is.read);
              pair = pair;
              stored_of = stored_of;
              is = is.is.made asking.0 asking.1;
            }

        ended_further : it.response ≡ true → EndsWithFurther meaning makes.was message.octets makes.message keys pair → WasAskedFor body_of plain_of stored_child last
        ended_further response is =
            let keyed : keys_in makes.was.phase ≡ Some keys = ap keys_in is.was in
            let asking = (known.asks e makes.was (held_before keyed)).further makes.message.header.id is.request is.further is.outstanding is.asked in
            record {
              kind = Further;
              request = asking.octets;
              requested = subst (λ (n : ℕ). HasSent e keys false n asking.octets last) (sym makes.number) asking.sent;
              asks = further_payloads (child_request (asked_of is.further.child)) is.further.nonce;
              sealed = subst (λ (n : ℕ). SealsPayloads body_of keys (exchange_of_child Further) false n (further_payloads (child_request (asked_of is.further.child)) is.further.nonce) asking.octets) (sym makes.number) asking.sealed;
              proposal = asked_proposal (asked_of is.further.child);
              offers = refl;
              response = message.octets;
              responded = subst (λ (b : Bool). HasSent (other_end e) keys b made.number message.octets last) response (was_sent keyed);
              answers = is.reply;
              opened = subst (λ (b : Bool). OpensToPayloads plain_of keys (exchange_of_child Further) b made.number is.reply message.octets) response (opens_to keyed (exchange_of_child Further) is.reply is.plain is.exchange is.opened is.read);
              pair = pair;
              stored_of = stored_of;
              is = is.is.made;
            }

        made_by : (e : Effect) → w.stepped ≡ stepped_of made.ike makes.message.header.id e → MadeBy meaning setup makes.was message.octets makes.message e keys pair → WasMade made.asked body_of plain_of stored_child last
        made_by (effect.Refused fault) said is = absurd is
        made_by (effect.Repeated octets) said is = absurd is
        made_by (effect.Again next) said is = absurd is
        made_by (effect.AsksAuth next) said is = absurd is
        made_by (effect.Replied answered) said is =
            let asked = asked_is made.ike makes.message.header.id false (serial_made answered.fate) made (sym (ap (λ (x : Stepped). x.trace.child) said) ∙ named) in
            subst (λ (b : Bool). WasMade b body_of plain_of stored_child last) (sym asked) (answered_for is.0 answered said (sym it.asked ∙ asked) is.1)
        made_by (effect.Counted ended) said is =
            let asked = asked_is made.ike makes.message.header.id true (serial_made ended.fate) made (sym (ap (λ (x : Stepped). x.trace.child) said) ∙ named) in
            subst (λ (b : Bool). WasMade b body_of plain_of stored_child last) (sym asked) (elim is [
              | inl first ↦ ended_first (sym it.asked ∙ asked) first
              | inr further ↦ ended_further (sym it.asked ∙ asked) further
            ])

        was_made : (child : Child) → child_by e (Some made) t.gateway ≡ Some child → child.keys ≡ keys → WasMade child.asked body_of plain_of child last
        was_made child is under =
            let stored : child_with e made (Some makes.makes.keys) (Some pair) ≡ Some child = sym child_is ∙ is in
            let same : record stored_child { keys = makes.makes.keys } ≡ child = some_is _ child stored in
            let known_keys : makes.makes.keys ≡ keys = ap (λ (c : Child). c.keys) same ∙ under in
            let moved : stored_child ≡ child = ap (λ (k : KeyRecord). record stored_child { keys = k }) (sym known_keys) ∙ same in
            subst (λ (c : Child). WasMade c.asked body_of plain_of c last) moved
            (made_by makes.effect makes.said (subst (λ (k : KeyRecord). MadeBy meaning setup makes.was message.octets makes.message makes.effect k pair) known_keys makes.makes.made))

    -- ---- at the end at which the event took place

    asks_here : (a : Association) → HoldsUnder keys e h.after a → AsksForItsChildren body_of keys e a last
    asks_here a holds =
        let there : association_of holds.serial t.gateway.machine.held.associations ≡ Some a = ap (λ (s : State C). association_in s holds.serial) (sym here) ∙ holds.there in
        elim (way_of meaning h.event.input was h.said t.trace t.gateway t.traces.does) [
          | inl w ↦ asks_so w holds.serial a there holds.keyed
          | inr still ↦ known.asks e a (record { serial = holds.serial; there = ap (λ (m : Machine). association_of holds.serial m.held.associations) (sym still.machine) ∙ there; keyed = holds.keyed })
        ]

    made_here : (child : Child) → child_by e t.trace.child t.gateway ≡ Some child → child.keys ≡ keys → WasMade child.asked body_of plain_of child last
    made_here child is under = elim (way_of meaning h.event.input was h.said t.trace t.gateway t.traces.does) [
      | inl w ↦ by_trace w t.trace.child refl is
      | inr still ↦ absurd (none_some child (sym (ap (λ (x : Trace). child_by e x.child t.gateway) still.traced) ∙ is))
    ] where
      by_trace : (w : Answered meaning (for_ike h.event.input) was h.said t.trace t.gateway) (o : Option MadeChild) → t.trace.child ≡ o → child_by e o t.gateway ≡ Some child → WasMade child.asked body_of plain_of child last
      by_trace w None named is = absurd (none_some child is)
      by_trace w (Some made) named is = was_made w made (sym (ap (λ (x : Trace). x.child) w.traced) ∙ named) child is under

    asks_there : (a : Association) → HoldsUnder keys (other_end e) h.after a → AsksForItsChildren body_of keys (other_end e) a last
    asks_there a holds = known.asks (other_end e) a (record {
      serial = holds.serial;
      there = ap (λ (s : State C). association_in s holds.serial) (sym (ap (λ (w : WorldState C). gateway_at (other_end e) w) t.content ∙ gateway_there e t.gateway now h.before)) ∙ holds.there;
      keyed = holds.keyed;
    })

    made_after : (child : Child) → Contains h.after.stored.children child → child.keys ≡ keys → WasMade child.asked body_of plain_of child last
    made_after child there under =
        elim (Contains-append_cases h.before.stored.children (option_to_list (child_by e t.trace.child t.gateway)) child (subst (λ (s : Stored). Contains s.children child) stored_now there)) [
          | inl old ↦ known.made child old under
          | inr new ↦ made_here child (child_there child (child_by e t.trace.child t.gateway) new) under
        ]

    pub known_after : AccountsForChildren body_of plain_of keys h.after last
    known_after = record {
      asks = each_end (λ end. (a : Association) → HoldsUnder keys end h.after a → AsksForItsChildren body_of keys end a last) e asks_here asks_there;
      made = made_after;
    }
