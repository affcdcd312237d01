-- Who waits for the answer to a request for an additional Child SA waited before, or is told to ask now.
use Rattle.std.proofs.Common.{◌≡◌, ◌⊎◌, inl, inr, ℕ, Bool, true, false, List, Some, None, arith, max, ap, refl, subst, sym, ◌∙◌}
use Rattle.std.specs.FinMap as map
use Rattle.std.specs.Ordering.{nat_cmp}
use Rattle.base.specs.Octets.{Octets}
use Rattle.base.specs.declared.selector.Selector.{Selector}
use Rattle.policy.specs.declared.entry.Entry.{Entry}
use Rattle.suite.specs.declared.fresh.Fresh.{Fresh}
use Rattle.suite.specs.declared.keys.Keys.{Keys}
use Rattle.suite.specs.declared.sealer.Cipher.{Cipher}
use Rattle.wire.specs.declared.message.Message.{Message}
use Rattle.sadb.specs.Database.{Database}
use Rattle.policy.specs.Decisions.{local_side, remote_side}
use Rattle.association.specs.AskedChildren.{AskedChildView}
use Rattle.association.specs.Purposes.{asks_for_child}
use Rattle.association.specs.declared.phase.Association.{Association}
use Rattle.association.specs.declared.phase.Request.{Request}
use Rattle.association.specs.declared.purpose.Purpose.TheVariants.{CreateChild}
use Rattle.initial.specs.Beginning.{begun, Begins}
use Rattle.setup.specs.Configs.{Setup}
use Rattle.association.specs.Issuing.{new_request}
use Rattle.initial.specs.declared.beginning.Beginning.{Beginning}
use Rattle.informational.specs.Asking.{Asks}
use Rattle.informational.specs.declared.ordering.Order.{Order}
use Rattle.informational.specs.declared.ordering.Order.TheVariants as asked
use Rattle.create_child.specs.Asking.{AsksForFurther}
use Rattle.effects.specs.Children.{AsksForFurtherChild}
use Rattle.effects.specs.Requests.{IsSoundlyHeld}
use Rattle.effects.specs.Sending.{SendsRequest}
use Rattle.effects.specs.Taking.{Meaning, KeepsIdentity, TakesMessage}
use Rattle.effects.specs.declared.taking.Effect.{Effect}
use Rattle.ike.specs.Asking.{AsksFor, AsksThat}
use Rattle.ike.specs.Children.{AsksForFurtherNow, FurtherOrdered, FurtherWaited}
use Rattle.ike.specs.Machines.{association_of, setup_at, Held, Machine}
use Rattle.ike.specs.Moments.{WaitsAt}
use Rattle.ike.specs.Outputs.{asking_step}
use Rattle.ike.specs.Soundness.{AreSound, IsSoundMachine}
use Rattle.ike.specs.Starting.{child_by, FurthersBy}
use Rattle.ike.specs.Steps as steps
use Rattle.ike.specs.Steps.{InputView, Steps}
use Rattle.ike.specs.Orders.{OrderView}
use Rattle.ike.specs.Orders as orders
use Rattle.ike.specs.declared.output.Stepped.{Stepped}
use Rattle.ike.proofs.AskingLemmas.{changed_itself, probed_serial}
use Rattle.ike.proofs.MoveLemmas.{at_changed, at_grown}
use Rattle.ike.proofs.SerialLemmas.{same_one}
use Rattle.ike.proofs.TickLemmas.{ticked_stood, TicksHold}
use Rattle.ike.proofs.WayLemmas.{datagram_came, joined, stood, taken, AdmitsOne, Came, StartsOne, Takes}

-- what is known of one IKE SA
pub record FurtherLaws : Type 0 where
  pub itself : (meaning : Meaning) (setup : Setup) (old : Association) (table : Database) (octets : Octets) (m : Message) (e : Effect) (new : Association) (new_table : Database)
      → TakesMessage meaning setup old table octets m e new new_table → KeepsIdentity old new
  pub waits : (meaning : Meaning) (setup : Setup) (old : Association) (table : Database) (octets : Octets) (m : Message) (e : Effect) (new : Association) (new_table : Database) (number : ℕ) (request : Request)
      → IsSoundlyHeld old → map.get new.outgoing.outstanding number ≡ Some request → asks_for_child request.purpose ≡ true → TakesMessage meaning setup old table octets m e new new_table
      → map.get old.outgoing.outstanding number ≡ Some request
  pub ordered : (body_of : Keys → Octets → Octets → Octets → Octets) (setup : Setup) (order : Order) (old : Association) (octets : Octets) (new : Association) (number : ℕ) (request : Request)
      → Asks body_of setup order old octets new → map.get new.outgoing.outstanding number ≡ Some request → asks_for_child request.purpose ≡ true → map.get old.outgoing.outstanding number ≡ Some request
  pub asked : (body_of : Keys → Octets → Octets → Octets → Octets) (setup : Setup) (local remote : Selector) (old : Association) (table : Database) (octets : Octets) (new : Association) (new_table : Database)
      → AsksForFurther body_of setup local remote old table octets new new_table → AsksForFurtherChild body_of setup old.outgoing.next octets new
  pub next : (body_of : Keys → Octets → Octets → Octets → Octets) (setup : Setup) (old : Association) (octets : Octets) (new : Association) (number : ℕ) (request : Request)
      → SendsRequest body_of setup old octets new → map.get new.outgoing.outstanding number ≡ Some request → (map.get old.outgoing.outstanding number ≡ Some request) ⊎ (number ≡ old.outgoing.next)
  pub begun_soundly : (cipher : Cipher) (group : ℕ) (public_value : Octets → Octets) (fresh : Fresh) (moment serial : ℕ) (beginning : Beginning) (child : AskedChildView)
      → Begins cipher group public_value fresh moment beginning → IsSoundlyHeld (begun serial beginning child)

-- ---- a command for an additional Child SA sends its request

pub asks_now : FurtherLaws → (meaning : Meaning) (setup : Setup) (ike place : ℕ) (old : Held) (table : Database) (stepped : Stepped) (new : Held) (new_table : Database)
    → AreSound old table → FurthersBy meaning setup ike place old table stepped new new_table → AsksForFurtherNow meaning.body_of setup ike stepped new
asks_now laws meaning setup ike place old table stepped new new_table sound is =
    let p = is.asks.asks in
    let stays = changed_itself meaning.body_of setup ike old stepped new p in
    let named : p.association.serial ≡ ike = probed_serial meaning.body_of setup ike old stepped new p in
    record {
      number = p.association.outgoing.next;
      octets = p.octets;
      said = p.said;
      is = p.changed;
      stands = elim (at_changed old table p.place p.association p.changed new ike sound p.there stays.serial p.content) [
        | inl (here, before, after) ↦ after
        | inr (apart, same) ↦ absurd (apart (sym named))
      ];
      asks = laws.asked meaning.body_of setup (local_side is.entry) (remote_side is.entry) p.association table p.octets p.changed new_table is.asks.further;
    }

pub step_asks_now : FurtherLaws → (meaning : Meaning) (entries : List Entry) (ike place : ℕ) (fresh : Fresh) (old : Machine) (table : Database) (stepped : Stepped) (new : Machine) (new_table : Database)
    → IsSoundMachine old table → Steps meaning entries (steps.Start (Some ike) place fresh) old table stepped new new_table
    → AsksForFurtherNow meaning.body_of (setup_at old entries fresh) ike stepped new.held
step_asks_now laws meaning entries ike place fresh old table stepped new new_table sound is =
    asks_now laws meaning (setup_at old entries fresh) ike place old.held table stepped new.held new_table sound.held is.1

-- ---- who waits for the answer

same_request : (one other : Request) → Some one ≡ Some other → one ≡ other
same_request one other is = cc

none_first : (number : ℕ) (request : Request) → map.get {R = nat_cmp} (map.empty {X = Request}) number ≡ Some request → ⊥
none_first number request is = let none : map.get {R = nat_cmp} (map.empty {X = Request}) number ≡ None = map.get-empty nat_cmp number in cc

yes_no : (b : Bool) → b ≡ true → b ≡ false → ⊥
yes_no b one other = cc

-- the request as it waits at the IKE SA that stands there
request_of : (held : Held) (ike number : ℕ) (request : Request) (a b : Association) → association_of ike held.associations ≡ Some a → map.get a.outgoing.outstanding number ≡ Some request
    → association_of ike held.associations ≡ Some b → map.get b.outgoing.outstanding number ≡ Some request
request_of held ike number request a b stands there after = subst (λ (x : Association). map.get x.outgoing.outstanding number ≡ Some request) (same_one a b (sym stands ∙ after)) there

waited : (old : Held) (ike number : ℕ) (request : Request) (a : Association) → association_of ike old.associations ≡ Some a → map.get a.outgoing.outstanding number ≡ Some request → FurtherWaited ike number request old
waited old ike number request a before there = record { was = a; stood = before; waited = record { was = request; there = there; octets = refl; purpose = refl } }

took_further : (laws : FurtherLaws) (meaning : Meaning) (setup : Setup) (octets : Octets) (old : Held) (table : Database) (stepped : Stepped) (new : Held) (new_table : Database) (ike number : ℕ) (a : Association) (request : Request)
    → AreSound old table → Takes meaning setup octets old table stepped new new_table → association_of ike new.associations ≡ Some a → map.get a.outgoing.outstanding number ≡ Some request
    → asks_for_child request.purpose ≡ true → FurtherWaited ike number request old
took_further laws meaning setup octets old table stepped new new_table ike number a request sound is stands there asks =
    let t = is.takes in
    let held = (sound.each is.place t.association t.there).soundly in
    let stays = laws.itself meaning setup t.association table octets is.message t.effect t.changed new_table t.takes in
    elim (at_changed old table is.place t.association t.changed new ike sound t.there stays.serial t.content) [
      | inl (here, before, after) ↦ waited old ike number request t.association before
          (laws.waits meaning setup t.association table octets is.message t.effect t.changed new_table number request held (request_of new ike number request a t.changed stands there after) asks t.takes)
      | inr (apart, same) ↦ waited old ike number request a (sym same ∙ stands) there
    ]

admitted_further : (meaning : Meaning) (setup : Setup) (octets : Octets) (old : Held) (table : Database) (stepped : Stepped) (new : Held) (new_table : Database) (ike number : ℕ) (a : Association) (request : Request)
    → AreSound old table → AdmitsOne meaning setup octets old table stepped new new_table → association_of ike new.associations ≡ Some a → map.get a.outgoing.outstanding number ≡ Some request
    → FurtherWaited ike number request old
admitted_further meaning setup octets old table stepped new new_table ike number a request sound is stands there =
    let b = is.admits.admitted.association in
    let content = is.admits.admits.content in
    elim (at_grown old table b new ike sound (ap (λ (x : Association). x.serial) content) is.admits.content) [
      | inl (here, before, after) ↦
          absurd (none_first number request (sym (ap (λ (x : Association). map.get x.outgoing.outstanding number) content) ∙ request_of new ike number request a b stands there after))
      | inr (apart, same) ↦ waited old ike number request a (sym same ∙ stands) there
    ]

started_further : (laws : FurtherLaws) (meaning : Meaning) (setup : Setup) (old : Held) (table : Database) (stepped : Stepped) (new : Held) (new_table : Database) (ike number : ℕ) (a : Association) (request : Request)
    → AreSound old table → StartsOne meaning setup old table stepped new new_table → association_of ike new.associations ≡ Some a → map.get a.outgoing.outstanding number ≡ Some request
    → asks_for_child request.purpose ≡ true → FurtherWaited ike number request old
started_further laws meaning setup old table stepped new new_table ike number a request sound is stands there asks =
    let s = is.starts in
    let child : AskedChildView = child_by s.entry s.done.spi setup.config.extended in
    let held = laws.begun_soundly meaning.cipher meaning.group meaning.public_value setup.fresh setup.moment old.next s.beginning child s.begins in
    elim (at_grown old table (begun old.next s.beginning child) new ike sound refl s.done.content) [
      | inl (here, before, after) ↦
          let may = held.waits number request (request_of new ike number request a (begun old.next s.beginning child) stands there after) in
          absurd (yes_no true refl (sym asks ∙ ap asks_for_child may.1))
      | inr (apart, same) ↦ waited old ike number request a (sym same ∙ stands) there
    ]

that_further : (laws : FurtherLaws) (meaning : Meaning) (setup : Setup) (asker : ℕ) (order : Order) (old : Held) (table : Database) (stepped : Stepped) (new : Held) (new_table : Database) (ike number : ℕ) (a : Association) (request : Request)
    → AreSound old table → AsksThat meaning.body_of setup asker order old table stepped new new_table → association_of ike new.associations ≡ Some a → map.get a.outgoing.outstanding number ≡ Some request
    → asks_for_child request.purpose ≡ true → FurtherWaited ike number request old
that_further laws meaning setup asker order old table stepped new new_table ike number a request sound is stands there asks =
    let p = is.asks in
    let stays = changed_itself meaning.body_of setup asker old stepped new p in
    elim (at_changed old table p.place p.association p.changed new ike sound p.there stays.serial p.content) [
      | inl (here, before, after) ↦ waited old ike number request p.association before
          (laws.ordered meaning.body_of setup order p.association p.octets p.changed number request is.ordered (request_of new ike number request a p.changed stands there after) asks)
      | inr (apart, same) ↦ waited old ike number request a (sym same ∙ stands) there
    ]

ordered_further : (laws : FurtherLaws) (meaning : Meaning) (setup : Setup) (what : OrderView) (old : Held) (table : Database) (stepped : Stepped) (new : Held) (new_table : Database) (ike number : ℕ) (a : Association) (request : Request)
    → AreSound old table → AsksFor meaning.body_of setup what old table stepped new new_table → association_of ike new.associations ≡ Some a → map.get a.outgoing.outstanding number ≡ Some request
    → asks_for_child request.purpose ≡ true → FurtherWaited ike number request old
ordered_further laws meaning setup (orders.Probe asker) old table stepped new new_table ike number a request sound is stands there asks =
    that_further laws meaning setup asker asked.Probe old table stepped new new_table ike number a request sound is stands there asks
ordered_further laws meaning setup (orders.DeleteChild child) old table stepped new new_table ike number a request sound is stands there asks =
    that_further laws meaning setup is.pair.ike (asked.DeleteChild child is.pair.inbound.association.spi) old table stepped new new_table ike number a request sound is.asks stands there asks
ordered_further laws meaning setup (orders.DeleteIke asker) old table stepped new new_table ike number a request sound is stands there asks =
    that_further laws meaning setup asker asked.DeleteAssociation old table stepped new new_table ike number a request sound is stands there asks

-- the IKE SA that is told to ask waits for what it asks now, too
now_further : (laws : FurtherLaws) (meaning : Meaning) (setup : Setup) (asker place : ℕ) (old : Held) (table : Database) (stepped : Stepped) (new : Held) (new_table : Database) (ike number : ℕ) (a : Association) (request : Request)
    → AreSound old table → FurthersBy meaning setup asker place old table stepped new new_table → association_of ike new.associations ≡ Some a → map.get a.outgoing.outstanding number ≡ Some request
    → FurtherWaited ike number request old ⊎ ((ike ≡ asker) × (stepped ≡ asking_step ike number request.octets) × ((before : Request) → WaitsAt old ike number before → ⊥))
now_further laws meaning setup asker place old table stepped new new_table ike number a request sound is stands there =
    let p = is.asks.asks in
    let stays = changed_itself meaning.body_of setup asker old stepped new p in
    let named : p.association.serial ≡ asker = probed_serial meaning.body_of setup asker old stepped new p in
    let asks = laws.asked meaning.body_of setup (local_side is.entry) (remote_side is.entry) p.association table p.octets p.changed new_table is.asks.further in
    elim (at_changed old table p.place p.association p.changed new ike sound p.there stays.serial p.content) [
      | inl (here, before, after) ↦
          let waits = request_of new ike number request a p.changed stands there after in
          elim (laws.next meaning.body_of setup p.association p.octets p.changed number request p.sends waits) [
            | inl was ↦ inl (waited old ike number request p.association before was)
            | inr now ↦
                let its : new_request p.octets (CreateChild asks.further) setup.moment ≡ request =
                same_request _ request (sym asks.kept ∙ subst (λ (n : ℕ). map.get p.changed.outgoing.outstanding n ≡ Some request) now waits) in
                inr (
                  here ∙ named,
                  p.said ∙ ap (λ (n : ℕ). asking_step n p.association.outgoing.next p.octets) (sym (here ∙ named)) ∙ ap (λ (n : ℕ). asking_step ike n p.octets) (sym now)
                      ∙ ap (λ (r : Request). asking_step ike number r.octets) its,
                  λ earlier waited_there.
                      let less = (sound.each p.place p.association p.there).soundly.issued number earlier
                      (request_of old ike number earlier waited_there.association p.association waited_there.there waited_there.waits before) in
                      omega (arith, less, now),
                )
          ]
      | inr (apart, same) ↦ inl (waited old ike number request a (sym same ∙ stands) there)
    ]

came_further : (laws : FurtherLaws) (meaning : Meaning) (setup : Setup) (octets : Octets) (old : Held) (table : Database) (stepped : Stepped) (new : Held) (new_table : Database) (ike number : ℕ) (a : Association) (request : Request)
    → AreSound old table → Came meaning setup octets old table stepped new new_table → association_of ike new.associations ≡ Some a → map.get a.outgoing.outstanding number ≡ Some request
    → asks_for_child request.purpose ≡ true → FurtherWaited ike number request old
came_further laws meaning setup octets old table stepped new new_table ike number a request sound (stood is) stands there asks =
    waited old ike number request a (sym (ap (λ (h : Held). association_of ike h.associations) is.same) ∙ stands) there
came_further laws meaning setup octets old table stepped new new_table ike number a request sound (taken is) stands there asks =
    took_further laws meaning setup octets old table stepped new new_table ike number a request sound is stands there asks
came_further laws meaning setup octets old table stepped new new_table ike number a request sound (joined is) stands there asks =
    admitted_further meaning setup octets old table stepped new new_table ike number a request sound is stands there

pub step_further : FurtherLaws → TicksHold → (meaning : Meaning) (entries : List Entry) (input : InputView) (old : Machine) (table : Database) (stepped : Stepped) (new : Machine) (new_table : Database) (ike number : ℕ) (a : Association) (request : Request)
    → IsSoundMachine old table → Steps meaning entries input old table stepped new new_table → association_of ike new.held.associations ≡ Some a → map.get a.outgoing.outstanding number ≡ Some request
    → asks_for_child request.purpose ≡ true → FurtherWaited ike number request old.held ⊎ FurtherOrdered input old.held ike number request stepped
step_further laws hold meaning entries (steps.Message from octets fresh) old table stepped new new_table ike number a request sound is stands there asks =
    inl (came_further laws meaning (setup_at old entries fresh) octets old.held table stepped new.held new_table ike number a request sound.held
    (datagram_came meaning (setup_at old entries fresh) old.cookies from octets old.held table stepped new.held new_table is.1) stands there asks)
step_further laws hold meaning entries (steps.Start None place fresh) old table stepped new new_table ike number a request sound is stands there asks =
    inl (started_further laws meaning (setup_at old entries fresh) old.held table stepped new.held new_table ike number a request sound.held (record { place = place; starts = is.1 }) stands there asks)
step_further laws hold meaning entries (steps.Start (Some asker) place fresh) old table stepped new new_table ike number a request sound is stands there asks =
    elim (now_further laws meaning (setup_at old entries fresh) asker place old.held table stepped new.held new_table ike number a request sound.held is.1 stands there) [
      | inl was ↦ inl was
      | inr (same, said, none) ↦ inr (record { place = place; fresh = fresh; is = ap (λ n. steps.Start (Some n) place fresh) (sym same); said = said; none_waited = none })
    ]
step_further laws hold meaning entries (steps.Order what fresh) old table stepped new new_table ike number a request sound is stands there asks =
    inl (ordered_further laws meaning (setup_at old entries fresh) what old.held table stepped new.held new_table ike number a request sound.held is.1 stands there asks)
step_further laws hold meaning entries (steps.Secret secret) old table stepped new new_table ike number a request sound is stands there asks =
    inl (waited old.held ike number request a (sym (ap (λ (m : Machine). association_of ike m.held.associations) is.content) ∙ stands) there)
step_further laws hold meaning entries (steps.Tick moment) old table stepped new new_table ike number a request sound is stands there asks =
    let now = max old.moment moment in
    let before = ticked_stood now old.held new.held table ike a sound.held (hold now old.held.associations table is.takes.ticked new.held.associations new_table is.takes.ticks) stands in
    inl (record { was = before.was; stood = before.stood; waited = before.on.requests number request there })
