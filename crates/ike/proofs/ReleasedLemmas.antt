-- Each SPI that is reserved in the table is held by an IKE SA, after a step as before it.
use Rattle.std.proofs.Common.{◌≡◌, ◌≢◌, ◌⊎◌, ◌+◌, ◌++◌, ◌∷◌, inl, inr, ℕ, zero, suc, Bool, true, false, List, [], length, Some, None, ap, max, refl, subst, sym, ◌∙◌}
use Rattle.std.proofs.lemmas.Bool.Decides.{eqb_tells}
use Rattle.std.specs.List.{slice_get}
use Rattle.std.specs.Option.{option_map}
use Rattle.std.specs.Prelude.{slice_set, if◌then◌else◌}
use Rattle.base.specs.Octets.{Octets}
use Rattle.base.specs.declared.selector.Selector.{Selector}
use Rattle.wire.specs.declared.message.Message.{Message}
use Rattle.policy.specs.declared.entry.Entry.{Entry}
use Rattle.policy.specs.Decisions.{local_side, remote_side}
use Rattle.suite.specs.declared.keys.Keys.{Keys}
use Rattle.sadb.specs.Database.{Database, IsAsBefore, IsReserved, RemovesAllOf, Reserves}
use Rattle.association.specs.Closing.{Closes, HoldsSpi}
use Rattle.association.specs.Phases.{spi_in}
use Rattle.association.specs.Purposes.{spi_asked, AwaitsSpi}
use Rattle.association.specs.declared.phase.Association.{Association}
use Rattle.association.specs.declared.phase.Request.{Request}
use Rattle.initial.specs.Beginning.{begun}
use Rattle.setup.specs.Configs.{Setup}
use Rattle.informational.specs.declared.ordering.Order.{Order}
use Rattle.informational.specs.declared.ordering.Order.TheVariants as asked
use Rattle.create_child.specs.Asking.{AsksForFurther}
use Rattle.moments.specs.Due.{after_sending, has_failed, is_due, is_over, SendsAgain}
use Rattle.moments.specs.Ticking.{PassAll, PassesBy}
use Rattle.moments.specs.declared.resent.Resent.{Resent}
use Rattle.effects.specs.Requests.{IsSoundlyHeld}
use Rattle.effects.specs.Sending.{SendsRequest}
use Rattle.effects.specs.Taking.{Meaning, TakesMessage}
use Rattle.effects.specs.declared.taking.Effect.{Effect}
use Rattle.ike.specs.Asking.{AsksAt, AsksFor, AsksThat}
use Rattle.ike.specs.Machines.{setup_at, Held, Machine}
use Rattle.ike.specs.Soundness.{AreReservationsHeld, AreSound, HoldsReservation, IsSoundMachine}
use Rattle.ike.specs.Starting.{child_by, BeginsBy, FurthersBy}
use Rattle.ike.specs.Steps.{InputView, Steps}
use Rattle.ike.specs.Steps as steps
use Rattle.ike.specs.Orders.{OrderView}
use Rattle.ike.specs.Orders as orders
use Rattle.ike.specs.declared.output.Stepped.{Stepped}
use Rattle.ike.proofs.MarkLemmas.{marked_but}
use Rattle.ike.proofs.WayLemmas.{datagram_came, joined, stood, taken, AdmitsOne, Came, Takes}

-- what is known of a message, of a request that goes out, of an SPI that is given, and of who is held no
-- longer
pub record ReleaseLaws : Type 0 where
  pub message : (meaning : Meaning) (setup : Setup) (old : Association) (table : Database) (octets : Octets) (m : Message) (effect : Effect) (new : Association) (new_table : Database) (spi : ℕ)
      → IsSoundlyHeld old → TakesMessage meaning setup old table octets m effect new new_table → IsReserved new_table spi → IsReserved table spi × (HoldsSpi old spi → HoldsSpi new spi)
  pub request : (body_of : Keys → Octets → Octets → Octets → Octets) (setup : Setup) (old : Association) (octets : Octets) (new : Association) (spi : ℕ)
      → IsSoundlyHeld old → SendsRequest body_of setup old octets new → HoldsSpi old spi → HoldsSpi new spi
  pub given : (table between new_table : Database) (next spi : ℕ) → IsAsBefore table between → Reserves between next new_table → IsReserved new_table spi → IsReserved table spi ⊎ (spi ≡ next)
  pub over : (now : ℕ) (a : Association) (spi : ℕ) → IsSoundlyHeld a → is_over now a.phase ≡ true → HoldsSpi a spi → ⊥
  pub own : (body_of : Keys → Octets → Octets → Octets → Octets) (setup : Setup) (local remote : Selector) (old : Association) (table : Database) (octets : Octets) (new : Association) (new_table : Database)
      → AsksForFurther body_of setup local remote old table octets new new_table → HoldsSpi new (table.start + table.given)

-- ---- lists

set_here : {A : Type 0} (xs : List A) (i : ℕ) (y x : A) → slice_get xs i ≡ Some x → slice_get (slice_set xs i y) i ≡ Some y
set_here [] i y x is = absurd cc
set_here (x ∷ xs) zero y z is = refl
set_here (x ∷ xs) (suc i) y z is = set_here xs i y z is

set_there : {A : Type 0} (xs : List A) (i : ℕ) (y : A) (k : ℕ) (b : A) → k ≢ i → slice_get xs k ≡ Some b → slice_get (slice_set xs i y) k ≡ Some b
set_there [] i y k b apart is = absurd cc
set_there (x ∷ xs) zero y zero b apart is = absurd (apart refl)
set_there (x ∷ xs) zero y (suc k) b apart is = is
set_there (x ∷ xs) (suc i) y zero b apart is = is
set_there (x ∷ xs) (suc i) y (suc k) b apart is = set_there xs i y k b (λ e. apart (ap suc e)) is

left_there : {A : Type 0} (xs ys : List A) (k : ℕ) (b : A) → slice_get xs k ≡ Some b → slice_get (xs ++ ys) k ≡ Some b
left_there [] ys k b is = absurd cc
left_there (x ∷ xs) ys zero b is = is
left_there (x ∷ xs) ys (suc k) b is = left_there xs ys k b is

last_there : {A : Type 0} (xs : List A) (y : A) → slice_get (xs ++ y ∷ []) (length xs) ≡ Some y
last_there [] y = refl
last_there (x ∷ xs) y = last_there xs y

held_left : (xs ys : List Association) (q : ℕ) → HoldsReservation xs q → HoldsReservation (xs ++ ys) q
held_left xs ys q h = record { place = h.place; association = h.association; there = left_there xs ys h.place h.association h.there; holds = h.holds }

held_later : (x : Association) (xs : List Association) (q : ℕ) → HoldsReservation xs q → HoldsReservation (x ∷ xs) q
held_later x xs q h = record { place = suc h.place; association = h.association; there = h.there; holds = h.holds }

held_right : (xs ys : List Association) (q : ℕ) → HoldsReservation ys q → HoldsReservation (xs ++ ys) q
held_right [] ys q h = h
held_right (x ∷ xs) ys q h = held_later x (xs ++ ys) q (held_right xs ys q h)

same_association : (a b : Association) → Some a ≡ Some b → a ≡ b
same_association a b e = cc

-- one IKE SA changed, which holds what it held
held_replaced : (xs : List Association) (place : ℕ) (a changed : Association) (q : ℕ) → slice_get xs place ≡ Some a → (HoldsSpi a q → HoldsSpi changed q) → HoldsReservation xs q → HoldsReservation (slice_set xs place changed) q
held_replaced xs place a changed q there still h = elim (eqb_tells h.place place) [
  | inl (one, same) ↦ (let found : slice_get xs place ≡ Some h.association = subst (λ k. slice_get xs k ≡ Some h.association) same h.there in
      record {
        place = place;
        association = changed;
        there = set_here xs place changed a there;
        holds = still (subst (λ (x : Association). HoldsSpi x q) (same_association h.association a (sym found ∙ there)) h.holds);
      })
  | inr (none, apart) ↦ record { place = h.place; association = h.association; there = set_there xs place changed h.place h.association apart h.there; holds = h.holds }
]

by_list : (xs ys : List Association) (q : ℕ) → ys ≡ xs → HoldsReservation xs q → HoldsReservation ys q
by_list xs ys q same h = subst (λ (l : List Association). HoldsReservation l q) (sym same) h

listed : (old new : Held) → new ≡ old → new.associations ≡ old.associations
listed old new same = ap (λ (h : Held). h.associations) same

-- ---- one IKE SA after the other on a tick

same_purpose : (b : Bool) (r s : Request) → s.purpose ≡ r.purpose → (if b then s else r).purpose ≡ r.purpose
same_purpose true r s same = same
same_purpose false r s same = refl

sent_purpose : (now : ℕ) (r : Request) → (after_sending now r).purpose ≡ r.purpose
sent_purpose now r = same_purpose (is_due now r) r (record r { timer = record { sent = now; repeats = r.timer.repeats + 1 } }) refl

again_awaits : (now : ℕ) (a b : Association) (q : ℕ) → SendsAgain now a b → AwaitsSpi a.outgoing q → AwaitsSpi b.outgoing q
again_awaits now a b q is awaits =
    let here = awaits.awaits in
    record {
      number = awaits.number;
      awaits = record {
        request = after_sending now here.request;
        outstanding = is.each awaits.number ∙ ap (option_map (after_sending now)) here.outstanding;
        reserved = ap spi_asked (sent_purpose now here.request) ∙ here.reserved;
      };
    }

again_holds : (now : ℕ) (a b : Association) (q : ℕ) → SendsAgain now a b → HoldsSpi a q → HoldsSpi b q
again_holds now a b q is (inl its) = inl (ap (λ (x : Association). spi_in x.phase) is.content ∙ its)
again_holds now a b q is (inr awaits) = inr (again_awaits now a b q is awaits)

alone_holds : (held : List Association) (b : Association) (q : ℕ) → held ≡ b ∷ [] → HoldsSpi b q → HoldsReservation held q
alone_holds held b q is holds = by_list (b ∷ []) held q is (record { place = 0; association = b; there = refl; holds = holds })

removal_was : (old : Database) (ike : ℕ) (new : Database) (q : ℕ) → RemovesAllOf old ike new → IsReserved new q → IsReserved old q
removal_was old ike new q is there = subst (λ (d : Database). IsReserved d q) is.content there

over_was : (old : Association) (table : Database) (moment : ℕ) (new : Association) (new_table : Database) (q : ℕ) → Closes old table moment new new_table → IsReserved new_table q → IsReserved table q × (HoldsSpi old q → ⊥)
over_was old table moment new new_table q is there = (is.released.reserved q).0 (removal_was is.between old.serial new_table q is.removed there)

-- what is reserved then was so before, and an IKE SA holds it still
pub record Keeps (old : List Association) (table : Database) (new : List Association) (q : ℕ) : Type 0 where
  pub before : IsReserved table q
  pub still : HoldsReservation old q → HoldsReservation new q

record KeepsOne (a : Association) (table : Database) (held : List Association) (q : ℕ) : Type 0 where
  before : IsReserved table q
  still : HoldsSpi a q → HoldsReservation held q

passed_by : ReleaseLaws → (over failed : Bool) (now : ℕ) (a : Association) (table : Database) (sent : List Resent) (closed : List ℕ) (held : List Association) (new_table : Database) (q : ℕ)
    → IsSoundlyHeld a → is_over now a.phase ≡ over → PassesBy over failed now a table sent closed held new_table → IsReserved new_table q → KeepsOne a table held q
passed_by laws true failed now a table sent closed held new_table q sound over is there = record {
  before = subst (λ (d : Database). IsReserved d q) is.3 there;
  still = λ holds. absurd (laws.over now a q sound over holds);
}
passed_by laws false true now a table sent closed held new_table q sound over is there =
    let was = over_was a table now is.0 new_table q is.1 there in
    record { before = was.0; still = λ holds. absurd (was.1 holds) }
passed_by laws false false now a table sent closed held new_table q sound over is there = record {
  before = subst (λ (d : Database). IsReserved d q) is.5 there;
  still = λ holds. alone_holds held is.0 q is.4 (again_holds now a is.0 q is.1 holds);
}

split_held : (a : Association) (rest : List Association) (q : ℕ) (P : Type 0) → (HoldsSpi a q → P) → (HoldsReservation rest q → P) → (place : ℕ) (b : Association) → slice_get (a ∷ rest) place ≡ Some b → HoldsSpi b q → P
split_held a rest q P first others zero b there holds = first (subst (λ (x : Association). HoldsSpi x q) (sym (same_association a b there)) holds)
split_held a rest q P first others (suc place) b there holds = others (record { place = place; association = b; there = there; holds = holds })

abbrev AllSoundly : List Association → Type 0
AllSoundly xs = (place : ℕ) (a : Association) → slice_get xs place ≡ Some a → IsSoundlyHeld a

ticked_keeps : ReleaseLaws → (now : ℕ) (old : List Association) (table : Database) (sent : List Resent) (closed : List ℕ) (new : List Association) (new_table : Database) (q : ℕ)
    → AllSoundly old → PassAll now old table sent closed new new_table → IsReserved new_table q → Keeps old table new q
ticked_keeps laws now [] table sent closed new new_table q sound is there = record {
  before = subst (λ (d : Database). IsReserved d q) is.3 there;
  still = λ h. by_list [] new q is.2 h;
}
ticked_keeps laws now (a ∷ rest) table sent closed new new_table q sound is there =
    let later = ticked_keeps laws now rest is.between is.sent_rest is.closed_rest is.held_rest new_table q (λ place b at. sound (suc place) b at) is.others there in
    let first = passed_by laws (is_over now a.phase) (has_failed now a) now a table is.sent_first is.closed_first is.held_first is.between q (sound 0 a refl) refl is.passes.done later.before in
    record {
      before = first.before;
      still = λ h. by_list (is.held_first ++ is.held_rest) new q is.held_all (split_held a rest q (HoldsReservation (is.held_first ++ is.held_rest) q)
          (λ holds. held_left is.held_first is.held_rest q (first.still holds)) (λ others. held_right is.held_first is.held_rest q (later.still others)) h.place h.association h.there h.holds);
    }

-- ---- what a step does

taken_keeps : ReleaseLaws → (meaning : Meaning) (setup : Setup) (octets : Octets) (old : Held) (table : Database) (stepped : Stepped) (new : Held) (new_table : Database) (q : ℕ)
    → AreSound old table → Takes meaning setup octets old table stepped new new_table → IsReserved new_table q → Keeps old.associations table new.associations q
taken_keeps laws meaning setup octets old table stepped new new_table q sound is there =
    let t = is.takes in
    let done = laws.message meaning setup t.association table octets is.message t.effect t.changed new_table q (sound.each is.place t.association t.there).soundly t.takes there in
    record {
      before = done.0;
      still = λ h. by_list (slice_set old.associations is.place t.changed) new.associations q (ap (λ (x : Held). x.associations) t.content) (held_replaced old.associations is.place t.association t.changed q t.there done.1 h);
    }

joined_keeps : (meaning : Meaning) (setup : Setup) (octets : Octets) (old : Held) (table : Database) (stepped : Stepped) (new : Held) (new_table : Database) (q : ℕ)
    → AdmitsOne meaning setup octets old table stepped new new_table → IsReserved new_table q → Keeps old.associations table new.associations q
joined_keeps meaning setup octets old table stepped new new_table q is there = record {
  before = subst (λ (d : Database). IsReserved d q) is.pairs there;
  still = λ h. by_list (old.associations ++ is.admits.admitted.association ∷ []) new.associations q (ap (λ (x : Held). x.associations) is.admits.content) (held_left old.associations (is.admits.admitted.association ∷ []) q h);
}

same_keeps : (old new : Held) (table new_table : Database) (q : ℕ) → new ≡ old → new_table ≡ table → IsReserved new_table q → Keeps old.associations table new.associations q
same_keeps old new table new_table q same unchanged there = record {
  before = subst (λ (d : Database). IsReserved d q) unchanged there;
  still = λ h. by_list old.associations new.associations q (listed old new same) h;
}

came_keeps : ReleaseLaws → (meaning : Meaning) (setup : Setup) (octets : Octets) (old : Held) (table : Database) (stepped : Stepped) (new : Held) (new_table : Database) (q : ℕ)
    → AreSound old table → Came meaning setup octets old table stepped new new_table → IsReserved new_table q → Keeps old.associations table new.associations q
came_keeps laws meaning setup octets old table stepped new new_table q sound (stood is) there = same_keeps old new table new_table q is.same is.pairs there
came_keeps laws meaning setup octets old table stepped new new_table q sound (taken is) there = taken_keeps laws meaning setup octets old table stepped new new_table q sound is there
came_keeps laws meaning setup octets old table stepped new new_table q sound (joined is) there = joined_keeps meaning setup octets old table stepped new new_table q is there

-- what is reserved is held, if it was so before
abbrev HeldThen : Held → Database → Held → ℕ → Type 0
HeldThen old table new q = AreReservationsHeld old table → HoldsReservation new.associations q

kept_then : (old new : Held) (table : Database) (q : ℕ) → Keeps old.associations table new.associations q → HeldThen old table new q
kept_then old new table q is held = is.still (held q is.before)

begun_then : ReleaseLaws → (meaning : Meaning) (setup : Setup) (place : ℕ) (old : Held) (table : Database) (stepped : Stepped) (new : Held) (new_table : Database) (q : ℕ)
    → BeginsBy meaning setup place old table stepped new new_table → IsReserved new_table q → HeldThen old table new q
begun_then laws meaning setup place old table stepped new new_table q is there held =
    let d = is.done in
    let its : Association = begun old.next is.beginning (child_by is.entry d.spi setup.config.extended) in
    by_list (old.associations ++ its ∷ []) new.associations q (ap (λ (x : Held). x.associations) d.content)
    (elim (laws.given table is.between new_table d.spi q is.room d.reserved there) [
      | inl before ↦ held_left old.associations (its ∷ []) q (held q before)
      | inr same ↦ record { place = length old.associations; association = its; there = last_there old.associations its; holds = inl (ap Some (sym same)) }
    ])

-- the IKE SA that asks holds what it held
asking_holds : ReleaseLaws → (body_of : Keys → Octets → Octets → Octets → Octets) (setup : Setup) (ike : ℕ) (old : Held) (table : Database) (stepped : Stepped) (new : Held) (q : ℕ)
    → AreSound old table → AsksAt body_of setup ike old stepped new → HoldsReservation old.associations q → HoldsReservation new.associations q
asking_holds laws body_of setup ike old table stepped new q sound is h =
    by_list (slice_set old.associations is.place is.changed) new.associations q (ap (λ (x : Held). x.associations) is.content)
    (held_replaced old.associations is.place is.association is.changed q is.there
    (λ holds. laws.request body_of setup is.association is.octets is.changed q (sound.each is.place is.association is.there).soundly is.sends holds) h)

further_then : ReleaseLaws → (meaning : Meaning) (setup : Setup) (ike place : ℕ) (old : Held) (table : Database) (stepped : Stepped) (new : Held) (new_table : Database) (q : ℕ)
    → AreSound old table → FurthersBy meaning setup ike place old table stepped new new_table → IsReserved new_table q → HeldThen old table new q
further_then laws meaning setup ike place old table stepped new new_table q sound is there held =
    let at = is.asks.asks in
    let f = is.asks.further in
    elim (laws.given table f.between new_table f.spi q f.room f.reserved there) [
      | inl before ↦ asking_holds laws meaning.body_of setup ike old table stepped new q sound at (held q before)
      | inr same ↦ by_list (slice_set old.associations at.place at.changed) new.associations q (ap (λ (x : Held). x.associations) at.content) (record {
        place = at.place;
        association = at.changed;
        there = set_here old.associations at.place at.changed at.association at.there;
        holds = subst (HoldsSpi at.changed) (sym (same ∙ f.reserved.in_order ∙ ap (λ (d : Database). d.start + d.given) f.room.content))
            (laws.own meaning.body_of setup (local_side is.entry) (remote_side is.entry) at.association table at.octets at.changed new_table f);
      })
    ]

that_then : ReleaseLaws → (body_of : Keys → Octets → Octets → Octets → Octets) (setup : Setup) (ike : ℕ) (order : Order) (old : Held) (table : Database) (stepped : Stepped) (new : Held) (new_table : Database) (q : ℕ)
    → AreSound old table → AsksThat body_of setup ike order old table stepped new new_table → IsReserved new_table q → HeldThen old table new q
that_then laws body_of setup ike order old table stepped new new_table q sound is there held =
    asking_holds laws body_of setup ike old table stepped new q sound is.asks (held q (subst (λ (d : Database). IsReserved d q) (marked_but order table new_table is.marked) there))

order_then : ReleaseLaws → (body_of : Keys → Octets → Octets → Octets → Octets) (setup : Setup) (what : OrderView) (old : Held) (table : Database) (stepped : Stepped) (new : Held) (new_table : Database) (q : ℕ)
    → AreSound old table → AsksFor body_of setup what old table stepped new new_table → IsReserved new_table q → HeldThen old table new q
order_then laws body_of setup (orders.Probe ike) old table stepped new new_table q sound is there = that_then laws body_of setup ike asked.Probe old table stepped new new_table q sound is there
order_then laws body_of setup (orders.DeleteChild child) old table stepped new new_table q sound is there =
    that_then laws body_of setup is.pair.ike (asked.DeleteChild child is.pair.inbound.association.spi) old table stepped new new_table q sound is.asks there
order_then laws body_of setup (orders.DeleteIke ike) old table stepped new new_table q sound is there = that_then laws body_of setup ike asked.DeleteAssociation old table stepped new new_table q sound is there

stepped_then : ReleaseLaws → (meaning : Meaning) (entries : List Entry) (input : InputView) (old : Machine) (table : Database) (stepped : Stepped) (new : Machine) (new_table : Database) (q : ℕ)
    → AreSound old.held table → Steps meaning entries input old table stepped new new_table → IsReserved new_table q → HeldThen old.held table new.held q
stepped_then laws meaning entries (steps.Message from octets fresh) old table stepped new new_table q sound is there =
    kept_then old.held new.held table q (came_keeps laws meaning (setup_at old entries fresh) octets old.held table stepped new.held new_table q sound
    (datagram_came meaning (setup_at old entries fresh) old.cookies from octets old.held table stepped new.held new_table is.1) there)
stepped_then laws meaning entries (steps.Start None place fresh) old table stepped new new_table q sound is there = begun_then laws meaning (setup_at old entries fresh) place old.held table stepped new.held new_table q is.1 there
stepped_then laws meaning entries (steps.Start (Some ike) place fresh) old table stepped new new_table q sound is there =
    further_then laws meaning (setup_at old entries fresh) ike place old.held table stepped new.held new_table q sound is.1 there
stepped_then laws meaning entries (steps.Order what fresh) old table stepped new new_table q sound is there = order_then laws meaning.body_of (setup_at old entries fresh) what old.held table stepped new.held new_table q sound is.1 there
stepped_then laws meaning entries (steps.Secret secret) old table stepped new new_table q sound is there =
    kept_then old.held new.held table q (same_keeps old.held new.held table new_table q (ap (λ (m : Machine). m.held) is.content) is.unchanged there)
stepped_then laws meaning entries (steps.Tick moment) old table stepped new new_table q sound is there =
    let t = is.takes in
    kept_then old.held new.held table q
    (ticked_keeps laws (max old.moment moment) old.held.associations table t.ticked.requests t.ticked.closed new.held.associations new_table q (λ place a at. (sound.each place a at).soundly) t.ticks there)

pub reservations_stay_held : ReleaseLaws → (meaning : Meaning) (entries : List Entry) (input : InputView) (old : Machine) (table : Database) (stepped : Stepped) (new : Machine) (new_table : Database)
    → IsSoundMachine old table → Steps meaning entries input old table stepped new new_table → AreReservationsHeld old.held table → AreReservationsHeld new.held new_table
reservations_stay_held laws meaning entries input old table stepped new new_table sound is held q there = stepped_then laws meaning entries input old table stepped new new_table q sound.held is there held
