-- What is due comes with the first tick that reaches it.
use Rattle.std.proofs.Common.{◌≡◌, inl, inr, ℕ, zero, suc, ◌++◌, ◌∷◌, [], Bool, true, false, List, Option, Some, All, max, ap, refl, subst, sym, ◌∙◌, None}
use Rattle.std.proofs.lemmas.List.Elements.{All-from_recursion, recursion_from_All}
use Rattle.std.specs.List.{flat_map, slice_get, AllByRecursion, AllZip}
use Rattle.std.specs.Prelude.{◌≤◌, slice_set}
use Rattle.std.proofs.Math.Nat.{le-max_left}
use Rattle.base.specs.Octets.{Octets}
use Rattle.wire.specs.declared.message.Message.{Message}
use Rattle.policy.specs.declared.entry.Entry.{Entry}
use Rattle.suite.specs.declared.fresh.Fresh.{Fresh}
use Rattle.suite.specs.declared.keys.Keys.{Keys}
use Rattle.suite.specs.declared.sealer.Cipher.{Cipher}
use Rattle.sadb.specs.Database.{Database}
use Rattle.sa_init.specs.Judging.{OfferView}
use Rattle.association.specs.AskedChildren.{AskedChildView}
use Rattle.association.specs.declared.phase.Association.{Association}
use Rattle.association.specs.Admitting.{Admits}
use Rattle.initial.specs.Beginning.{begun, Begins}
use Rattle.setup.specs.Configs.{Setup}
use Rattle.association.specs.declared.admitting.Admitted.{Admitted}
use Rattle.initial.specs.declared.beginning.Beginning.{Beginning}
use Rattle.effects.specs.Sending.{SendsRequest}
use Rattle.moments.specs.Due.{closed_of, held_of, sent_of}
use Rattle.moments.specs.Held.{HasBegun, IsInTime, LeavesPairsBut, StaysItself}
use Rattle.moments.specs.Ticking.{Ticks}
use Rattle.moments.specs.declared.ticking.Ticked.{Ticked}
use Rattle.effects.specs.Taking.{Meaning, TakesMessage}
use Rattle.effects.specs.declared.taking.Effect.{Effect}
use Rattle.effects.specs.declared.taking.Effect.TheVariants as effect
use Rattle.ike.specs.Machines.{setup_at, Held, Machine}
use Rattle.ike.specs.Moments.{tells_moment, ComesTo, IsTimely, StaysAt}
use Rattle.ike.specs.Soundness.{IsSoundMachine}
use Rattle.ike.specs.Outputs.{stepped_of}
use Rattle.ike.specs.Receiving.{with_next}
use Rattle.ike.specs.Starting.{child_by}
use Rattle.ike.specs.Steps as steps
use Rattle.ike.specs.Steps.{is_tick, InputView, Steps}
use Rattle.ike.specs.declared.output.IkeOutput.{IkeOutput}
use Rattle.ike.specs.declared.output.IkeOutput.TheVariants as output
use Rattle.ike.specs.declared.output.Stepped.{Stepped}
use Rattle.ike.proofs.WaitLemmas.{step_answered, step_times, WaitLaws}
use Rattle.ike.proofs.WayLemmas.{admitted, asked_one, datagram_way, further_one, probed, rested, started, step_way, took, GoesOut, Way}

pub record TimelyLaws : Type 0 where
  pub taken : (meaning : Meaning) (setup : Setup) (old : Association) (table : Database) (octets : Octets) (m : Message) (e : Effect) (new : Association) (new_table : Database)
      → IsInTime setup.moment old → TakesMessage meaning setup old table octets m e new new_table → IsInTime setup.moment new
  pub begins : (cipher : Cipher) (group : ℕ) (public_value : Octets → Octets) (fresh : Fresh) (moment serial : ℕ) (beginning : Beginning) (child : AskedChildView)
      → Begins cipher group public_value fresh moment beginning → IsInTime moment (begun serial beginning child)
  pub admits : (cipher : Cipher) (group : ℕ) (public_value : Octets → Octets) (shared_secret : Octets → Octets → Option Octets) (fresh : Fresh) (moment serial : ℕ) (offer : OfferView) (spi_i : ℕ) (request : Octets) (admitted : Admitted)
      → Admits cipher group public_value shared_secret fresh moment serial offer spi_i request admitted → IsInTime moment admitted.association
  pub requested : (body_of : Keys → Octets → Octets → Octets → Octets) (setup : Setup) (old : Association) (octets : Octets) (new : Association)
      → IsInTime setup.moment old → SendsRequest body_of setup old octets new → IsInTime setup.moment new
  pub ticks : (earlier now : ℕ) (old : List Association) (table : Database) (ticked : Ticked) (new : List Association) (new_table : Database) → earlier ≤ now → All (HasBegun earlier) old → Ticks now old table ticked new new_table
      → All (IsInTime now) new
  pub pairs : (now : ℕ) (old : List Association) (table : Database) (ticked : Ticked) (new : List Association) (new_table : Database) → Ticks now old table ticked new new_table → LeavesPairsBut ticked.closed table new_table
  pub comes : (now : ℕ) (old : List Association) (table : Database) (ticked : Ticked) (new : List Association) (new_table : Database) → Ticks now old table ticked new new_table
      → (ticked.requests ≡ flat_map (sent_of now) old) × (ticked.closed ≡ flat_map (closed_of now) old)
  pub held_on : (now : ℕ) (old new : List Association) (table new_table : Database) (ticked : Ticked) → Ticks now old table ticked new new_table → AllZip (StaysItself now ticked.closed) (held_of now old) new

-- ---- lists of which each item has something

first_item : {A : Type 0} (x y : A) → Some x ≡ Some y → x ≡ y
first_item x y is = cc

at_place : {A : Type 0} (P : A → Type 0) (xs : List A) (i : ℕ) (a : A) → AllByRecursion P xs → slice_get xs i ≡ Some a → P a
at_place P [] i a all is = absurd cc
at_place P (x ∷ xs) zero a all is = subst P (first_item x a is) all.0
at_place P (x ∷ xs) (suc i) a all is = at_place P xs i a all.1 is

all_replaced : {A : Type 0} (P : A → Type 0) (xs : List A) (i : ℕ) (y : A) → AllByRecursion P xs → P y → AllByRecursion P (slice_set xs i y)
all_replaced P [] i y all new = tt
all_replaced P (x ∷ xs) zero y all new = (new, all.1)
all_replaced P (x ∷ xs) (suc i) y all new = (all.0, all_replaced P xs i y all.1 new)

all_grown : {A : Type 0} (P : A → Type 0) (xs : List A) (y : A) → AllByRecursion P xs → P y → AllByRecursion P (xs ++ y ∷ [])
all_grown P [] y all new = (new, tt)
all_grown P (x ∷ xs) y all new = (all.0, all_grown P xs y all.1 new)

-- ---- nothing is due after a step

abbrev AllTimely : ℕ → Held → Type 0
AllTimely now held = AllByRecursion (IsInTime now) held.associations

timely_as : (now : ℕ) (a b : Held) → b ≡ a → AllTimely now a → AllTimely now b
timely_as now a b same all = subst (λ (h : Held). AllTimely now h) (sym same) all

way_timely : TimelyLaws → (meaning : Meaning) (setup : Setup) (octets : Octets) (old : Held) (table : Database) (stepped : Stepped) (new : Held) (new_table : Database)
    → AllTimely setup.moment old → Way meaning setup octets old table stepped new new_table → AllTimely setup.moment new
way_timely laws meaning setup octets old table stepped new new_table all (rested is) = timely_as setup.moment old new is.same all
way_timely laws meaning setup octets old table stepped new new_table all (took is) =
    let t = is.takes in
    timely_as setup.moment (record old { associations = slice_set old.associations is.place t.changed }) new t.content
    (all_replaced (IsInTime setup.moment) old.associations is.place t.changed all
    (laws.taken meaning setup t.association table octets is.message t.effect t.changed new_table
    (at_place (IsInTime setup.moment) old.associations is.place t.association all t.there) t.takes))
way_timely laws meaning setup octets old table stepped new new_table all (admitted is) =
    let a = is.admits in
    timely_as setup.moment (with_next old a.admitted.association) new a.content
    (all_grown (IsInTime setup.moment) old.associations a.admitted.association all
    (laws.admits meaning.cipher meaning.group meaning.public_value meaning.shared_secret setup.fresh setup.moment old.next is.offer is.spi_i octets a.admitted a.admits))
way_timely laws meaning setup octets old table stepped new new_table all (started is) =
    let s = is.starts in
    let child = child_by s.entry s.done.spi setup.config.extended in
    timely_as setup.moment (with_next old (begun old.next s.beginning child)) new s.done.content
    (all_grown (IsInTime setup.moment) old.associations (begun old.next s.beginning child) all
    (laws.begins meaning.cipher meaning.group meaning.public_value setup.fresh setup.moment old.next s.beginning child s.begins))
way_timely laws meaning setup octets old table stepped new new_table all (probed is) =
    let p = is.probes in
    timely_as setup.moment (record old { associations = slice_set old.associations p.place p.changed }) new p.content
    (all_replaced (IsInTime setup.moment) old.associations p.place p.changed all
    (laws.requested meaning.body_of setup p.association p.octets p.changed (at_place (IsInTime setup.moment) old.associations p.place p.association all p.there) p.sends))

-- where the time stands still
still_timely : (old new : Machine) → new.moment ≡ old.moment → AllTimely old.moment new.held → IsTimely new
still_timely old new same all = subst (λ (n : ℕ). All (IsInTime n) new.held.associations) (sym same) (All-from_recursion (IsInTime old.moment) new.held.associations all)

all_of : (machine : Machine) → IsTimely machine → AllTimely machine.moment machine.held
all_of machine timely = recursion_from_All (IsInTime machine.moment) machine.held.associations timely

begun_of : (now : ℕ) (xs : List Association) → AllByRecursion (IsInTime now) xs → AllByRecursion (HasBegun now) xs
begun_of now [] all = tt
begun_of now (x ∷ xs) all = (all.0.begun, begun_of now xs all.1)

all_begun : (machine : Machine) → IsTimely machine → All (HasBegun machine.moment) machine.held.associations
all_begun machine timely = All-from_recursion (HasBegun machine.moment) machine.held.associations (begun_of machine.moment machine.held.associations (all_of machine timely))

pub step_timely : TimelyLaws → (meaning : Meaning) (entries : List Entry) (input : InputView) (old : Machine) (table : Database) (stepped : Stepped) (new : Machine) (new_table : Database)
    → IsTimely old → Steps meaning entries input old table stepped new new_table → IsTimely new
step_timely laws meaning entries (steps.Message from octets fresh) old table stepped new new_table timely is =
    still_timely old new (ap (λ (m : Machine). m.moment) is.0)
    (way_timely laws meaning (setup_at old entries fresh) octets old.held table stepped new.held new_table (all_of old timely)
    (datagram_way meaning (setup_at old entries fresh) old.cookies from octets old.held table stepped new.held new_table is.1))
step_timely laws meaning entries (steps.Start None place fresh) old table stepped new new_table timely is =
    still_timely old new (ap (λ (m : Machine). m.moment) is.0)
    (way_timely laws meaning (setup_at old entries fresh) [] old.held table stepped new.held new_table (all_of old timely) (started (record { place = place; starts = is.1 })))
step_timely laws meaning entries (steps.Start (Some asker) place fresh) old table stepped new new_table timely is =
    still_timely old new (ap (λ (m : Machine). m.moment) is.0)
    (way_timely laws meaning (setup_at old entries fresh) [] old.held table stepped new.held new_table (all_of old timely) (probed (further_one meaning (setup_at old entries fresh) asker place old.held table stepped new.held new_table is.1)))
step_timely laws meaning entries (steps.Order what fresh) old table stepped new new_table timely is =
    still_timely old new (ap (λ (m : Machine). m.moment) is.0)
    (way_timely laws meaning (setup_at old entries fresh) [] old.held table stepped new.held new_table (all_of old timely) (probed (asked_one meaning (setup_at old entries fresh) what old.held table stepped new.held new_table is.1)))
step_timely laws meaning entries (steps.Secret secret) old table stepped new new_table timely is =
    still_timely old new (ap (λ (m : Machine). m.moment) is.content) (timely_as old.moment old.held new.held (ap (λ (m : Machine). m.held) is.content) (all_of old timely))
step_timely laws meaning entries (steps.Tick moment) old table stepped new new_table timely is =
    let now = max old.moment moment in
    subst (λ (n : ℕ). All (IsInTime n) new.held.associations) (sym (ap (λ (m : Machine). m.moment) is.content))
    (laws.ticks old.moment now old.held.associations table is.takes.ticked new.held.associations new_table (le-max_left old.moment moment) (all_begun old timely) is.takes.ticks)

-- ---- what comes with a tick, and with nothing else

pub step_comes : TimelyLaws → (meaning : Meaning) (entries : List Entry) (moment : ℕ) (old : Machine) (table : Database) (stepped : Stepped) (new : Machine) (new_table : Database)
    → Steps meaning entries (steps.Tick moment) old table stepped new new_table → ComesTo (max old.moment moment) old table stepped new new_table
step_comes laws meaning entries moment old table stepped new new_table is =
    let now = max old.moment moment in
    let t = is.takes in
    let all = laws.comes now old.held.associations table t.ticked new.held.associations new_table t.ticks in
    record {
      ticked = t.ticked;
      said = ap (λ (s : Stepped). s.output) t.said;
      brings = record { requests = all.0; closed = all.1; held = laws.held_on now old.held.associations new.held.associations table new_table t.ticked t.ticks; pairs = laws.pairs now old.held.associations table t.ticked new.held.associations new_table t.ticks };
      moment = ap (λ (m : Machine). m.moment) is.content;
    }

effect_tells : (serial number : ℕ) (e : Effect) → tells_moment (stepped_of serial number e).output ≡ false
effect_tells serial number (effect.Refused fault) = refl
effect_tells serial number (effect.Repeated reply) = refl
effect_tells serial number (effect.Replied answered) = refl
effect_tells serial number (effect.Again next) = refl
effect_tells serial number (effect.AsksAuth next) = refl
effect_tells serial number (effect.Counted ended) = refl

rest_tells : (old : Held) (o : IkeOutput) → GoesOut old o → tells_moment o ≡ false
rest_tells old (output.Reply octets closed) goes = refl
rest_tells old (output.Repeat octets) goes = refl
rest_tells old (output.Request ike octets) goes = absurd goes
rest_tells old (output.Counted ike child closed) goes = refl
rest_tells old (output.Ticked ticked) goes = absurd goes
rest_tells old output.Done goes = refl
rest_tells old (output.Dropped f) goes = refl

tells_like : (s t : Stepped) → s ≡ t → tells_moment t.output ≡ false → tells_moment s.output ≡ false
tells_like s t same none = ap (λ (x : Stepped). tells_moment x.output) same ∙ none

way_tells : (meaning : Meaning) (setup : Setup) (octets : Octets) (old : Held) (table : Database) (stepped : Stepped) (new : Held) (new_table : Database)
    → Way meaning setup octets old table stepped new new_table → tells_moment stepped.output ≡ false
way_tells meaning setup octets old table stepped new new_table (rested is) = tells_like stepped _ is.is (rest_tells old is.said is.goes)
way_tells meaning setup octets old table stepped new new_table (took is) = tells_like stepped _ is.takes.said (effect_tells is.takes.association.serial is.message.header.id is.takes.effect)
way_tells meaning setup octets old table stepped new new_table (admitted is) = tells_like stepped _ is.admits.said refl
way_tells meaning setup octets old table stepped new new_table (started is) = tells_like stepped _ is.starts.done.said refl
way_tells meaning setup octets old table stepped new new_table (probed is) = tells_like stepped _ is.probes.said refl

step_moment : (meaning : Meaning) (entries : List Entry) (input : InputView) (old : Machine) (table : Database) (stepped : Stepped) (new : Machine) (new_table : Database) → is_tick input ≡ false
    → Steps meaning entries input old table stepped new new_table → new.moment ≡ old.moment
step_moment meaning entries (steps.Message from octets fresh) old table stepped new new_table none is = ap (λ (m : Machine). m.moment) is.0
step_moment meaning entries (steps.Start ike place fresh) old table stepped new new_table none is = ap (λ (m : Machine). m.moment) is.0
step_moment meaning entries (steps.Order what fresh) old table stepped new new_table none is = ap (λ (m : Machine). m.moment) is.0
step_moment meaning entries (steps.Secret secret) old table stepped new new_table none is = ap (λ (m : Machine). m.moment) is.content
step_moment meaning entries (steps.Tick moment) old table stepped new new_table none is = absurd cc

clash : (b : Bool) → b ≡ true → b ≡ false → ⊥
clash b one other = cc

pub step_stays : WaitLaws → (meaning : Meaning) (entries : List Entry) (input : InputView) (old : Machine) (table : Database) (stepped : Stepped) (new : Machine) (new_table : Database) → is_tick input ≡ false
    → IsSoundMachine old table → Steps meaning entries input old table stepped new new_table → StaysAt old stepped new
step_stays laws meaning entries input old table stepped new new_table none sound is =
    record {
      moment = step_moment meaning entries input old table stepped new new_table none is;
      said = elim (step_way meaning entries input old table stepped new new_table is) [
        | inl some ↦ way_tells meaning some.setup some.octets old.held table stepped new.held new_table some.way
        | inr ticked ↦ absurd (clash (is_tick input) ticked.ticks none)
      ];
      answered = step_answered meaning entries input old table stepped new new_table is;
      waits = λ serial. (step_times laws meaning entries input old table stepped new new_table serial none sound is).waits;
      waited = λ serial. (step_times laws meaning entries input old table stepped new new_table serial none sound is).waited;
      closed = λ serial. (step_times laws meaning entries input old table stepped new new_table serial none sound is).closed;
      half_open = λ serial. (step_times laws meaning entries input old table stepped new new_table serial none sound is).half_open;
    }
