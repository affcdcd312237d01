-- What goes out of a step is short, and its trace names IKE SAs that are held and have keys.
use Rattle.std.proofs.Common.{◌≡◌, ◌⊎◌, ◌≤◌, inl, inr, ℕ, Bool, true, false, List, length, Option, Some, None, IsSome, ap, refl, subst, sym, ◌∙◌, arith}
use Rattle.std.specs.List.{slice_get}
use Rattle.std.specs.Prelude.{All, slice_index_or}
use Rattle.std.proofs.lemmas.Option.{slice_get_read}
use Rattle.std.proofs.lemmas.Bool.Decides.{eqb_tells}
use Rattle.base.specs.Octets.{Octets}
use Rattle.wire.specs.declared.message.Message.{Message}
use Rattle.policy.specs.declared.entry.Entry.{Entry}
use Rattle.suite.specs.declared.fresh.Fresh.{Fresh}
use Rattle.suite.specs.declared.key_record.KeyRecord.{KeyRecord}
use Rattle.suite.specs.declared.keys.Keys.{Keys}
use Rattle.suite.specs.declared.sealer.Cipher.{Cipher}
use Rattle.sadb.specs.Database.{pair_at, Database, IsSoundTable, PairMap}
use Rattle.sadb.specs.declared.pair.Pair.{Pair}
use Rattle.sa_init.specs.Judging.{OfferView}
use Rattle.association.specs.Closing.{HoldsReserved}
use Rattle.association.specs.AskedChildren.{AskedChildView}
use Rattle.association.specs.Phases.{keys_in}
use Rattle.association.specs.declared.phase.Association.{Association}
use Rattle.association.specs.declared.phase.AuthSent.{AuthSent}
use Rattle.association.specs.declared.phase.HalfOpen.{HalfOpen}
use Rattle.association.specs.declared.phase.InitSent.{InitSent}
use Rattle.association.specs.declared.phase.Phase.{Phase}
use Rattle.association.specs.declared.phase.Phase.TheVariants as phase
use Rattle.association.specs.Admitting.{half_open, Admits}
use Rattle.initial.specs.Beginning.{begun, Begins}
use Rattle.effects.specs.Children.{AsksForChild, IsAsking, MakesChild}
use Rattle.setup.specs.Configs.{Setup}
use Rattle.effects.specs.Keeping.{child_in, octets_of_effect, HasKeys, IsShort, KeepsShort, KeyedBy}
use Rattle.effects.specs.Pairs.{IsUnused}
use Rattle.effects.specs.Requests.{IsSoundlyHeld}
use Rattle.effects.specs.Taking.{Meaning, KeepsIdentity, TakesMessage}
use Rattle.effects.specs.Sending.{SendsRequest}
use Rattle.moments.specs.Due.{outstanding_count}
use Rattle.moments.specs.Held.{IsOutstandingOf}
use Rattle.moments.specs.Holding.{LeavesFewer}
use Rattle.moments.specs.Ticking.{Ticks}
use Rattle.moments.specs.declared.resent.Resent.{Resent}
use Rattle.moments.specs.declared.ticking.Ticked.{Ticked}
use Rattle.association.specs.declared.admitting.Admitted.{Admitted}
use Rattle.initial.specs.declared.beginning.Beginning.{Beginning}
use Rattle.effects.specs.declared.taking.Effect.{Effect}
use Rattle.effects.specs.declared.taking.Effect.TheVariants as effect
use Rattle.ike.specs.Pairs.{BecameDeleting}
use Rattle.ike.proofs.MarkLemmas.{marked_pairs}
use Rattle.ike.specs.Children.{AsksFirstChild, AsksNow, MakesChildOf, WaitedBefore}
use Rattle.ike.specs.Machines.{association_of, keys_of_serial, setup_at, Held, Machine}
use Rattle.ike.specs.Outputs.{asking_step, child_of, half_open_step, octets_in, plain_step, stepped_of}
use Rattle.ike.specs.Asking.{AsksAt}
use Rattle.ike.specs.Receiving.{with_next}
use Rattle.ike.specs.Soundness.{AreSound, At, IsSoundMachine}
use Rattle.ike.specs.Starting.{child_by}
use Rattle.ike.specs.Steps.{is_tick, InputView, Steps}
use Rattle.ike.specs.Steps as steps
use Rattle.ike.specs.Ticking.{TakesHeld}
use Rattle.ike.specs.Tracing.{HoldsChild, HoldsKeys, IsTraced, NamesChild}
use Rattle.ike.specs.declared.output.IkeOutput.{IkeOutput}
use Rattle.ike.specs.declared.output.IkeOutput.TheVariants as output
use Rattle.ike.specs.declared.output.MadeChild.{MadeChild}
use Rattle.ike.specs.declared.output.Mark.{Mark}
use Rattle.ike.specs.declared.output.Stepped.{Stepped}
use Rattle.ike.proofs.AskingLemmas.{changed_itself, changed_phase, probed_serial, probed_stands, probed_stood}
use Rattle.ike.proofs.TickLemmas.{on_keys, ticked_stood, TicksHold}
use Rattle.ike.proofs.SerialLemmas.{grown_found, grown_keys, keys_of, last_there, none_next, replaced_found, set_there, sound_found}
use Rattle.ike.proofs.WayLemmas.{admitted, datagram_way, probed, rested, started, step_way, took, AdmitsOne, AsksOne, GoesOut, LeavesOrdered, LeavesReserved, PassesMoment, StartsOne, Takes, Way}
use Rattle.association.specs.Outcomes.{made_by}

-- what is known of requests that go out again
abbrev pub TicksAgain : Type 0
TicksAgain = (now : ℕ) (old new : List Association) (table new_table : Database) (ticked : Ticked) → Ticks now old table ticked new new_table → All (IsOutstandingOf now old new) ticked.requests

-- ---- what goes out is short

-- what is known of what an IKE SA keeps
pub record ShortFacts : Type 0 where
  pub requested : (body_of : Keys → Octets → Octets → Octets → Octets) (setup : Setup) (old : Association) (octets : Octets) (new : Association) → KeepsShort old → SendsRequest body_of setup old octets new → KeepsShort new × IsShort octets
  pub sent : (meaning : Meaning) (setup : Setup) (old : Association) (table : Database) (octets : Octets) (m : Message) (effect : Effect) (new : Association) (new_table : Database) (said : Octets)
      → KeepsShort old → TakesMessage meaning setup old table octets m effect new new_table → octets_of_effect effect ≡ Some said → IsShort said
  pub begins : (cipher : Cipher) (group : ℕ) (public_value : Octets → Octets) (fresh : Fresh) (moment serial : ℕ) (beginning : Beginning) (child : AskedChildView)
      → Begins cipher group public_value fresh moment beginning → KeepsShort (begun serial beginning child) × IsShort beginning.octets
  pub admits : (cipher : Cipher) (group : ℕ) (public_value : Octets → Octets) (shared_secret : Octets → Octets → Option Octets) (fresh : Fresh) (moment serial : ℕ) (offer : OfferView) (spi_i : ℕ) (request : Octets) (admitted : Admitted)
      → Admits cipher group public_value shared_secret fresh moment serial offer spi_i request admitted → KeepsShort admitted.association × IsShort admitted.octets

none_out : {T : Type 0} (x : T) → None ≡ Some x → ⊥
none_out x e = cc

same_out : {T : Type 0} (x y : T) → Some x ≡ Some y → x ≡ y
same_out x y e = cc

-- all that an output carries is short
abbrev pub IsShortOutput : Stepped → Type 0
IsShortOutput stepped = (octets : Octets) → octets_in stepped.output ≡ Some octets → IsShort octets

short_one : (said octets : Octets) → IsShort said → Some said ≡ Some octets → IsShort octets
short_one said octets short e = subst (λ (o : Octets). IsShort o) (same_out said octets e) short

rests_short : (old : Held) (table : Database) (said : IkeOutput) → AreSound old table → GoesOut old said → IsShortOutput (plain_step said)
rests_short old table (output.Reply octets None) sound goes = λ o e. short_one octets o goes.1 e
rests_short old table (output.Reply octets (Some closed)) sound goes = absurd goes
rests_short old table (output.Repeat octets) sound goes = λ o e. short_one octets o ((sound.each goes.place goes.association goes.there).short.first octets goes.kept) e
rests_short old table (output.Request ike octets) sound goes = absurd goes
rests_short old table (output.Counted ike child closed) sound goes = λ o e. absurd (none_out o e)
rests_short old table (output.Ticked ticked) sound goes = absurd goes
rests_short old table output.Done sound goes = λ o e. absurd (none_out o e)
rests_short old table (output.Dropped f) sound goes = λ o e. absurd (none_out o e)

-- the octets of an effect are those of what comes of it
effect_octets : (ike number : ℕ) (e : Effect) → octets_in (stepped_of ike number e).output ≡ octets_of_effect e
effect_octets ike number (effect.Refused f) = refl
effect_octets ike number (effect.Repeated octets) = refl
effect_octets ike number (effect.Replied answered) = refl
effect_octets ike number (effect.Again octets) = refl
effect_octets ike number (effect.AsksAuth octets) = refl
effect_octets ike number (effect.Counted ended) = refl

way_short : (facts : ShortFacts) (meaning : Meaning) (setup : Setup) (octets : Octets) (old : Held) (table : Database) (stepped : Stepped) (new : Held) (new_table : Database)
    → AreSound old table → Way meaning setup octets old table stepped new new_table → IsShortOutput stepped
way_short facts meaning setup octets old table stepped new new_table sound (rested is) =
    subst (λ (s : Stepped). IsShortOutput s) (sym is.is) (rests_short old table is.said sound is.goes)
way_short facts meaning setup octets old table stepped new new_table sound (took is) =
    let t = is.takes in
    λ o e. facts.sent meaning setup t.association table octets is.message t.effect t.changed new_table o (sound.each is.place t.association t.there).short t.takes
    (sym (effect_octets t.association.serial is.message.header.id t.effect) ∙ sym (ap (λ (s : Stepped). octets_in s.output) t.said) ∙ e)
way_short facts meaning setup octets old table stepped new new_table sound (admitted is) =
    let a = is.admits in
    λ o e. short_one a.admitted.octets o
    (facts.admits meaning.cipher meaning.group meaning.public_value meaning.shared_secret setup.fresh setup.moment old.next is.offer is.spi_i octets a.admitted a.admits).1
    (sym (ap (λ (s : Stepped). octets_in s.output) a.said) ∙ e)
way_short facts meaning setup octets old table stepped new new_table sound (probed is) =
    let p = is.probes in
    λ o e. short_one p.octets o (facts.requested meaning.body_of setup p.association p.octets p.changed (sound.each p.place p.association p.there).short p.sends).1
    (sym (ap (λ (s : Stepped). octets_in s.output) p.said) ∙ e)
way_short facts meaning setup octets old table stepped new new_table sound (started is) =
    let s = is.starts in
    λ o e. short_one s.beginning.octets o
    (facts.begins meaning.cipher meaning.group meaning.public_value setup.fresh setup.moment old.next s.beginning (child_by s.entry s.done.spi setup.config.extended) s.begins).1
    (sym (ap (λ (x : Stepped). octets_in x.output) s.done.said) ∙ e)

pub step_short : ShortFacts → (meaning : Meaning) (entries : List Entry) (input : InputView) (old : Machine) (table : Database) (stepped : Stepped) (new : Machine) (new_table : Database) (octets : Octets)
    → IsSoundMachine old table → Steps meaning entries input old table stepped new new_table → octets_in stepped.output ≡ Some octets → IsShort octets
step_short facts meaning entries input old table stepped new new_table octets sound is named = elim (step_way meaning entries input old table stepped new new_table is) [
  | inl w ↦ way_short facts meaning w.setup w.octets old.held table stepped new.held new_table sound.held w.way octets named
  | inr passes ↦ absurd (none_out octets (sym (ap (λ (s : Stepped). octets_in s.output) passes.takes.said) ∙ named))
]

-- what goes out again with a tick
same_ticked : (one other : Ticked) → output.Ticked one ≡ output.Ticked other → one ≡ other
same_ticked one other e = cc

again_short : TicksAgain → (input : InputView) (old new : Held) (table new_table : Database) (stepped : Stepped) (ticked : Ticked) → AreSound old table
    → PassesMoment input old table stepped new new_table → stepped.output ≡ output.Ticked ticked → All (λ (r : Resent). IsShort r.octets) ticked.requests
again_short again input old new table new_table stepped ticked sound passes said =
    let t = passes.takes in
    let same : t.ticked ≡ ticked = same_ticked t.ticked ticked (sym (ap (λ (s : Stepped). s.output) t.said) ∙ said) in
    subst (λ (x : Ticked). All (λ (r : Resent). IsShort r.octets) x.requests) same
    (λ k d within.
    let o = again passes.now old.associations new.associations table new_table t.ticked t.ticks k d within in
    let place = o.held_before in
    subst (λ (x : Octets). IsShort x) (sym (ap (λ (r : Resent). r.octets) o.resent))
    ((sound.each place.0 o.before (slice_get_read old.associations (length old.associations) place.0 o.before refl place.1 (sym place.2))).short.requests (slice_index_or t.ticked.requests k d).number o.request o.there))

-- a tick alone brings this
still_output : (old : Held) (said : IkeOutput) (ticked : Ticked) → GoesOut old said → said ≡ output.Ticked ticked → ⊥
still_output old (output.Reply octets closed) ticked goes e = cc
still_output old (output.Repeat octets) ticked goes e = cc
still_output old (output.Request ike octets) ticked goes e = cc
still_output old (output.Counted ike child closed) ticked goes e = cc
still_output old (output.Ticked other) ticked goes e = goes
still_output old output.Done ticked goes e = cc
still_output old (output.Dropped f) ticked goes e = cc

effect_output : (ike number : ℕ) (e : Effect) (ticked : Ticked) → (stepped_of ike number e).output ≡ output.Ticked ticked → ⊥
effect_output ike number (effect.Refused f) ticked e = cc
effect_output ike number (effect.Repeated octets) ticked e = cc
effect_output ike number (effect.Replied answered) ticked e = cc
effect_output ike number (effect.Again octets) ticked e = cc
effect_output ike number (effect.AsksAuth octets) ticked e = cc
effect_output ike number (effect.Counted ended) ticked e = cc

reply_ticked : (octets : Octets) (closed : Option ℕ) (ticked : Ticked) → output.Reply octets closed ≡ output.Ticked ticked → ⊥
reply_ticked octets closed ticked e = cc

request_ticked : (ike : ℕ) (octets : Octets) (ticked : Ticked) → output.Request ike octets ≡ output.Ticked ticked → ⊥
request_ticked ike octets ticked e = cc

pub way_not_ticked : (meaning : Meaning) (setup : Setup) (octets : Octets) (old : Held) (table : Database) (stepped : Stepped) (new : Held) (new_table : Database) (ticked : Ticked)
    → Way meaning setup octets old table stepped new new_table → stepped.output ≡ output.Ticked ticked → ⊥
way_not_ticked meaning setup octets old table stepped new new_table ticked (rested is) said = still_output old is.said ticked is.goes (sym (ap (λ (s : Stepped). s.output) is.is) ∙ said)
way_not_ticked meaning setup octets old table stepped new new_table ticked (took is) said =
    effect_output is.takes.association.serial is.message.header.id is.takes.effect ticked (sym (ap (λ (s : Stepped). s.output) is.takes.said) ∙ said)
way_not_ticked meaning setup octets old table stepped new new_table ticked (admitted is) said = reply_ticked _ None ticked (sym (ap (λ (s : Stepped). s.output) is.admits.said) ∙ said)
way_not_ticked meaning setup octets old table stepped new new_table ticked (probed is) said = request_ticked is.ike _ ticked (sym (ap (λ (s : Stepped). s.output) is.probes.said) ∙ said)
way_not_ticked meaning setup octets old table stepped new new_table ticked (started is) said = request_ticked old.next _ ticked (sym (ap (λ (s : Stepped). s.output) is.starts.done.said) ∙ said)

pub step_again : TicksAgain → (meaning : Meaning) (entries : List Entry) (input : InputView) (old : Machine) (table : Database) (stepped : Stepped) (new : Machine) (new_table : Database) (ticked : Ticked)
    → IsSoundMachine old table → Steps meaning entries input old table stepped new new_table → stepped.output ≡ output.Ticked ticked → All (λ (r : Resent). IsShort r.octets) ticked.requests
step_again again meaning entries input old table stepped new new_table ticked sound is said = elim (step_way meaning entries input old table stepped new new_table is) [
  | inl w ↦ absurd (way_not_ticked meaning w.setup w.octets old.held table stepped new.held new_table ticked w.way said)
  | inr passes ↦ again_short again input old.held new.held table new_table stepped ticked sound.held passes said
]

-- what is known of how many go out again
abbrev pub TicksFew : Type 0
TicksFew = (now : ℕ) (old new : List Association) (table new_table : Database) (ticked : Ticked) → Ticks now old table ticked new new_table → length ticked.requests ≤ outstanding_count old

pub step_few : TicksFew → (meaning : Meaning) (entries : List Entry) (input : InputView) (old : Machine) (table : Database) (stepped : Stepped) (new : Machine) (new_table : Database) (ticked : Ticked)
    → Steps meaning entries input old table stepped new new_table → stepped.output ≡ output.Ticked ticked → (is_tick input ≡ true) × (length ticked.requests ≤ outstanding_count old.held.associations)
step_few few meaning entries input old table stepped new new_table ticked is said = elim (step_way meaning entries input old table stepped new new_table is) [
  | inl w ↦ absurd (way_not_ticked meaning w.setup w.octets old.held table stepped new.held new_table ticked w.way said)
  | inr passes ↦
      let t = passes.takes in
      let same : t.ticked ≡ ticked = same_ticked t.ticked ticked (sym (ap (λ (s : Stepped). s.output) t.said) ∙ said) in
      (passes.ticks, subst (λ (x : Ticked). length x.requests ≤ outstanding_count old.held.associations) same (few passes.now old.held.associations new.held.associations table new_table t.ticked t.ticks))
]

-- ---- what the trace names

-- what is known of a message's effect, and of soundness
pub record TraceFacts : Type 0 where
  pub itself : (meaning : Meaning) (setup : Setup) (old : Association) (table : Database) (octets : Octets) (m : Message) (effect : Effect) (new : Association) (new_table : Database)
      → TakesMessage meaning setup old table octets m effect new new_table → KeepsIdentity old new
  pub keyed : (meaning : Meaning) (setup : Setup) (old : Association) (table : Database) (octets : Octets) (m : Message) (effect : Effect) (new : Association) (new_table : Database)
      → TakesMessage meaning setup old table octets m effect new new_table → KeyedBy effect new.phase
  pub stay : (meaning : Meaning) (setup : Setup) (old : Association) (table : Database) (octets : Octets) (m : Message) (effect : Effect) (new : Association) (new_table : Database) (keys : KeyRecord)
      → keys_in old.phase ≡ Some keys → TakesMessage meaning setup old table octets m effect new new_table → keys_in new.phase ≡ Some keys
  pub made : (meaning : Meaning) (setup : Setup) (old : Association) (table : Database) (octets : Octets) (m : Message) (effect : Effect) (serial : ℕ) (new : Association) (new_table : Database)
      → IsSoundTable table → IsSoundlyHeld old → HoldsReserved old table → child_in effect ≡ Some serial → TakesMessage meaning setup old table octets m effect new new_table
      → MakesChild meaning setup old table octets m effect serial new new_table
  pub asks : (meaning : Meaning) (setup : Setup) (old : Association) (table : Database) (octets : Octets) (m : Message) (next : Octets) (new : Association) (new_table : Database)
      → TakesMessage meaning setup old table octets m (effect.AsksAuth next) new new_table → AsksForChild meaning setup next new
  pub waits : (meaning : Meaning) (setup : Setup) (old : Association) (table : Database) (octets : Octets) (m : Message) (effect : Effect) (new : Association) (new_table : Database) (sent : AuthSent)
      → new.phase ≡ phase.AuthSent sent → TakesMessage meaning setup old table octets m effect new new_table → (old.phase ≡ phase.AuthSent sent) ⊎ IsAsking effect
  pub sound : (meaning : Meaning) (entries : List Entry) (input : InputView) (old : Machine) (table : Database) (stepped : Stepped) (new : Machine) (new_table : Database)
      → IsSoundTable table → IsSoundMachine old table → Steps meaning entries input old table stepped new new_table → IsSoundMachine new new_table

-- who took a message stands under its serial from then on
took_found : (facts : TraceFacts) (meaning : Meaning) (setup : Setup) (octets : Octets) (old : Held) (table : Database) (stepped : Stepped) (new : Held) (new_table : Database)
    → AreSound new new_table → (is : Takes meaning setup octets old table stepped new new_table)
    → association_of is.takes.association.serial new.associations ≡ Some is.takes.changed
took_found facts meaning setup octets old table stepped new new_table sound is =
    let t = is.takes in
    let stays : KeepsIdentity t.association t.changed = facts.itself meaning setup t.association table octets is.message t.effect t.changed new_table t.takes in
    let there : At new is.place t.changed = ap (λ (h : Held). slice_get h.associations is.place) t.content ∙ set_there old.associations is.place t.association t.changed t.there in
    subst (λ n. association_of n new.associations ≡ Some t.changed) stays.serial (sound_found new new_table is.place t.changed sound there)

-- so does who came last
last_found : (old : Held) (b : Association) (new : Held) (new_table : Database) → AreSound new new_table → new ≡ with_next old b → association_of b.serial new.associations ≡ Some b
last_found old b new new_table sound content =
    sound_found new new_table (length old.associations) b sound (ap (λ (h : Held). slice_get h.associations (length old.associations)) content ∙ last_there old.associations b)

no_pair : (table : Database) (serial : ℕ) (o : Option Pair) → IsSoundTable table → serial ≡ table.next → pair_at table.pairs serial ≡ o → o ≡ None
no_pair table serial None sound in_order is = refl
no_pair table serial (Some pair) sound in_order is = let given = (sound.serial_given serial pair is).1 in absurd (omega (arith, given, in_order))

made_held : (meaning : Meaning) (setup : Setup) (was : Association) (table : Database) (octets : Octets) (m : Message) (e : Effect) (made : MadeChild) (is : Association) (held : Held) (new_table : Database)
    → IsSoundTable table → was.serial ≡ made.ike → association_of made.ike held.associations ≡ Some is → MakesChild meaning setup was table octets m e made.serial is new_table
    → HoldsChild table made held new_table
made_held meaning setup was table octets m e made is held new_table sound serial found makes =
    let b = makes.brings in
    record {
      keyed = record { association = is; there = found; keys = makes.keys; are = ap keys_in b.established };
      pair = makes.pair;
      in_order = b.in_order;
      was_none = no_pair table made.serial (pair_at table.pairs made.serial) sound b.in_order refl;
      there = b.there;
      unused = subst (λ n. IsUnused n makes.pair) serial b.unused;
    }

-- the trace of an effect
record IsTracedBy (ike number : ℕ) (e : Effect) : Type 0 where
  octets : (mark : Mark) → (stepped_of ike number e).trace.sent ≡ Some mark → IsSome (octets_in (stepped_of ike number e).output)
  sent : (mark : Mark) → (stepped_of ike number e).trace.sent ≡ Some mark → mark.ike ≡ ike
  keyed : (other : ℕ) → (stepped_of ike number e).trace.keyed ≡ Some other → other ≡ ike
  child : (made : MadeChild) → (stepped_of ike number e).trace.child ≡ Some made → (made.ike ≡ ike) × (made.number ≡ number) × (child_in e ≡ Some made.serial)

child_named : (ike number : ℕ) (asked : Bool) (child : Option ℕ) (made : MadeChild) → child_of ike number asked child ≡ Some made → (made.ike ≡ ike) × (made.number ≡ number) × (child ≡ Some made.serial)
child_named ike number asked None made e = absurd (none_out made e)
child_named ike number asked (Some serial) made e =
    let same : record { serial = serial; ike = ike; number = number; asked = asked } ≡ made = same_out _ made e in
    (sym (ap (λ (m : MadeChild). m.ike) same), sym (ap (λ (m : MadeChild). m.number) same), ap (λ (m : MadeChild). Some m.serial) same)

mark_named : (one mark : Mark) → Some one ≡ Some mark → mark.ike ≡ one.ike
mark_named one mark e = sym (ap (λ (m : Mark). m.ike) (same_out one mark e))

traced_by : (ike number : ℕ) (e : Effect) → IsTracedBy ike number e
traced_by ike number (effect.Refused f) =
    record { octets = λ mark e. absurd (none_out mark e); sent = λ mark e. absurd (none_out mark e); keyed = λ other e. absurd (none_out other e); child = λ made e. absurd (none_out made e) }
traced_by ike number (effect.Repeated octets) =
    record { octets = λ mark e. refl; sent = λ mark e. mark_named _ mark e; keyed = λ other e. absurd (none_out other e); child = λ made e. absurd (none_out made e) }
traced_by ike number (effect.Replied answered) =
    record { octets = λ mark e. refl; sent = λ mark e. mark_named _ mark e; keyed = λ other e. absurd (none_out other e); child = λ made e. child_named ike number false (made_by answered.fate) made e }
traced_by ike number (effect.Again octets) =
    record { octets = λ mark e. absurd (none_out mark e); sent = λ mark e. absurd (none_out mark e); keyed = λ other e. absurd (none_out other e); child = λ made e. absurd (none_out made e) }
traced_by ike number (effect.AsksAuth octets) =
    record { octets = λ mark e. refl; sent = λ mark e. mark_named _ mark e; keyed = λ other e. sym (same_out ike other e); child = λ made e. absurd (none_out made e) }
traced_by ike number (effect.Counted ended) =
    record { octets = λ mark e. absurd (none_out mark e); sent = λ mark e. absurd (none_out mark e); keyed = λ other e. absurd (none_out other e); child = λ made e. child_named ike number true (made_by ended.fate) made e }

-- an effect that the trace names asks for keys
record NamesKeyed (ike number : ℕ) (e : Effect) (p : Phase) : Type 0 where
  sent : (mark : Mark) → (stepped_of ike number e).trace.sent ≡ Some mark → HasKeys p
  keyed : (other : ℕ) → (stepped_of ike number e).trace.keyed ≡ Some other → HasKeys p

names_keyed : (ike number : ℕ) (e : Effect) (p : Phase) → KeyedBy e p → NamesKeyed ike number e p
names_keyed ike number (effect.Refused f) p has = record { sent = λ mark e. absurd (none_out mark e); keyed = λ other e. absurd (none_out other e) }
names_keyed ike number (effect.Repeated octets) p has = record { sent = λ mark e. has; keyed = λ other e. has }
names_keyed ike number (effect.Replied answered) p has = record { sent = λ mark e. has; keyed = λ other e. has }
names_keyed ike number (effect.Again octets) p has = record { sent = λ mark e. absurd (none_out mark e); keyed = λ other e. absurd (none_out other e) }
names_keyed ike number (effect.AsksAuth octets) p has = record { sent = λ mark e. has; keyed = λ other e. has }
names_keyed ike number (effect.Counted ended) p has = record { sent = λ mark e. has; keyed = λ other e. has }

holds_keys : (held : Held) (ike other : ℕ) (a : Association) → other ≡ ike → association_of ike held.associations ≡ Some a → HasKeys a.phase → HoldsKeys held other
holds_keys held ike other a same found has =
    subst (λ n. HoldsKeys held n) (sym same) (record { association = a; there = found; keys = has.keys; are = has.are })

-- what is known besides: keys and pairs that come are told by the effect
pub record ToldFacts : Type 0 where
  pub trace : TraceFacts
  pub come : (meaning : Meaning) (setup : Setup) (old : Association) (table : Database) (octets : Octets) (m : Message) (effect : Effect) (new : Association) (new_table : Database) (keys : KeyRecord)
      → keys_in new.phase ≡ Some keys → TakesMessage meaning setup old table octets m effect new new_table → (keys_in old.phase ≡ Some keys) ⊎ IsAsking effect
  pub none : (meaning : Meaning) (setup : Setup) (old : Association) (table : Database) (octets : Octets) (m : Message) (next : Octets) (new : Association) (new_table : Database)
      → TakesMessage meaning setup old table octets m (effect.AsksAuth next) new new_table → keys_in old.phase ≡ None
  pub told : (meaning : Meaning) (setup : Setup) (old : Association) (table : Database) (octets : Octets) (m : Message) (effect : Effect) (new : Association) (new_table : Database) (serial : ℕ) (pair : Pair)
      → TakesMessage meaning setup old table octets m effect new new_table → pair_at new_table.pairs serial ≡ Some pair → (pair_at table.pairs serial ≡ Some pair) ⊎ (child_in effect ≡ Some serial)

-- the effect that the trace names for its keys
keyed_asks : (ike number : ℕ) (e : Effect) (other : ℕ) → (stepped_of ike number e).trace.keyed ≡ Some other → IsAsking e
keyed_asks ike number (effect.Refused f) other keyed = absurd (none_out other keyed)
keyed_asks ike number (effect.Repeated octets) other keyed = absurd (none_out other keyed)
keyed_asks ike number (effect.Replied answered) other keyed = absurd (none_out other keyed)
keyed_asks ike number (effect.Again octets) other keyed = absurd (none_out other keyed)
keyed_asks ike number (effect.AsksAuth octets) other keyed = record { octets = octets; is = refl }
keyed_asks ike number (effect.Counted ended) other keyed = absurd (none_out other keyed)

asks_keyed : (ike number : ℕ) (e : Effect) → IsAsking e → (stepped_of ike number e).trace.keyed ≡ Some ike
asks_keyed ike number e asking = ap (λ (x : Effect). (stepped_of ike number x).trace.keyed) asking.is

-- the Child SA of an effect is named
child_names : (ike number : ℕ) (e : Effect) (serial : ℕ) → child_in e ≡ Some serial → NamesChild (stepped_of ike number e) serial
child_names ike number (effect.Refused f) serial told = absurd (none_out serial told)
child_names ike number (effect.Repeated octets) serial told = absurd (none_out serial told)
child_names ike number (effect.Replied answered) serial told =
    record { made = record { serial = serial; ike = ike; number = number; asked = false }; named = ap (λ (o : Option ℕ). child_of ike number false o) told; same = refl }
child_names ike number (effect.Again octets) serial told = absurd (none_out serial told)
child_names ike number (effect.AsksAuth octets) serial told = absurd (none_out serial told)
child_names ike number (effect.Counted ended) serial told =
    record { made = record { serial = serial; ike = ike; number = number; asked = true }; named = ap (λ (o : Option ℕ). child_of ike number true o) told; same = refl }

-- an IKE SA that keys came to had none
took_none : (facts : ToldFacts) (meaning : Meaning) (setup : Setup) (octets : Octets) (old : Held) (table : Database) (stepped : Stepped) (new : Held) (new_table : Database) (other : ℕ)
    → AreSound old table → (is : Takes meaning setup octets old table stepped new new_table) → other ≡ is.takes.association.serial
    → (stepped_of is.takes.association.serial is.message.header.id is.takes.effect).trace.keyed ≡ Some other → keys_of_serial other old.associations ≡ None
took_none facts meaning setup octets old table stepped new new_table other sound is same keyed =
    let t = is.takes in
    let asking : IsAsking t.effect = keyed_asks t.association.serial is.message.header.id t.effect other keyed in
    let before : association_of other old.associations ≡ Some t.association = subst (λ n. association_of n old.associations ≡ Some t.association) (sym same) (sound_found old table is.place t.association sound t.there) in
    ap keys_of before
    ∙ facts.none meaning setup t.association table octets is.message asking.octets t.changed new_table
    (subst (λ (e : Effect). TakesMessage meaning setup t.association table octets is.message e t.changed new_table) asking.is t.takes)

took_come : (facts : ToldFacts) (meaning : Meaning) (setup : Setup) (octets : Octets) (old : Held) (table : Database) (stepped : Stepped) (new : Held) (new_table : Database) (serial : ℕ) (keys : KeyRecord)
    → AreSound old table → AreSound new new_table → (is : Takes meaning setup octets old table stepped new new_table) → keys_of_serial serial new.associations ≡ Some keys
    → (keys_of_serial serial old.associations ≡ Some keys) ⊎ ((stepped_of is.takes.association.serial is.message.header.id is.takes.effect).trace.keyed ≡ Some serial)
took_come facts meaning setup octets old table stepped new new_table serial keys sound now is are =
    let t = is.takes in
    let stays : KeepsIdentity t.association t.changed = facts.trace.itself meaning setup t.association table octets is.message t.effect t.changed new_table t.takes in
    elim (eqb_tells serial t.association.serial) [
      | inl (one, same) ↦
          let before : association_of serial old.associations ≡ Some t.association = subst (λ n. association_of n old.associations ≡ Some t.association) (sym same) (sound_found old table is.place t.association sound t.there) in
          let after : association_of serial new.associations ≡ Some t.changed = subst (λ n. association_of n new.associations ≡ Some t.changed) (sym same) (took_found facts.trace meaning setup octets old table stepped new new_table now is) in
          elim (facts.come meaning setup t.association table octets is.message t.effect t.changed new_table keys (sym (ap keys_of after) ∙ are) t.takes) [
            | inl had ↦ inl (ap keys_of before ∙ had)
            | inr asking ↦ inr (asks_keyed t.association.serial is.message.header.id t.effect asking ∙ ap Some (sym same))
          ]
      | inr (none, apart) ↦
          let same_keys : keys_of_serial serial new.associations ≡ keys_of_serial serial old.associations = ap keys_of (ap (λ (h : Held). association_of serial h.associations) t.content ∙ replaced_found old.associations is.place t.association t.changed serial t.there apart stays.serial) in
          inl (sym same_keys ∙ are)
    ]

took_pairs : (facts : ToldFacts) (meaning : Meaning) (setup : Setup) (octets : Octets) (old : Held) (table : Database) (stepped : Stepped) (new : Held) (new_table : Database) (serial : ℕ) (pair : Pair)
    → (is : Takes meaning setup octets old table stepped new new_table) → pair_at new_table.pairs serial ≡ Some pair
    → (pair_at table.pairs serial ≡ Some pair) ⊎ NamesChild (stepped_of is.takes.association.serial is.message.header.id is.takes.effect) serial ⊎ BecameDeleting table serial pair
took_pairs facts meaning setup octets old table stepped new new_table serial pair is there =
    let t = is.takes in
    elim (facts.told meaning setup t.association table octets is.message t.effect t.changed new_table serial pair t.takes there) [
      | inl before ↦ inl before
      | inr told ↦ inr (inl (child_names t.association.serial is.message.header.id t.effect serial told))
    ]

took_traced : (facts : ToldFacts) (meaning : Meaning) (setup : Setup) (octets : Octets) (old : Held) (table : Database) (stepped : Stepped) (new : Held) (new_table : Database)
    → IsSoundTable table → AreSound old table → AreSound new new_table → Takes meaning setup octets old table stepped new new_table → IsTraced old table stepped new new_table
took_traced facts meaning setup octets old table stepped new new_table sound_table sound now is =
    let t = is.takes in
    let ike = t.association.serial in
    let by = traced_by ike is.message.header.id t.effect in
    let names = names_keyed ike is.message.header.id t.effect t.changed.phase (facts.trace.keyed meaning setup t.association table octets is.message t.effect t.changed new_table t.takes) in
    let found = took_found facts.trace meaning setup octets old table stepped new new_table now is in
    let traced : IsTraced old table (stepped_of ike is.message.header.id t.effect) new new_table = record {
      octets = by.octets;
      sent = λ mark e. holds_keys new ike mark.ike t.changed (by.sent mark e) found (names.sent mark e);
      keyed = λ other e.
          record {
            none = took_none facts meaning setup octets old table stepped new new_table other sound is (by.keyed other e) e;
            holds = holds_keys new ike other t.changed (by.keyed other e) found (names.keyed other e);
          };
      child = λ made e.
          let named = by.child made e in
          made_held meaning setup t.association table octets is.message t.effect made t.changed new new_table sound_table (sym named.0)
          (subst (λ n. association_of n new.associations ≡ Some t.changed) (sym named.0) found)
          (facts.trace.made meaning setup t.association table octets is.message t.effect made.serial t.changed new_table sound_table (sound.each is.place t.association t.there).soundly (sound.each is.place t.association t.there).reserved named.2 t.takes);
      keys = λ serial keys are. took_come facts meaning setup octets old table stepped new new_table serial keys sound now is are;
      pairs = λ serial pair there. took_pairs facts meaning setup octets old table stepped new new_table serial pair is there;
    } in
    subst (λ (s : Stepped). IsTraced old table s new new_table) (sym t.said) traced

-- nothing was sent under keys, and nothing made
untraced : (old : Held) (table : Database) (stepped : Stepped) (said : IkeOutput) (new : Held) (new_table : Database) → stepped ≡ plain_step said
    → ((serial : ℕ) (keys : KeyRecord) → keys_of_serial serial new.associations ≡ Some keys → keys_of_serial serial old.associations ≡ Some keys) → new_table.pairs ≡ table.pairs
    → IsTraced old table stepped new new_table
untraced old table stepped said new new_table is had same =
    let none : IsTraced old table (plain_step said) new new_table = record {
      octets = λ mark e. absurd (none_out mark e);
      sent = λ mark e. absurd (none_out mark e);
      keyed = λ other e. absurd (none_out other e);
      child = λ made e. absurd (none_out made e);
      keys = λ serial keys are. inl (had serial keys are);
      pairs = λ serial pair there. inl (subst (λ (m : PairMap). pair_at m serial ≡ Some pair) same there);
    } in
    subst (λ (s : Stepped). IsTraced old table s new new_table) (sym is) none

-- who came last has the keys that came
last_come : (old : Held) (b : Association) (new : Held) (new_table : Database) (serial : ℕ) (keys : KeyRecord) → AreSound new new_table → new ≡ with_next old b → keys_of_serial serial new.associations ≡ Some keys
    → (keys_of_serial serial old.associations ≡ Some keys) ⊎ ((serial ≡ b.serial) × (keys_in b.phase ≡ Some keys))
last_come old b new new_table serial keys now content are =
    elim (eqb_tells serial b.serial) [
      | inl (one, same) ↦
          let found : association_of serial new.associations ≡ Some b = subst (λ n. association_of n new.associations ≡ Some b) (sym same) (last_found old b new new_table now content) in
          inr (same, sym (ap keys_of found) ∙ are)
      | inr (none, apart) ↦
          let same_keys : keys_of_serial serial new.associations ≡ keys_of_serial serial old.associations = ap keys_of (ap (λ (h : Held). association_of serial h.associations) content ∙ grown_found old.associations b serial apart) in
          inl (sym same_keys ∙ are)
    ]

-- what is known of a tick
pub record TickFacts : Type 0 where
  pub held : TicksHold
  pub pairs : (now : ℕ) (old : List Association) (table : Database) (ticked : Ticked) (new : List Association) (new_table : Database) → Ticks now old table ticked new new_table → LeavesFewer table new_table

-- keys that there are belong to an IKE SA
record Keyed_by (xs : List Association) (serial : ℕ) (keys : KeyRecord) : Type 0 where
  association : Association
  stands : association_of serial xs ≡ Some association
  has : keys_in association.phase ≡ Some keys

keyed_of : (o : Option Association) (xs : List Association) (serial : ℕ) (keys : KeyRecord) → association_of serial xs ≡ o → keys_of o ≡ Some keys → Keyed_by xs serial keys
keyed_of None xs serial keys stands has = absurd (none_out keys has)
keyed_of (Some a) xs serial keys stands has = record { association = a; stands = stands; has = has }

probed_had : (meaning : Meaning) (setup : Setup) (ike : ℕ) (old : Held) (table : Database) (stepped : Stepped) (new : Held) → AsksAt meaning.body_of setup ike old stepped new → (serial : ℕ) (keys : KeyRecord)
    → AreSound old table → keys_of_serial serial new.associations ≡ Some keys → keys_of_serial serial old.associations ≡ Some keys
probed_had meaning setup ike old table stepped new is serial keys sound are =
    let k = keyed_of (association_of serial new.associations) new.associations serial keys refl are in
    let before = probed_stood meaning.body_of setup ike old stepped new is table serial k.association sound k.stands in
    ap keys_of before.stood ∙ ap keys_in (sym before.phase_is) ∙ k.has

probed_has : (meaning : Meaning) (setup : Setup) (ike : ℕ) (old : Held) (table : Database) (stepped : Stepped) (new : Held) → AsksAt meaning.body_of setup ike old stepped new → (serial : ℕ) (keys : KeyRecord)
    → AreSound old table → keys_of_serial serial old.associations ≡ Some keys → keys_of_serial serial new.associations ≡ Some keys
probed_has meaning setup ike old table stepped new is serial keys sound are =
    let stays = changed_itself meaning.body_of setup ike old stepped new is in
    elim (eqb_tells serial is.association.serial) [
      | inl (one, same) ↦
          let before : association_of serial old.associations ≡ Some is.association = subst (λ n. association_of n old.associations ≡ Some is.association) (sym same) (sound_found old table is.place is.association sound is.there) in
          let after : association_of serial new.associations ≡ Some is.changed =
          subst (λ n. association_of n new.associations ≡ Some is.changed) (sym (probed_serial meaning.body_of setup ike old stepped new is) ∙ sym same) (probed_stands meaning.body_of setup ike old stepped new is table sound) in
          ap keys_of after ∙ ap keys_in (changed_phase meaning.body_of setup ike old stepped new is) ∙ sym (ap keys_of before) ∙ are
      | inr (none, apart) ↦
          ap keys_of (ap (λ (h : Held). association_of serial h.associations) is.content ∙ replaced_found old.associations is.place is.association is.changed serial is.there apart stays.serial) ∙ are
    ]

passed_had : (held : TicksHold) (now : ℕ) (old : Held) (table : Database) (new : Held) (new_table : Database) (stepped : Stepped) (serial : ℕ) (keys : KeyRecord) → AreSound old table
    → TakesHeld now old table new new_table stepped → keys_of_serial serial new.associations ≡ Some keys → keys_of_serial serial old.associations ≡ Some keys
passed_had held now old table new new_table stepped serial keys sound is are =
    let k = keyed_of (association_of serial new.associations) new.associations serial keys refl are in
    let before = ticked_stood now old new table serial k.association sound (held now old.associations table is.ticked new.associations new_table is.ticks) k.stands in
    ap keys_of before.stood ∙ sym (on_keys now before.was k.association before.on) ∙ k.has

admitted_traced : (meaning : Meaning) (setup : Setup) (octets : Octets) (old : Held) (table : Database) (stepped : Stepped) (new : Held) (new_table : Database)
    → AreSound old table → AreSound new new_table → AdmitsOne meaning setup octets old table stepped new new_table → IsTraced old table stepped new new_table
admitted_traced meaning setup octets old table stepped new new_table sound now is =
    let a = is.admits in
    let b : Association = half_open old.next is.spi_i setup.fresh.spi a.admits.agreed.record octets a.admits.agreed.octets setup.moment in
    let content : new ≡ with_next old b = a.content ∙ ap (λ (x : Association). with_next old x) a.admits.content in
    let found : association_of old.next new.associations ≡ Some b = last_found old b new new_table now content in
    let traced : IsTraced old table (half_open_step old.next a.admitted.octets) new new_table = record {
      octets = λ mark e. absurd (none_out mark e);
      sent = λ mark e. absurd (none_out mark e);
      keyed = λ other e.
          let same : other ≡ old.next = sym (same_out old.next other e) in
          record {
            none = subst (λ n. keys_of_serial n old.associations ≡ None) (sym same) (ap keys_of (none_next old table sound));
            holds = holds_keys new old.next other b same found (record { keys = a.admits.agreed.record; are = refl });
          };
      child = λ made e. absurd (none_out made e);
      keys = λ serial keys are.
          elim (last_come old b new new_table serial keys now content are) [
            | inl before ↦ inl before
            | inr last ↦ inr (ap Some (sym last.0))
          ];
      pairs = λ serial pair there. inl (subst (λ (d : Database). pair_at d.pairs serial ≡ Some pair) is.pairs there);
    } in
    subst (λ (s : Stepped). IsTraced old table s new new_table) (sym a.said) traced

started_traced : (meaning : Meaning) (setup : Setup) (old : Held) (table : Database) (stepped : Stepped) (new : Held) (new_table : Database)
    → AreSound new new_table → StartsOne meaning setup old table stepped new new_table → IsTraced old table stepped new new_table
started_traced meaning setup old table stepped new new_table now is =
    let s = is.starts in
    let b : Association = begun old.next s.beginning (child_by s.entry s.done.spi setup.config.extended) in
    untraced old table stepped (output.Request old.next s.beginning.octets) new new_table s.done.said
    (λ serial keys are.
    elim (last_come old b new new_table serial keys now s.done.content are) [
      | inl before ↦ before
      | inr last ↦ absurd (none_out keys last.1)
    ])
    (ap (λ (d : Database). d.pairs) s.done.reserved.content ∙ ap (λ (d : Database). d.pairs) s.room.content)

-- an SA pair that was there, or is being deleted now
named_or_marked : (stepped : Stepped) (table : Database) (serial : ℕ) (pair : Pair) → (pair_at table.pairs serial ≡ Some pair) ⊎ BecameDeleting table serial pair
    → (pair_at table.pairs serial ≡ Some pair) ⊎ NamesChild stepped serial ⊎ BecameDeleting table serial pair
named_or_marked stepped table serial pair (inl there) = inl there
named_or_marked stepped table serial pair (inr marked) = inr (inr marked)

one_pairs : (ike : ℕ) (table new_table : Database) (serial : ℕ) (pair : Pair) → LeavesOrdered ike table new_table ⊎ LeavesReserved table new_table → pair_at new_table.pairs serial ≡ Some pair
    → (pair_at table.pairs serial ≡ Some pair) ⊎ BecameDeleting table serial pair
one_pairs ike table new_table serial pair (inl is) there = marked_pairs is.order table new_table serial pair is.marked there
one_pairs ike table new_table serial pair (inr is) there =
    inl (sym (ap (λ (d : Database). pair_at d.pairs serial) is.reserved.content ∙ ap (λ (d : Database). pair_at d.pairs serial) is.room.content) ∙ there)

-- an IKE SA that asks has keys, and all others have those that they had
probed_traced : (meaning : Meaning) (setup : Setup) (old : Held) (table : Database) (stepped : Stepped) (new : Held) (new_table : Database)
    → AreSound old table → AsksOne meaning setup old table stepped new new_table → IsTraced old table stepped new new_table
probed_traced meaning setup old table stepped new new_table sound is =
    let p = is.probes in
    let stands = probed_stands meaning.body_of setup is.ike old stepped new p table sound in
    let has : HasKeys p.changed.phase = record { keys = p.sends.keys; are = ap keys_in (changed_phase meaning.body_of setup is.ike old stepped new p ∙ p.sends.established) } in
    let traced : IsTraced old table (asking_step is.ike p.association.outgoing.next p.octets) new new_table = record {
      octets = λ mark e. refl;
      sent = λ mark e. holds_keys new is.ike mark.ike p.changed (mark_named _ mark e) stands has;
      keyed = λ other e. absurd (none_out other e);
      child = λ made e. absurd (none_out made e);
      keys = λ serial keys are. inl (probed_had meaning setup is.ike old table stepped new p serial keys sound are);
      pairs = λ serial pair there. named_or_marked _ table serial pair (one_pairs is.ike table new_table serial pair is.leaves there);
    } in
    subst (λ (s : Stepped). IsTraced old table s new new_table) (sym p.said) traced

-- with a tick no keys come, and no pair
passed_traced : (facts : TickFacts) (now : ℕ) (old : Held) (table : Database) (new : Held) (new_table : Database) (stepped : Stepped) → AreSound old table → TakesHeld now old table new new_table stepped
    → IsTraced old table stepped new new_table
passed_traced facts now old table new new_table stepped sound is =
    let traced : IsTraced old table (plain_step (output.Ticked is.ticked)) new new_table = record {
      octets = λ mark e. absurd (none_out mark e);
      sent = λ mark e. absurd (none_out mark e);
      keyed = λ other e. absurd (none_out other e);
      child = λ made e. absurd (none_out made e);
      keys = λ serial keys are. inl (passed_had facts.held now old table new new_table stepped serial keys sound is are);
      pairs = λ serial pair there. inl ((facts.pairs now old.associations table is.ticked new.associations new_table is.ticks).each serial pair there);
    } in
    subst (λ (s : Stepped). IsTraced old table s new new_table) (sym is.said) traced

way_traced : (facts : ToldFacts) (meaning : Meaning) (setup : Setup) (octets : Octets) (old : Held) (table : Database) (stepped : Stepped) (new : Held) (new_table : Database)
    → IsSoundTable table → AreSound old table → AreSound new new_table → Way meaning setup octets old table stepped new new_table → IsTraced old table stepped new new_table
way_traced facts meaning setup octets old table stepped new new_table sound_table sound now (rested is) =
    untraced old table stepped is.said new new_table is.is (λ serial keys are. sym (ap (λ (h : Held). keys_of_serial serial h.associations) is.same) ∙ are) (ap (λ (d : Database). d.pairs) is.pairs)
way_traced facts meaning setup octets old table stepped new new_table sound_table sound now (took is) = took_traced facts meaning setup octets old table stepped new new_table sound_table sound now is
way_traced facts meaning setup octets old table stepped new new_table sound_table sound now (admitted is) = admitted_traced meaning setup octets old table stepped new new_table sound now is
way_traced facts meaning setup octets old table stepped new new_table sound_table sound now (probed is) = probed_traced meaning setup old table stepped new new_table sound is
way_traced facts meaning setup octets old table stepped new new_table sound_table sound now (started is) = started_traced meaning setup old table stepped new new_table now is

pub step_traced : ToldFacts → TickFacts → (meaning : Meaning) (entries : List Entry) (input : InputView) (old : Machine) (table : Database) (stepped : Stepped) (new : Machine) (new_table : Database)
    → IsSoundTable table → IsSoundMachine old table → Steps meaning entries input old table stepped new new_table → IsTraced old.held table stepped new.held new_table
step_traced facts ticks meaning entries input old table stepped new new_table sound_table sound is = elim (step_way meaning entries input old table stepped new new_table is) [
  | inl w ↦ way_traced facts meaning w.setup w.octets old.held table stepped new.held new_table sound_table sound.held
      (facts.trace.sound meaning entries input old table stepped new new_table sound_table sound is).held w.way
  | inr passes ↦ passed_traced ticks passes.now old.held table new.held new_table stepped sound.held passes.takes
]

-- ---- keys stay

took_keys : (facts : TraceFacts) (meaning : Meaning) (setup : Setup) (octets : Octets) (old : Held) (table : Database) (stepped : Stepped) (new : Held) (new_table : Database) (serial : ℕ) (keys : KeyRecord)
    → AreSound old table → AreSound new new_table → Takes meaning setup octets old table stepped new new_table → keys_of_serial serial old.associations ≡ Some keys → keys_of_serial serial new.associations ≡ Some keys
took_keys facts meaning setup octets old table stepped new new_table serial keys sound now is are =
    let t = is.takes in
    let stays : KeepsIdentity t.association t.changed = facts.itself meaning setup t.association table octets is.message t.effect t.changed new_table t.takes in
    elim (eqb_tells serial t.association.serial) [
      | inl (one, same) ↦
          let before : association_of serial old.associations ≡ Some t.association = subst (λ n. association_of n old.associations ≡ Some t.association) (sym same) (sound_found old table is.place t.association sound t.there) in
          let after : association_of serial new.associations ≡ Some t.changed = subst (λ n. association_of n new.associations ≡ Some t.changed) (sym same) (took_found facts meaning setup octets old table stepped new new_table now is) in
          ap keys_of after ∙ facts.stay meaning setup t.association table octets is.message t.effect t.changed new_table keys (sym (ap keys_of before) ∙ are) t.takes
      | inr (none, apart) ↦
          ap keys_of (ap (λ (h : Held). association_of serial h.associations) t.content ∙ replaced_found old.associations is.place t.association t.changed serial t.there apart stays.serial) ∙ are
    ]

way_keys : (facts : TraceFacts) (meaning : Meaning) (setup : Setup) (octets : Octets) (old : Held) (table : Database) (stepped : Stepped) (new : Held) (new_table : Database) (serial : ℕ) (keys : KeyRecord)
    → AreSound old table → AreSound new new_table → Way meaning setup octets old table stepped new new_table → keys_of_serial serial old.associations ≡ Some keys → keys_of_serial serial new.associations ≡ Some keys
way_keys facts meaning setup octets old table stepped new new_table serial keys sound now (rested is) are = ap (λ (h : Held). keys_of_serial serial h.associations) is.same ∙ are
way_keys facts meaning setup octets old table stepped new new_table serial keys sound now (took is) are = took_keys facts meaning setup octets old table stepped new new_table serial keys sound now is are
way_keys facts meaning setup octets old table stepped new new_table serial keys sound now (admitted is) are =
    ap (λ (h : Held). keys_of_serial serial h.associations) is.admits.content ∙ grown_keys old.associations is.admits.admitted.association serial keys are
way_keys facts meaning setup octets old table stepped new new_table serial keys sound now (probed is) are = probed_has meaning setup is.ike old table stepped new is.probes serial keys sound are
way_keys facts meaning setup octets old table stepped new new_table serial keys sound now (started is) are =
    ap (λ (h : Held). keys_of_serial serial h.associations) is.starts.done.content
    ∙ grown_keys old.associations (begun old.next is.starts.beginning (child_by is.starts.entry is.starts.done.spi setup.config.extended)) serial keys are

pub step_keys : TraceFacts → TicksHold → (meaning : Meaning) (entries : List Entry) (input : InputView) (old : Machine) (table : Database) (stepped : Stepped) (new : Machine) (new_table : Database) (serial : ℕ) (keys : KeyRecord) (a : Association)
    → IsSoundTable table → IsSoundMachine old table → Steps meaning entries input old table stepped new new_table
    → keys_of_serial serial old.held.associations ≡ Some keys → association_of serial new.held.associations ≡ Some a → keys_in a.phase ≡ Some keys
step_keys facts held meaning entries input old table stepped new new_table serial keys a sound_table sound is are stands = elim (step_way meaning entries input old table stepped new new_table is) [
  | inl w ↦ sym (ap keys_of stands) ∙ way_keys facts meaning w.setup w.octets old.held table stepped new.held new_table serial keys sound.held
      (facts.sound meaning entries input old table stepped new new_table sound_table sound is).held w.way are
  | inr passes ↦
      let before = ticked_stood passes.now old.held new.held table serial a sound.held (held passes.now old.held.associations table passes.takes.ticked new.held.associations new_table passes.takes.ticks) stands in
      on_keys passes.now before.was a before.on ∙ sym (ap keys_of before.stood) ∙ are
]

-- ---- Child SAs

took_makes : (facts : TraceFacts) (meaning : Meaning) (setup : Setup) (octets : Octets) (old : Held) (table : Database) (stepped : Stepped) (made : MadeChild) (new : Held) (new_table : Database)
    → IsSoundTable table → AreSound old table → AreSound new new_table → Takes meaning setup octets old table stepped new new_table → stepped.trace.child ≡ Some made
    → MakesChildOf meaning setup octets old table stepped made new new_table
took_makes facts meaning setup octets old table stepped made new new_table sound_table sound now is named =
    let t = is.takes in
    let by = (traced_by t.association.serial is.message.header.id t.effect).child made (sym (ap (λ (s : Stepped). s.trace.child) t.said) ∙ named) in
    record {
      message = is.message;
      spelled = is.spelled;
      number = by.1;
      was = t.association;
      serial = sym by.0;
      stood = subst (λ n. association_of n old.associations ≡ Some t.association) (sym by.0) (sound_found old table is.place t.association sound t.there);
      is = t.changed;
      stands = subst (λ n. association_of n new.associations ≡ Some t.changed) (sym by.0) (took_found facts meaning setup octets old table stepped new new_table now is);
      effect = t.effect;
      said = t.said ∙ ap (λ n. stepped_of n is.message.header.id t.effect) (sym by.0);
      makes = facts.made meaning setup t.association table octets is.message t.effect made.serial t.changed new_table sound_table (sound.each is.place t.association t.there).soundly (sound.each is.place t.association t.there).reserved by.2 t.takes;
    }

-- nothing was made
none_made : (stepped : Stepped) (said : IkeOutput) (made : MadeChild) → stepped ≡ plain_step said → stepped.trace.child ≡ Some made → ⊥
none_made stepped said made is named = none_out made (sym (ap (λ (s : Stepped). s.trace.child) is) ∙ named)

way_makes : (facts : TraceFacts) (meaning : Meaning) (setup : Setup) (octets : Octets) (old : Held) (table : Database) (stepped : Stepped) (made : MadeChild) (new : Held) (new_table : Database)
    → IsSoundTable table → AreSound old table → AreSound new new_table → Way meaning setup octets old table stepped new new_table → stepped.trace.child ≡ Some made
    → MakesChildOf meaning setup octets old table stepped made new new_table
way_makes facts meaning setup octets old table stepped made new new_table sound_table sound now (rested is) named = absurd (none_made stepped is.said made is.is named)
way_makes facts meaning setup octets old table stepped made new new_table sound_table sound now (took is) named = took_makes facts meaning setup octets old table stepped made new new_table sound_table sound now is named
way_makes facts meaning setup octets old table stepped made new new_table sound_table sound now (admitted is) named = absurd (none_out made (sym (ap (λ (s : Stepped). s.trace.child) is.admits.said) ∙ named))
way_makes facts meaning setup octets old table stepped made new new_table sound_table sound now (probed is) named = absurd (none_out made (sym (ap (λ (s : Stepped). s.trace.child) is.probes.said) ∙ named))
way_makes facts meaning setup octets old table stepped made new new_table sound_table sound now (started is) named =
    absurd (none_made stepped (output.Request old.next is.starts.beginning.octets) made is.starts.done.said named)

pub step_makes : TraceFacts → (meaning : Meaning) (entries : List Entry) (from octets : Octets) (fresh : Fresh) (old : Machine) (table : Database) (stepped : Stepped) (made : MadeChild) (new : Machine) (new_table : Database)
    → IsSoundTable table → IsSoundMachine old table → Steps meaning entries (steps.Message from octets fresh) old table stepped new new_table → stepped.trace.child ≡ Some made
    → MakesChildOf meaning (setup_at old entries fresh) octets old.held table stepped made new.held new_table
step_makes facts meaning entries from octets fresh old table stepped made new new_table sound_table sound is named =
    way_makes facts meaning (setup_at old entries fresh) octets old.held table stepped made new.held new_table sound_table sound.held
    (facts.sound meaning entries (steps.Message from octets fresh) old table stepped new new_table sound_table sound is).held
    (datagram_way meaning (setup_at old entries fresh) old.cookies from octets old.held table stepped new.held new_table is.1) named

-- the effect by which keys come and a request goes out
record IsIdentity (ike other : ℕ) (e : Effect) (next : Octets) : Type 0 where
  same : other ≡ ike
  is : e ≡ effect.AsksAuth next

same_request : (ike other : ℕ) (octets next : Octets) → output.Request ike octets ≡ output.Request other next → octets ≡ next
same_request ike other octets next e = cc

identity_by : (ike number : ℕ) (e : Effect) (other : ℕ) (next : Octets) → (stepped_of ike number e).output ≡ output.Request other next → (stepped_of ike number e).trace.keyed ≡ Some other
    → IsIdentity ike other e next
identity_by ike number (effect.Refused f) other next said keyed = absurd (none_out other keyed)
identity_by ike number (effect.Repeated octets) other next said keyed = absurd (none_out other keyed)
identity_by ike number (effect.Replied answered) other next said keyed = absurd (none_out other keyed)
identity_by ike number (effect.Again octets) other next said keyed = absurd (none_out other keyed)
identity_by ike number (effect.AsksAuth octets) other next said keyed =
    record { same = sym (same_out ike other keyed); is = ap (λ (o : Octets). effect.AsksAuth o) (same_request ike other octets next said) }
identity_by ike number (effect.Counted ended) other next said keyed = absurd (none_out other keyed)

took_asks : (facts : TraceFacts) (meaning : Meaning) (setup : Setup) (octets : Octets) (old : Held) (table : Database) (stepped : Stepped) (ike : ℕ) (next : Octets) (new : Held) (new_table : Database)
    → AreSound new new_table → Takes meaning setup octets old table stepped new new_table → stepped.output ≡ output.Request ike next → stepped.trace.keyed ≡ Some ike
    → AsksFirstChild meaning setup ike next new
took_asks facts meaning setup octets old table stepped ike next new new_table now is said keyed =
    let t = is.takes in
    let by = identity_by t.association.serial is.message.header.id t.effect ike next (sym (ap (λ (s : Stepped). s.output) t.said) ∙ said) (sym (ap (λ (s : Stepped). s.trace.keyed) t.said) ∙ keyed) in
    record {
      is = t.changed;
      stands = subst (λ n. association_of n new.associations ≡ Some t.changed) (sym by.same) (took_found facts meaning setup octets old table stepped new new_table now is);
      asks = facts.asks meaning setup t.association table octets is.message next t.changed new_table
          (subst (λ (e : Effect). TakesMessage meaning setup t.association table octets is.message e t.changed new_table) by.is t.takes);
    }

reply_request : (octets : Octets) (closed : Option ℕ) (ike : ℕ) (next : Octets) → output.Reply octets closed ≡ output.Request ike next → ⊥
reply_request octets closed ike next e = cc

-- no keys came
none_keyed : (stepped : Stepped) (said : IkeOutput) (ike : ℕ) → stepped ≡ plain_step said → stepped.trace.keyed ≡ Some ike → ⊥
none_keyed stepped said ike is keyed = none_out ike (sym (ap (λ (s : Stepped). s.trace.keyed) is) ∙ keyed)

way_asks : (facts : TraceFacts) (meaning : Meaning) (setup : Setup) (octets : Octets) (old : Held) (table : Database) (stepped : Stepped) (ike : ℕ) (next : Octets) (new : Held) (new_table : Database)
    → AreSound new new_table → Way meaning setup octets old table stepped new new_table → stepped.output ≡ output.Request ike next → stepped.trace.keyed ≡ Some ike
    → AsksFirstChild meaning setup ike next new
way_asks facts meaning setup octets old table stepped ike next new new_table now (rested is) said keyed = absurd (none_keyed stepped is.said ike is.is keyed)
way_asks facts meaning setup octets old table stepped ike next new new_table now (took is) said keyed = took_asks facts meaning setup octets old table stepped ike next new new_table now is said keyed
way_asks facts meaning setup octets old table stepped ike next new new_table now (admitted is) said keyed =
    absurd (reply_request is.admits.admitted.octets None ike next (sym (ap (λ (s : Stepped). s.output) is.admits.said) ∙ said))
way_asks facts meaning setup octets old table stepped ike next new new_table now (probed is) said keyed = absurd (none_out ike (sym (ap (λ (s : Stepped). s.trace.keyed) is.probes.said) ∙ keyed))
way_asks facts meaning setup octets old table stepped ike next new new_table now (started is) said keyed =
    absurd (none_keyed stepped (output.Request old.next is.starts.beginning.octets) ike is.starts.done.said keyed)

pub step_asks : TraceFacts → (meaning : Meaning) (entries : List Entry) (from octets : Octets) (fresh : Fresh) (old : Machine) (table : Database) (stepped : Stepped) (ike : ℕ) (next : Octets) (new : Machine) (new_table : Database)
    → IsSoundTable table → IsSoundMachine old table → Steps meaning entries (steps.Message from octets fresh) old table stepped new new_table
    → stepped.output ≡ output.Request ike next → stepped.trace.keyed ≡ Some ike → AsksFirstChild meaning (setup_at old entries fresh) ike next new.held
step_asks facts meaning entries from octets fresh old table stepped ike next new new_table sound_table sound is said keyed =
    way_asks facts meaning (setup_at old entries fresh) octets old.held table stepped ike next new.held new_table
    (facts.sound meaning entries (steps.Message from octets fresh) old table stepped new new_table sound_table sound is).held
    (datagram_way meaning (setup_at old entries fresh) old.cookies from octets old.held table stepped new.held new_table is.1) said keyed

-- ---- who waits for a Child SA waited for it before, or asks for it now

same_phase : (a b : Association) (sent : AuthSent) → a ≡ b → b.phase ≡ phase.AuthSent sent → a.phase ≡ phase.AuthSent sent
same_phase a b sent same waits = ap (λ (x : Association). x.phase) same ∙ waits

took_waits : (facts : TraceFacts) (meaning : Meaning) (setup : Setup) (octets : Octets) (old : Held) (table : Database) (stepped : Stepped) (new : Held) (new_table : Database) (ike : ℕ) (a : Association) (sent : AuthSent)
    → AreSound old table → AreSound new new_table → Takes meaning setup octets old table stepped new new_table
    → association_of ike new.associations ≡ Some a → a.phase ≡ phase.AuthSent sent → WaitedBefore ike sent old ⊎ AsksNow ike stepped
took_waits facts meaning setup octets old table stepped new new_table ike a sent sound now is stands waits =
    let t = is.takes in
    let stays : KeepsIdentity t.association t.changed = facts.itself meaning setup t.association table octets is.message t.effect t.changed new_table t.takes in
    elim (eqb_tells ike t.association.serial) [
      | inl (one, same) ↦
          let found : association_of ike new.associations ≡ Some t.changed = subst (λ n. association_of n new.associations ≡ Some t.changed) (sym same) (took_found facts meaning setup octets old table stepped new new_table now is) in
          let changed : t.changed.phase ≡ phase.AuthSent sent = same_phase t.changed a sent (same_out t.changed a (sym found ∙ stands)) waits in
          elim (facts.waits meaning setup t.association table octets is.message t.effect t.changed new_table sent changed t.takes) [
            | inl before ↦ inl (record {
              was = t.association;
              stood = subst (λ n. association_of n old.associations ≡ Some t.association) (sym same) (sound_found old table is.place t.association sound t.there);
              waited = before;
            })
            | inr asking ↦
                let said : stepped ≡ stepped_of t.association.serial is.message.header.id (effect.AsksAuth asking.octets) = t.said ∙ ap (λ e. stepped_of t.association.serial is.message.header.id e) asking.is in
                inr (record {
                  next = asking.octets;
                  said = ap (λ (s : Stepped). s.output) said ∙ ap (λ n. output.Request n asking.octets) (sym same);
                  keyed = ap (λ (s : Stepped). s.trace.keyed) said ∙ ap Some (sym same);
                })
          ]
      | inr (none, apart) ↦ inl (record {
        was = a;
        stood = sym (ap (λ (h : Held). association_of ike h.associations) t.content ∙ replaced_found old.associations is.place t.association t.changed ike t.there apart stays.serial) ∙ stands;
        waited = waits;
      })
    ]

-- who came last does not wait for the response of IKE_AUTH
came_waits : (old : Held) (b : Association) (stepped : Stepped) (new : Held) (new_table : Database) (ike : ℕ) (a : Association) (sent : AuthSent)
    → AreSound new new_table → new ≡ with_next old b → (b.phase ≡ phase.AuthSent sent → ⊥)
    → association_of ike new.associations ≡ Some a → a.phase ≡ phase.AuthSent sent → WaitedBefore ike sent old ⊎ AsksNow ike stepped
came_waits old b stepped new new_table ike a sent now content other stands waits =
    elim (eqb_tells ike b.serial) [
      | inl (one, same) ↦
          let found : association_of ike new.associations ≡ Some b = subst (λ n. association_of n new.associations ≡ Some b) (sym same) (last_found old b new new_table now content) in
          absurd (other (same_phase b a sent (same_out b a (sym found ∙ stands)) waits))
      | inr (none, apart) ↦ inl (record {
        was = a;
        stood = sym (ap (λ (h : Held). association_of ike h.associations) content ∙ grown_found old.associations b ike apart) ∙ stands;
        waited = waits;
      })
    ]

opened_waits : (opened : HalfOpen) (sent : AuthSent) → phase.HalfOpen opened ≡ phase.AuthSent sent → ⊥
opened_waits opened sent e = cc

begun_waits : (waiting : InitSent) (sent : AuthSent) → phase.InitSent waiting ≡ phase.AuthSent sent → ⊥
begun_waits waiting sent e = cc

way_waits : (facts : TraceFacts) (meaning : Meaning) (setup : Setup) (octets : Octets) (old : Held) (table : Database) (stepped : Stepped) (new : Held) (new_table : Database) (ike : ℕ) (a : Association) (sent : AuthSent)
    → AreSound old table → AreSound new new_table → Way meaning setup octets old table stepped new new_table
    → association_of ike new.associations ≡ Some a → a.phase ≡ phase.AuthSent sent → WaitedBefore ike sent old ⊎ AsksNow ike stepped
way_waits facts meaning setup octets old table stepped new new_table ike a sent sound now (rested is) stands waits =
    inl (record { was = a; stood = sym (ap (λ (h : Held). association_of ike h.associations) is.same) ∙ stands; waited = waits })
way_waits facts meaning setup octets old table stepped new new_table ike a sent sound now (took is) stands waits =
    took_waits facts meaning setup octets old table stepped new new_table ike a sent sound now is stands waits
way_waits facts meaning setup octets old table stepped new new_table ike a sent sound now (admitted is) stands waits =
    came_waits old is.admits.admitted.association stepped new new_table ike a sent now is.admits.content
    (λ e. opened_waits _ sent (sym (ap (λ (x : Association). x.phase) is.admits.admits.content) ∙ e)) stands waits
way_waits facts meaning setup octets old table stepped new new_table ike a sent sound now (probed is) stands waits =
    let before = probed_stood meaning.body_of setup is.ike old stepped new is.probes table ike a sound stands in
    inl (record { was = before.was; stood = before.stood; waited = sym before.phase_is ∙ waits })
way_waits facts meaning setup octets old table stepped new new_table ike a sent sound now (started is) stands waits =
    came_waits old (begun old.next is.starts.beginning (child_by is.starts.entry is.starts.done.spi setup.config.extended)) stepped new new_table ike a sent now is.starts.done.content
    (λ e. begun_waits _ sent e) stands waits

closed_waits : (keys : Option KeyRecord) (at : ℕ) (sent : AuthSent) → phase.Closed keys at ≡ phase.AuthSent sent → ⊥
closed_waits keys at sent e = cc

pub step_waits : TraceFacts → TicksHold → (meaning : Meaning) (entries : List Entry) (input : InputView) (old : Machine) (table : Database) (stepped : Stepped) (new : Machine) (new_table : Database) (ike : ℕ) (a : Association) (sent : AuthSent)
    → IsSoundTable table → IsSoundMachine old table → Steps meaning entries input old table stepped new new_table
    → association_of ike new.held.associations ≡ Some a → a.phase ≡ phase.AuthSent sent → WaitedBefore ike sent old.held ⊎ AsksNow ike stepped
step_waits facts held meaning entries input old table stepped new new_table ike a sent sound_table sound is stands waits = elim (step_way meaning entries input old table stepped new new_table is) [
  | inl w ↦ way_waits facts meaning w.setup w.octets old.held table stepped new.held new_table ike a sent sound.held
      (facts.sound meaning entries input old table stepped new new_table sound_table sound is).held w.way stands waits
  | inr passes ↦
      let before = ticked_stood passes.now old.held new.held table ike a sound.held (held passes.now old.held.associations table passes.takes.ticked new.held.associations new_table passes.takes.ticks) stands in
      inl (record {
        was = before.was;
        stood = before.stood;
        waited = elim before.on.phase [
          | inl stays ↦ sym stays.1 ∙ waits
          | inr closes ↦ absurd (closed_waits (keys_in before.was.phase) passes.now sent (sym (ap (λ (x : Association). x.phase) closes.content) ∙ waits))
        ];
      })
]
