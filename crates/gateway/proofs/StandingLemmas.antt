-- A step of the machine of IKE leaves each pair with an IKE SA that is established.
use Rattle.std.proofs.Common.{◌≡◌, ◌⊎◌, ℕ, Bool, true, false, List, [], ◌∷◌, Option, Some, None, refl, ap, subst, sym, ◌∙◌, inl, inr, max}
use Rattle.std.specs.List.{AllByRecursion, AllZip}
use Rattle.std.specs.Option.{option_map}
use Rattle.std.specs.Prelude.{option_and_then}
use Rattle.base.specs.Octets.{Octets}
use Rattle.policy.specs.declared.entry.Entry.{Entry}
use Rattle.wire.specs.declared.payload.Payload.{Payload}
use Rattle.suite.specs.declared.fresh.Fresh.{Fresh}
use Rattle.suite.specs.declared.key_record.KeyRecord.{KeyRecord}
use Rattle.exchange.specs.declared.headers.Role.{Role}
use Rattle.exchange.specs.declared.sealed.Plain.{Plain}
use Rattle.sadb.specs.Database.{pair_at, Database, IsSoundTable}
use Rattle.sadb.specs.declared.pair.Pair.{Pair}
use Rattle.sadb.specs.declared.pair.State.TheVariants.{Deleting}
use Rattle.association.specs.Phases.{keys_in}
use Rattle.association.specs.Receiving.{is_closed, opened_under, Opening}
use Rattle.association.specs.declared.phase.Association.{Association}
use Rattle.association.specs.declared.phase.AuthSent.{AuthSent}
use Rattle.association.specs.declared.phase.HalfOpen.{HalfOpen}
use Rattle.association.specs.declared.phase.Phase.{Phase}
use Rattle.association.specs.declared.phase.Phase.TheVariants as phase
use Rattle.moments.specs.Due.{held_of}
use Rattle.moments.specs.Held.{LeavesPairsBut, StaysItself}
use Rattle.moments.specs.Ticking.{Ticks}
use Rattle.moments.specs.declared.ticking.Ticked.{Ticked}
use Rattle.effects.specs.Moves.{ledger, ledger_of, Close, Count, Issue, Lead, Ledger, Make, Move, Moves, Remove, TakeEffect}
use Rattle.effects.specs.Taking.{Meaning}
use Rattle.ike.specs.Children.{MakesChildOf}
use Rattle.ike.specs.LawsOfChildren.{WhoWaitsWaitedOrAsksNow}
use Rattle.ike.specs.LawsOfOutputs.{KeysStay}
use Rattle.ike.specs.LawsOfRequests.{TheHalfOpenWereSoBefore}
use Rattle.ike.specs.LawsOfSteps.{StepsKeepTheirLaws}
use Rattle.ike.specs.Machines.{association_of, keys_of_serial, setup_at, Held, Machine}
use Rattle.ike.specs.Moves.{ledger_at, Tells, TellsClosed}
use Rattle.ike.specs.Orders as order
use Rattle.ike.specs.Proving.{ProvedBy}
use Rattle.ike.specs.Soundness.{IsSoundMachine}
use Rattle.ike.specs.StepLaws.{StepsByLaws}
use Rattle.ike.specs.Steps.{is_tick, InputView, Steps}
use Rattle.ike.specs.Steps as input
use Rattle.ike.specs.Ticking.{TakesMoment}
use Rattle.ike.specs.Tracing.{NamesChild}
use Rattle.ike.specs.declared.output.MadeChild.{MadeChild}
use Rattle.ike.specs.declared.output.Stepped.{Stepped}
use Rattle.gateway.specs.Carrying.{KeepsItself}
use Rattle.gateway.proofs.EndingLemmas.{HasNone}
use Rattle.gateway.proofs.TellingLemmas.{step_tells}
use Rattle.gateway.proofs.TickLemmas.{still_established}

-- what is known of a step
pub record StepFacts : Type 0 where
  pub laws : StepsKeepTheirLaws
  pub waits : WhoWaitsWaitedOrAsksNow
  pub half_open : TheHalfOpenWereSoBefore
  pub held : (now : ℕ) (old new : List Association) (table new_table : Database) (ticked : Ticked) → Ticks now old table ticked new new_table → AllZip (StaysItself now ticked.closed) (held_of now old) new
  pub stay : KeysStay
  pub go : (now : ℕ) (old : List Association) (table : Database) (ticked : Ticked) (new : List Association) (new_table : Database) → Ticks now old table ticked new new_table → LeavesPairsBut ticked.closed table new_table

-- the IKE SA with this serial is held, and established under these keys
pub record Stands (ike : ℕ) (keys : KeyRecord) (held : Held) : Type 0 where
  pub association : Association
  pub there : association_of ike held.associations ≡ Some association
  pub established : association.phase ≡ phase.Established keys

-- The pair stood before, and its IKE SA stays established where it was.
pub record StoodOn (old new : Held) (table : Database) (child : ℕ) (pair : Pair) : Type 0 where
  pub was : Pair
  pub there : pair_at table.pairs child ≡ Some was
  pub same : KeepsItself was pair
  pub on : (keys : KeyRecord) → Stands pair.ike keys old → Stands pair.ike keys new

-- A datagram made it now, of an IKE SA that is established.
pub record MadeNow (meaning : Meaning) (entries : List Entry) (given : InputView) (old : Machine) (table : Database) (stepped : Stepped) (new : Machine) (new_table : Database) (child : ℕ) (pair : Pair) : Type 0 where
  pub from : Octets
  pub octets : Octets
  pub fresh : Fresh
  pub is : given ≡ input.Message from octets fresh
  pub made : MadeChild
  pub named : stepped.trace.child ≡ Some made
  pub serial : made.serial ≡ child
  pub ike : made.ike ≡ pair.ike
  pub makes : MakesChildOf meaning (setup_at old entries fresh) octets old.held table stepped made new.held new_table
  pub same : makes.makes.pair ≡ pair
  pub stands : Stands pair.ike makes.makes.keys new.held

no : (b : Bool) → b ≡ true → b ≡ false → ⊥
no true one other = cc
no false one other = cc

none_some : {T : Type 0} (x : T) → None ≡ Some x → ⊥
none_some x e = cc

same_some : {T : Type 0} (x y : T) → Some x ≡ Some y → x ≡ y
same_some x y e = cc

-- ---- who has open moves only is not closed

record IsOpenStill (o : Option Ledger) : Type 0 where
  pub ledger : Ledger
  pub is : o ≡ Some ledger
  pub unclosed : ledger.is_closed ≡ false

-- it is open still, or is told to be closed, or a tick has removed it
abbrev Outcome : InputView → Stepped → ℕ → Option Ledger → Type 0
Outcome given stepped serial o = IsOpenStill o ⊎ (TellsClosed serial stepped.output ⊎ (is_tick given ≡ true))

module _ (given : InputView) (stepped : Stepped) (serial : ℕ) where
  moved : (m : Move) (l : Ledger) (next : Option Ledger) → l.is_closed ≡ false → Moves m (Some l) next → Tells given stepped serial m → Outcome given stepped serial next
  moved (Make keys) l next unclosed is told = absurd is
  moved (Issue number octets) l None unclosed is told = absurd is
  moved (Issue number octets) l (Some next) unclosed is told = inl (record { ledger = next; is = refl; unclosed = ap (λ (x : Ledger). x.is_closed) is.content ∙ unclosed })
  moved (Count number) l None unclosed is told = absurd is
  moved (Count number) l (Some next) unclosed is told = inl (record { ledger = next; is = refl; unclosed = ap (λ (x : Ledger). x.is_closed) is.content ∙ unclosed })
  moved (TakeEffect number reply) l None unclosed is told = absurd is
  moved (TakeEffect number reply) l (Some next) unclosed is told = inl (record { ledger = next; is = refl; unclosed = ap (λ (x : Ledger). x.is_closed) is.content ∙ unclosed })
  moved Close l next unclosed is told = inr (inl told)
  moved Remove l next unclosed is told = inr (inr told)

  led : (ms : List Move) (l : Ledger) (new : Option Ledger) → l.is_closed ≡ false → Lead ms (Some l) new → AllByRecursion (Tells given stepped serial) ms → Outcome given stepped serial new
  led [] l new unclosed lead told = inl (record { ledger = l; is = lead; unclosed = unclosed })
  led (m ∷ others) l new unclosed lead told = elim (moved m l lead.0 unclosed lead.1 told.0) [
    | inl next ↦ led others next.ledger new next.unclosed (subst (λ (o : Option Ledger). Lead others o new) next.is lead.2) told.1
    | inr over ↦ inr over
  ]

-- ---- who was established and is not closed stands

record IsHeldOpen (held : Held) (ike : ℕ) : Type 0 where
  pub association : Association
  pub there : association_of ike held.associations ≡ Some association
  pub keys : KeyRecord
  pub are : keys_in association.phase ≡ Some keys
  pub ledger : Ledger
  pub is : ledger ≡ ledger_of association keys
  pub unclosed : ledger.is_closed ≡ false

keys_held : (held : Held) (ike : ℕ) (a : Association) (l : Ledger) (o : Option KeyRecord) → association_of ike held.associations ≡ Some a → keys_in a.phase ≡ o → option_map (ledger_of a) o ≡ Some l → l.is_closed ≡ false
    → IsHeldOpen held ike
keys_held held ike a l None there are is unclosed = absurd (none_some l is)
keys_held held ike a l (Some keys) there are is unclosed = record { association = a; there = there; keys = keys; are = are; ledger = l; is = sym (same_some (ledger_of a keys) l is); unclosed = unclosed }

held_open : (held : Held) (ike : ℕ) (l : Ledger) (o : Option Association) → association_of ike held.associations ≡ o → option_and_then ledger o ≡ Some l → l.is_closed ≡ false → IsHeldOpen held ike
held_open held ike l None there is unclosed = absurd (none_some l is)
held_open held ike l (Some a) there is unclosed = keys_held held ike a l (keys_in a.phase) there refl is unclosed

ledger_stood : (held : Held) (ike : ℕ) (a : Association) (keys : KeyRecord) → association_of ike held.associations ≡ Some a → a.phase ≡ phase.Established keys → ledger_at held ike ≡ Some (ledger_of a keys)
ledger_stood held ike a keys there established =
    ap (λ (o : Option Association). option_and_then ledger o) there ∙ ap (λ (p : Phase). option_map (ledger_of a) (keys_in p)) established

keys_stood : (held : Held) (ike : ℕ) (a : Association) (keys : KeyRecord) → association_of ike held.associations ≡ Some a → a.phase ≡ phase.Established keys → keys_of_serial ike held.associations ≡ Some keys
keys_stood held ike a keys there established = ap (λ (o : Option Association). option_and_then (λ (x : Association). keys_in x.phase) o) there ∙ ap keys_in established

ledger_open : (a : Association) (keys : KeyRecord) → a.phase ≡ phase.Established keys → (ledger_of a keys).is_closed ≡ false
ledger_open a keys established = ap (λ (p : Phase). is_closed p) established

asked_not : (keys : KeyRecord) (sent : AuthSent) → phase.Established keys ≡ phase.AuthSent sent → ⊥
asked_not keys sent e = cc

opened_not : (keys : KeyRecord) (opened : HalfOpen) → phase.Established keys ≡ phase.HalfOpen opened → ⊥
opened_not keys opened e = cc

-- ---- a step that is no tick

module _ (facts : StepFacts) (meaning : Meaning) (entries : List Entry) (given : InputView) (old : Machine) (table : Database) (stepped : Stepped) (new : Machine) (new_table : Database)
    (sound_table : IsSoundTable table) (sound : IsSoundMachine old table) (steps : Steps meaning entries given old table stepped new new_table) where
  laws : StepsByLaws meaning entries given old table stepped new new_table
  laws = facts.laws meaning entries given old table stepped new new_table sound_table sound steps

  -- an IKE SA that has these keys, is not closed and was established is established
  established_by : (p : Phase) (ike : ℕ) (a b : Association) (keys : KeyRecord) → association_of ike old.held.associations ≡ Some a → a.phase ≡ phase.Established keys
      → association_of ike new.held.associations ≡ Some b → b.phase ≡ p → keys_in p ≡ Some keys → is_closed p ≡ false → Stands ike keys new.held
  established_by (phase.InitSent sent) ike a b keys stood was there is are unclosed = absurd (none_some keys are)
  established_by (phase.AuthSent sent) ike a b keys stood was there is are unclosed =
      elim (facts.waits meaning entries given old table stepped new new_table ike b sent sound_table sound steps there is) [
        | inl before ↦ absurd (asked_not keys sent (sym was ∙ ap (λ (x : Association). x.phase) (same_some a before.was (sym stood ∙ before.stood)) ∙ before.waited))
        | inr asks ↦
            let gets = laws.traced.keyed ike asks.keyed in
            absurd (none_some keys (sym gets.none ∙ keys_stood old.held ike a keys stood was))
      ]
  established_by (phase.HalfOpen opened) ike a b keys stood was there is are unclosed =
      absurd (opened_not keys opened (sym was ∙ facts.half_open meaning entries given old table stepped new new_table ike a b opened sound steps (record { before = stood; after = there }) is))
  established_by (phase.Established own) ike a b keys stood was there is are unclosed =
      record { association = b; there = there; established = is ∙ ap (λ (k : KeyRecord). phase.Established k) (same_some own keys are) }
  established_by (phase.Closed own at) ike a b keys stood was there is are unclosed = absurd (no true refl unclosed)

  stands_open : (ike : ℕ) (keys : KeyRecord) → Stands ike keys old.held → IsOpenStill (ledger_at new.held ike) → Stands ike keys new.held
  stands_open ike keys was o =
      let h = held_open new.held ike o.ledger (association_of ike new.held.associations) refl o.is o.unclosed in
      established_by h.association.phase ike was.association h.association keys was.there was.established h.there refl
      (facts.stay meaning entries given old table stepped new new_table ike keys h.association sound_table sound steps (keys_stood old.held ike was.association keys was.there was.established) h.there)
      (sym (ap (λ (x : Ledger). x.is_closed) h.is) ∙ h.unclosed)

  -- who was established stands, as long as a pair of it does
  stands_on : is_tick given ≡ false → (ike : ℕ) (keys : KeyRecord) → Stands ike keys old.held → (HasNone ike new_table → ⊥) → Stands ike keys new.held
  stands_on still ike keys was some =
      let m = laws.moves ike in
      let lead : Lead m.moves (Some (ledger_of was.association keys)) (ledger_at new.held ike) =
      subst (λ (o : Option Ledger). Lead m.moves o (ledger_at new.held ike)) (ledger_stood old.held ike was.association keys was.there was.established) m.lead in
      elim (led given stepped ike m.moves (ledger_of was.association keys) (ledger_at new.held ike) (ledger_open was.association keys was.established) lead m.told) [
        | inl unclosed ↦ stands_open ike keys was unclosed
        | inr over ↦ elim over [
          | inl closed ↦ absurd (some (step_tells ike meaning entries given old table stepped new new_table still steps closed))
          | inr ticks ↦ absurd (no (is_tick given) ticks still)
        ]
      ]

same_pair : (a b : Pair) → Some a ≡ Some b → a ≡ b
same_pair a b e = cc

no_child : (made : MadeChild) → None ≡ Some made → ⊥
no_child made e = cc

abbrev pub PairWay : Meaning → List Entry → InputView → Machine → Database → Stepped → Machine → Database → ℕ → Pair → Type 0
PairWay meaning entries given old table stepped new new_table child pair =
    StoodOn old.held new.held table child pair ⊎ MadeNow meaning entries given old table stepped new new_table child pair

-- a pair that is named is made by a datagram
made_now : (meaning : Meaning) (entries : List Entry) (given : InputView) (old : Machine) (table : Database) (stepped : Stepped) (new : Machine) (new_table : Database)
    → StepsByLaws meaning entries given old table stepped new new_table → Steps meaning entries given old table stepped new new_table
    → (child : ℕ) (pair : Pair) → pair_at new_table.pairs child ≡ Some pair → NamesChild stepped child → MadeNow meaning entries given old table stepped new new_table child pair
made_now meaning entries (input.Message from octets fresh) old table stepped new new_table by steps child pair there names =
    let makes = (by.datagram from octets fresh refl).made names.made names.named in
    let is : makes.makes.pair ≡ pair = same_pair makes.makes.pair pair (sym makes.makes.brings.there ∙ ap (λ n. pair_at new_table.pairs n) names.same ∙ there) in
    let its : names.made.ike ≡ pair.ike = sym makes.serial ∙ sym makes.makes.brings.unused.its ∙ ap (λ (p : Pair). p.ike) is in
    record {
      from = from;
      octets = octets;
      fresh = fresh;
      is = refl;
      made = names.made;
      named = names.named;
      serial = names.same;
      ike = its;
      makes = makes;
      same = is;
      stands = subst (λ n. Stands n makes.makes.keys new.held) its (record { association = makes.is; there = makes.stands; established = makes.makes.brings.established });
    }
made_now meaning entries (input.Start None place fresh) old table stepped new new_table by steps child pair there names =
    absurd (no_child names.made (sym (ap (λ (s : Stepped). s.trace.child) steps.1.done.said) ∙ names.named))
made_now meaning entries (input.Start (Some ike) place fresh) old table stepped new new_table by steps child pair there names =
    absurd (no_child names.made (sym (ap (λ (s : Stepped). s.trace.child) steps.1.asks.asks.said) ∙ names.named))
made_now meaning entries (input.Order (order.Probe ike) fresh) old table stepped new new_table by steps child pair there names =
    absurd (no_child names.made (sym (ap (λ (s : Stepped). s.trace.child) steps.1.asks.said) ∙ names.named))
made_now meaning entries (input.Order (order.DeleteChild serial) fresh) old table stepped new new_table by steps child pair there names =
    absurd (no_child names.made (sym (ap (λ (s : Stepped). s.trace.child) steps.1.asks.asks.said) ∙ names.named))
made_now meaning entries (input.Order (order.DeleteIke ike) fresh) old table stepped new new_table by steps child pair there names =
    absurd (no_child names.made (sym (ap (λ (s : Stepped). s.trace.child) steps.1.asks.said) ∙ names.named))
made_now meaning entries (input.Secret secret) old table stepped new new_table by steps child pair there names =
    absurd (no_child names.made (sym (ap (λ (s : Stepped). s.trace.child) steps.said) ∙ names.named))
made_now meaning entries (input.Tick moment) old table stepped new new_table by steps child pair there names =
    absurd (no_child names.made (sym (ap (λ (s : Stepped). s.trace.child) steps.takes.said) ∙ names.named))

pub itself : (pair : Pair) → KeepsItself pair pair
itself pair = record { ike = refl; inbound = refl; outbound = refl; local = refl; remote = refl }

deleting : (was is : Pair) → is ≡ record was { state = Deleting } → KeepsItself was is
deleting was is same = record {
  ike = ap (λ (p : Pair). p.ike) same;
  inbound = ap (λ (p : Pair). p.inbound.association) same;
  outbound = ap (λ (p : Pair). p.outbound.association) same;
  local = ap (λ (p : Pair). p.local) same;
  remote = ap (λ (p : Pair). p.remote) same;
}

module _ (facts : StepFacts) (meaning : Meaning) (entries : List Entry) (given : InputView) (old : Machine) (table : Database) (stepped : Stepped) (new : Machine) (new_table : Database)
    (sound_table : IsSoundTable table) (sound : IsSoundMachine old table) (steps : Steps meaning entries given old table stepped new new_table) where
  moved_pair : is_tick given ≡ false → (child : ℕ) (pair : Pair) → pair_at new_table.pairs child ≡ Some pair → PairWay meaning entries given old table stepped new new_table child pair
  moved_pair still child pair there =
      let by = laws facts meaning entries given old table stepped new new_table sound_table sound steps in
      let on = λ (keys : KeyRecord) (was : Stands pair.ike keys old.held).
      stands_on facts meaning entries given old table stepped new new_table sound_table sound steps still pair.ike keys was (λ none. none child pair there refl) in
      elim (by.traced.pairs child pair there) [
        | inl stood ↦ inl (record { was = pair; there = stood; same = itself pair; on = on })
        | inr other ↦ elim other [
          | inl names ↦ inr (made_now meaning entries given old table stepped new new_table by steps child pair there names)
          | inr became ↦ inl (record { was = became.was; there = became.stood; same = deleting became.was pair became.is; on = on })
        ]
      ]

ticked_pair : (facts : StepFacts) (moment : ℕ) (old : Machine) (table : Database) (stepped : Stepped) (new : Machine) (new_table : Database) → TakesMoment moment old table stepped new new_table
    → (child : ℕ) (pair : Pair) → pair_at new_table.pairs child ≡ Some pair → StoodOn old.held new.held table child pair
ticked_pair facts moment old table stepped new new_table is child pair there =
    let now = max old.moment moment in
    let ticked = is.takes.ticked in
    let stood = (facts.go now old.held.associations table ticked new.held.associations new_table is.takes.ticks child pair).0 there in
    record {
      was = pair;
      there = stood.0;
      same = itself pair;
      on = λ keys was.
          let still = still_established now ticked.closed pair.ike keys old.held.associations new.held.associations was.association
          (facts.held now old.held.associations new.held.associations table new_table ticked is.takes.ticks) was.there was.established stood.1 in
          record { association = still.is; there = still.there; established = still.established };
    }

-- Each pair after a step stood before, of an IKE SA that stays established where it was; or a datagram made
-- it.
pub pair_way : (facts : StepFacts) (meaning : Meaning) (entries : List Entry) (given : InputView) (old : Machine) (table : Database) (stepped : Stepped) (new : Machine) (new_table : Database)
    → IsSoundTable table → IsSoundMachine old table → Steps meaning entries given old table stepped new new_table
    → (child : ℕ) (pair : Pair) → pair_at new_table.pairs child ≡ Some pair → PairWay meaning entries given old table stepped new new_table child pair
pair_way facts meaning entries (input.Message from octets fresh) old table stepped new new_table sound_table sound steps child pair there =
    moved_pair facts meaning entries (input.Message from octets fresh) old table stepped new new_table sound_table sound steps refl child pair there
pair_way facts meaning entries (input.Start ike place fresh) old table stepped new new_table sound_table sound steps child pair there =
    moved_pair facts meaning entries (input.Start ike place fresh) old table stepped new new_table sound_table sound steps refl child pair there
pair_way facts meaning entries (input.Order what fresh) old table stepped new new_table sound_table sound steps child pair there =
    moved_pair facts meaning entries (input.Order what fresh) old table stepped new new_table sound_table sound steps refl child pair there
pair_way facts meaning entries (input.Secret secret) old table stepped new new_table sound_table sound steps child pair there =
    moved_pair facts meaning entries (input.Secret secret) old table stepped new new_table sound_table sound steps refl child pair there
pair_way facts meaning entries (input.Tick moment) old table stepped new new_table sound_table sound steps child pair there =
    inl (ticked_pair facts moment old table stepped new new_table steps child pair there)

-- ---- who is established after a step

none_opened : {T : Type 0} (x : T) → None ≡ Some x → ⊥
none_opened x e = cc

pub record HasTheseKeys (p : Phase) : Type 0 where
  pub keys : KeyRecord
  pub are : keys_in p ≡ Some keys

opened_keys : (plain_of : Opening) (role : Role) (octets : Octets) (payloads : List Payload) (plain : Plain) (p : Phase) (o : Option KeyRecord) → keys_in p ≡ o → opened_under plain_of role o octets payloads ≡ Some plain → HasTheseKeys p
opened_keys plain_of role octets payloads plain p None is opens = absurd (none_opened plain opens)
opened_keys plain_of role octets payloads plain p (Some keys) is opens = record { keys = keys; are = is }

proved_keys : (meaning : Meaning) (entries : List Entry) (given : InputView) (old : Machine) (was : Association) → ProvedBy meaning entries given old was → HasTheseKeys was.phase
proved_keys meaning entries (input.Message from octets fresh) old was is = opened_keys meaning.plain_of was.role octets is.message.payloads is.plain was.phase (keys_in was.phase) refl is.opened
proved_keys meaning entries (input.Start ike place fresh) old was is = absurd is
proved_keys meaning entries (input.Order what fresh) old was is = absurd is
proved_keys meaning entries (input.Secret secret) old was is = absurd is
proved_keys meaning entries (input.Tick moment) old was is = absurd is

-- its peer proves itself now, under these keys
pub record ProvesNow (meaning : Meaning) (entries : List Entry) (given : InputView) (old : Machine) (ike : ℕ) (keys : KeyRecord) : Type 0 where
  pub was : Association
  pub stood : association_of ike old.held.associations ≡ Some was
  pub under : keys_in was.phase ≡ Some keys
  pub proved : ProvedBy meaning entries given old was

-- Who is established under keys after a step was so before it, or its peer proves itself now, under them.
pub established_way : (facts : StepFacts) (meaning : Meaning) (entries : List Entry) (given : InputView) (old : Machine) (table : Database) (stepped : Stepped) (new : Machine) (new_table : Database)
    → IsSoundTable table → IsSoundMachine old table → Steps meaning entries given old table stepped new new_table
    → (ike : ℕ) (keys : KeyRecord) → Stands ike keys new.held → Stands ike keys old.held ⊎ ProvesNow meaning entries given old ike keys
established_way facts meaning entries given old table stepped new new_table sound_table sound steps ike keys is =
    let by = laws facts meaning entries given old table stepped new new_table sound_table sound steps in
    let known = by.established ike is.association keys is.there is.established in
    elim known.known [
      | inl before ↦ inl (record { association = known.was; there = known.stood; established = before })
      | inr proved ↦
          let has = proved_keys meaning entries given old known.was proved in
          let held : keys_of_serial ike old.held.associations ≡ Some has.keys =
          ap (λ (o : Option Association). option_and_then (λ (x : Association). keys_in x.phase) o) known.stood ∙ has.are in
          let stay : keys_in is.association.phase ≡ Some has.keys =
          facts.stay meaning entries given old table stepped new new_table ike has.keys is.association sound_table sound steps held is.there in
          let same : has.keys ≡ keys = same_some has.keys keys (sym stay ∙ ap keys_in is.established) in
          inr (record { was = known.was; stood = known.stood; under = has.are ∙ ap (λ (k : KeyRecord). Some k) same; proved = proved })
    ]
