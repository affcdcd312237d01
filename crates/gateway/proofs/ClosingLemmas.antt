-- An IKE SA that is closed or held no more stays so, and neither its serial nor that of a Child SA is given
-- again.
use Rattle.std.proofs.Common.{◌≡◌, ◌<◌, ◌≤◌, inl, inr, ℕ, zero, suc, Bool, true, false, List, [], ◌∷◌, length, Option, Some, None, ap, refl, subst, sym, ◌∙◌, arith}
use Rattle.std.specs.List.{slice_get}
use Rattle.std.proofs.lemmas.Bool.Decides.{eqb_tells}
use Rattle.policy.specs.declared.entry.Entry.{Entry}
use Rattle.suite.specs.declared.key_record.KeyRecord.{KeyRecord}
use Rattle.setup.specs.declared.config.Config.{Config}
use Rattle.base.specs.Octets.{Octets}
use Rattle.sadb.specs.Database.{pair_at, Database, IsSoundTable}
use Rattle.sadb.specs.Following.{Follows}
use Rattle.sadb.specs.declared.pair.Pair.{Pair}
use Rattle.association.specs.Receiving.{is_closed}
use Rattle.association.specs.declared.phase.Association.{Association}
use Rattle.association.specs.declared.phase.Phase.{Phase}
use Rattle.association.specs.declared.phase.Phase.TheVariants as phase
use Rattle.moments.specs.Holding.{LeavesFewer}
use Rattle.moments.specs.Ticking.{Ticks}
use Rattle.moments.specs.declared.ticking.Ticked.{Ticked}
use Rattle.effects.specs.Requests.{is_concluded}
use Rattle.effects.specs.Taking.{Meaning}
use Rattle.ike.specs.LawsOfRequests.{SerialsAreBelowTheNext, SerialsRise, TheConcludedStaysConcluded, WhatComesHasTheNextSerial}
use Rattle.ike.specs.Machines.{association_of, Held, Machine}
use Rattle.ike.specs.Orders as orders
use Rattle.ike.specs.Pairs.{ChangesOne}
use Rattle.ike.specs.Proving.{ProvedBy}
use Rattle.ike.specs.Soundness.{IsSoundMachine}
use Rattle.ike.specs.Steps.{InputView, Steps}
use Rattle.ike.specs.Steps as ike
use Rattle.ike.specs.declared.output.Stepped.{Stepped}
use Rattle.ike.specs.declared.output.Trace.{Trace}
use Rattle.traffic.specs.Outcomes.{Outcome}
use Rattle.traffic.specs.Receiving.{Receives}
use Rattle.traffic.specs.Sending.{Sends}
use Rattle.gateway.specs.Histories.{IsPassage, IsTrail, Passage}
use Rattle.gateway.specs.Inputs.{Input}
use Rattle.gateway.specs.Inputs as input
use Rattle.gateway.specs.Outputs.{OutputView}
use Rattle.gateway.specs.States.{association_in, new_gateway, State}
use Rattle.gateway.specs.Steps.{DoesInput, SendsPacket, StepsIke}
use Rattle.gateway.proofs.HistoryLemmas.{at_place, exists, state_at}
use Rattle.gateway.specs.Carrying.{EachPairIsOfAnEstablished}
use Rattle.gateway.specs.Closing.{HasNothingLeft, IsOver, IsOverBy, NothingIsCarriedAfter, WasOf}
use Rattle.gateway.proofs.CarryingLemmas.{begun, only_the_known, passage_goes, stepped, way_of}
use Rattle.gateway.proofs.StandingLemmas.{established_way, StepFacts}

-- what is known of serials, beside what is known of a step
pub record SerialFacts : Type 0 where
  pub steps : StepFacts
  pub concluded : TheConcludedStaysConcluded
  pub begun : WhatComesHasTheNextSerial
  pub given : SerialsAreBelowTheNext
  pub rises : SerialsRise
  pub fewer : (now : ℕ) (old : List Association) (table : Database) (ticked : Ticked) (new : List Association) (new_table : Database) → Ticks now old table ticked new new_table → LeavesFewer table new_table
  pub received : (old new : Database) (packet : Octets) (outcome : Outcome) → IsSoundTable old → Receives old packet outcome new → Follows old new
  pub sent : (old new : Database) (policy : List Entry) (packet : Octets) (outcome : Outcome) → IsSoundTable old → Sends old policy packet outcome new → Follows old new

same_some : {T : Type 0} (x y : T) → Some x ≡ Some y → x ≡ y
same_some x y e = cc

clash : (b : Bool) → b ≡ true → b ≡ false → ⊥
clash true one other = cc
clash false one other = cc

-- ---- phases

concluded_by : (p : Phase) → is_closed p ≡ true → is_concluded p ≡ true
concluded_by (phase.InitSent sent) is = is
concluded_by (phase.AuthSent sent) is = is
concluded_by (phase.HalfOpen opened) is = is
concluded_by (phase.Established keys) is = refl
concluded_by (phase.Closed keys at) is = refl

closed_by : (p : Phase) → is_concluded p ≡ true → ((keys : KeyRecord) → p ≡ phase.Established keys → ⊥) → is_closed p ≡ true
closed_by (phase.InitSent sent) is never = is
closed_by (phase.AuthSent sent) is never = is
closed_by (phase.HalfOpen opened) is never = is
closed_by (phase.Established keys) is never = absurd (never keys refl)
closed_by (phase.Closed keys at) is never = refl

-- whose peer proves itself is not closed
unproved : (meaning : Meaning) (entries : List Entry) (given : InputView) (old : Machine) (was : Association) → ProvedBy meaning entries given old was → is_closed was.phase ≡ true → ⊥
unproved meaning entries (ike.Message from octets fresh) old was is closed = elim is.proved [
  | inl asks ↦ clash (is_closed was.phase) closed (ap (λ (p : Phase). is_closed p) asks.was)
  | inr answers ↦ clash (is_closed was.phase) closed (ap (λ (p : Phase). is_closed p) answers.was)
]
unproved meaning entries (ike.Start serial place fresh) old was is closed = is
unproved meaning entries (ike.Order what fresh) old was is closed = is
unproved meaning entries (ike.Secret secret) old was is closed = is
unproved meaning entries (ike.Tick moment) old was is closed = is

-- ---- a step of the machine of IKE

abbrev AreClosed : ℕ → Held → Type 0
AreClosed serial held = (a : Association) → association_of serial held.associations ≡ Some a → is_closed a.phase ≡ true

module _ (facts : SerialFacts) (meaning : Meaning) (entries : List Entry) (given : InputView) (old : Machine) (table : Database) (stepped : Stepped) (new : Machine) (new_table : Database)
    (sound_table : IsSoundTable table) (sound : IsSoundMachine old table) (steps : Steps meaning entries given old table stepped new new_table) where
  never_established : (serial : ℕ) (a b : Association) → association_of serial old.held.associations ≡ Some a → is_closed a.phase ≡ true → association_of serial new.held.associations ≡ Some b
      → (keys : KeyRecord) → b.phase ≡ phase.Established keys → ⊥
  never_established serial a b stood closed there keys established =
      elim (established_way facts.steps meaning entries given old table stepped new new_table sound_table sound steps serial keys (record { association = b; there = there; established = established })) [
        | inl before ↦
            clash (is_closed a.phase) closed
            (ap (λ (x : Association). is_closed x.phase) (same_some a before.association (sym stood ∙ before.there)) ∙ ap (λ (p : Phase). is_closed p) before.established)
        | inr proves ↦ unproved meaning entries given old proves.was proves.proved (ap (λ (x : Association). is_closed x.phase) (same_some proves.was a (sym proves.stood ∙ stood)) ∙ closed)
      ]

  stays_closed : (o : Option Association) (serial : ℕ) (b : Association) → association_of serial old.held.associations ≡ o → serial < old.held.next → AreClosed serial old.held
      → association_of serial new.held.associations ≡ Some b → is_closed b.phase ≡ true
  stays_closed None serial b stood less over there =
      let next = facts.begun meaning entries given old table stepped new new_table serial b sound steps stood there in
      let same : serial ≡ old.held.next = next.0 in
      absurd (omega (arith, less, same))
  stays_closed (Some a) serial b stood less over there =
      let closed = over a stood in
      let stays = facts.concluded meaning entries given old table stepped new new_table serial a b sound steps (record { before = stood; after = there }) (concluded_by a.phase closed) in
      closed_by b.phase stays.concluded (λ keys established. never_established serial a b stood closed there keys established)

  machine_over : (serial : ℕ) → serial < old.held.next → AreClosed serial old.held → AreClosed serial new.held
  machine_over serial less over b there = stays_closed (association_of serial old.held.associations) serial b refl less over there

-- the serials of SA pairs rise, too
changed_rises : (table new_table : Database) (old new : Held) → ChangesOne old new table new_table → table.next ≤ new_table.next
changed_rises table new_table old new is = elim is.pairs [
  | inl leaves ↦ leaves.next
  | inr marks ↦ (let same : new_table.next ≡ table.next = ap (λ (d : Database). d.next) marks.marked.changed.content in omega (arith, same))
]

table_rises : (facts : SerialFacts) (meaning : Meaning) (entries : List Entry) (given : InputView) (old : Machine) (table : Database) (stepped : Stepped) (new : Machine) (new_table : Database)
    → IsSoundTable table → IsSoundMachine old table → Steps meaning entries given old table stepped new new_table → table.next ≤ new_table.next
table_rises facts meaning entries (ike.Message from octets fresh) old table stepped new new_table sound_table sound steps =
    changed_rises table new_table old.held new.held ((facts.steps.laws meaning entries (ike.Message from octets fresh) old table stepped new new_table sound_table sound steps).one refl)
table_rises facts meaning entries (ike.Start serial place fresh) old table stepped new new_table sound_table sound steps =
    changed_rises table new_table old.held new.held ((facts.steps.laws meaning entries (ike.Start serial place fresh) old table stepped new new_table sound_table sound steps).one refl)
table_rises facts meaning entries (ike.Order what fresh) old table stepped new new_table sound_table sound steps =
    changed_rises table new_table old.held new.held ((facts.steps.laws meaning entries (ike.Order what fresh) old table stepped new new_table sound_table sound steps).one refl)
table_rises facts meaning entries (ike.Secret secret) old table stepped new new_table sound_table sound steps =
    changed_rises table new_table old.held new.held ((facts.steps.laws meaning entries (ike.Secret secret) old table stepped new new_table sound_table sound steps).one refl)
table_rises facts meaning entries (ike.Tick moment) old table stepped new new_table sound_table sound steps =
    let fewer = facts.fewer _ old.held.associations table steps.takes.ticked new.held.associations new_table steps.takes.ticks in
    let same : new_table.next ≡ table.next = fewer.next in
    omega (arith, same)

-- ---- a step of the gateway

-- an IKE SA with this serial was made, and is over
record IsGone {C : Type 0} (serial : ℕ) (s : State C) : Type 0 where
  pub given : serial < s.machine.held.next
  pub over : IsOver s serial

-- a Child SA with this serial was made, and is of this IKE SA as long as it has a pair
record IsItsOwn {C : Type 0} (serial child : ℕ) (s : State C) : Type 0 where
  pub given : child < s.table.next
  pub its : (pair : Pair) → pair_at s.table.pairs child ≡ Some pair → pair.ike ≡ serial

next_same : (old new : Machine) → new ≡ old → old.held.next ≤ new.held.next
next_same old new same = let e : new.held.next ≡ old.held.next = ap (λ (m : Machine). m.held.next) same in omega (arith, e)

table_same : (old new : Database) → new.next ≡ old.next → old.next ≤ new.next
table_same old new same = omega (arith, same)

over_same : {C : Type 0} (old new : State C) (serial : ℕ) → new.machine ≡ old.machine → IsOver old serial → IsOver new serial
over_same {C} old new serial same over = record { closed = λ a there. over.closed a (sym (ap (λ (m : Machine). association_of serial m.held.associations) same) ∙ there) }

module _ {C : Type 0} (facts : SerialFacts) (meaning : Meaning) (old new : State C) (sound : IsSoundMachine old.machine old.table) (sound_table : IsSoundTable old.table) where
  ike_rises : (view : InputView) (s : OutputView) (trace : Trace) → StepsIke meaning old.entries view old.machine old.table s trace new.machine new.table → old.machine.held.next ≤ new.machine.held.next
  ike_rises view s trace (inl is) = facts.rises meaning old.entries view old.machine old.table is.stepped new.machine new.table is.steps
  ike_rises view s trace (inr is) = next_same old.machine new.machine is.machine

  ike_over : (view : InputView) (s : OutputView) (trace : Trace) → StepsIke meaning old.entries view old.machine old.table s trace new.machine new.table
      → (serial : ℕ) → serial < old.machine.held.next → IsOver old serial → IsOver new serial
  ike_over view s trace (inl is) serial less over =
      record { closed = λ a there. machine_over facts meaning old.entries view old.machine old.table is.stepped new.machine new.table sound_table sound is.steps serial less over.closed a there }
  ike_over view s trace (inr is) serial less over = over_same old new serial is.machine over

  ike_table : (view : InputView) (s : OutputView) (trace : Trace) → StepsIke meaning old.entries view old.machine old.table s trace new.machine new.table → old.table.next ≤ new.table.next
  ike_table view s trace (inl is) = table_rises facts meaning old.entries view old.machine old.table is.stepped new.machine new.table sound_table sound is.steps
  ike_table view s trace (inr is) = table_same old.table new.table (ap (λ (d : Database). d.next) is.pairs.content)

  sends_table : (packet : Octets) (s : OutputView) → SendsPacket old.entries old.table packet s new.table → old.table.next ≤ new.table.next
  sends_table packet s (inl is) = (facts.sent old.table new.table old.entries packet is.outcome sound_table is.sends).next
  sends_table packet s (inr is) = table_same old.table new.table (ap (λ (d : Database). d.next) is.unchanged)

  does_table : (given : Input) (s : OutputView) (trace : Trace) → DoesInput meaning old.entries given old.machine old.table s trace new.machine new.table → old.table.next ≤ new.table.next
  does_table (input.Ike from octets fresh) s trace is = ike_table (ike.Message from octets fresh) s trace is
  does_table (input.Start serial entry fresh) s trace is = ike_table (ike.Start serial entry fresh) s trace is
  does_table (input.Probe serial fresh) s trace is = ike_table (ike.Order (orders.Probe serial) fresh) s trace is
  does_table (input.DeleteChild serial fresh) s trace is = ike_table (ike.Order (orders.DeleteChild serial) fresh) s trace is
  does_table (input.DeleteIke serial fresh) s trace is = ike_table (ike.Order (orders.DeleteIke serial) fresh) s trace is
  does_table (input.Secret secret) s trace is = ike_table (ike.Secret secret) s trace is
  does_table (input.Tick moment) s trace is = ike_table (ike.Tick moment) s trace is
  does_table (input.Esp octets) s trace is = (facts.received old.table new.table octets is.1.outcome sound_table is.1.receives).next
  does_table (input.Outward packet) s trace is = sends_table packet s is.1
  does_table (input.Inward packet) s trace is = table_same old.table new.table (ap (λ (d : Database). d.next) is.2)

module _ {C : Type 0} (facts : SerialFacts) (meaning_of : C → Meaning) (p : Passage C) (is : IsPassage meaning_of p) where
  passage_rises : p.before.machine.held.next ≤ p.after.machine.held.next
  passage_rises = elim (passage_goes meaning_of p is) [
    | inl at ↦ ike_rises facts (meaning_of p.before.caller) p.before p.after is.sound.machine is.sound.table at.view p.said is.steps.trace at.steps
    | inr at ↦ next_same p.before.machine p.after.machine at.machine
  ]

  passage_over : (serial : ℕ) → serial < p.before.machine.held.next → IsOver p.before serial → IsOver p.after serial
  passage_over serial less over = elim (passage_goes meaning_of p is) [
    | inl at ↦ ike_over facts (meaning_of p.before.caller) p.before p.after is.sound.machine is.sound.table at.view p.said is.steps.trace at.steps serial less over
    | inr at ↦ over_same p.before p.after serial at.machine over
  ]

  passage_table : p.before.table.next ≤ p.after.table.next
  passage_table = does_table facts (meaning_of p.before.caller) p.before p.after is.sound.machine is.sound.table p.given p.said is.steps.trace is.steps.traces.does

  was_given : (serial : ℕ) → serial < p.before.machine.held.next → serial < p.after.machine.held.next
  was_given serial less = let rises = passage_rises in omega (arith, less, rises)

  stays_gone : (serial : ℕ) → IsGone serial p.before → IsGone serial p.after
  stays_gone serial gone = record { given = was_given serial gone.given; over = passage_over serial gone.given gone.over }

  stays_own : (serial child : ℕ) → IsItsOwn serial child p.before → IsItsOwn serial child p.after
  stays_own serial child own = record {
    given = (let less = own.given in let rises = passage_table in omega (arith, less, rises));
    its = λ pair there. elim (way_of facts.steps meaning_of p is child pair there) [
      | inl stayed ↦ stayed.same.ike ∙ own.its stayed.was stayed.there
      | inr came ↦ absurd (
          let less = own.given in
          let named : came.made.serial ≡ child = came.serial in
          let next : came.made.serial ≡ p.before.table.next = came.makes.makes.brings.in_order in
          omega (arith, less, named, next))
    ];
  }

-- ---- over a list

within : {C : Type 0} (ps : List (Passage C)) (k : ℕ) (p : Passage C) → slice_get ps k ≡ Some p → k < length ps
within {C} [] k p there = absurd cc
within {C} (q ∷ ps) zero p there = omega arith
within {C} (q ∷ ps) (suc k) p there = let rest = within ps k p there in omega (arith, rest)

at_zero : {C : Type 0} (old : State C) (ps : List (Passage C)) → state_at old ps 0 ≡ old
at_zero {C} old [] = refl
at_zero {C} old (p ∷ ps) = refl

at_end : {C : Type 0} (meaning_of : C → Meaning) (old new : State C) (ps : List (Passage C)) → IsTrail meaning_of old ps new → state_at old ps (length ps) ≡ new
at_end {C} meaning_of old new [] trail = sym trail
at_end {C} meaning_of old new (p ∷ ps) trail = at_end meaning_of p.after new ps trail.2

-- no pair is of an IKE SA that is over
none_left : {C : Type 0} (s : State C) (serial : ℕ) → EachPairIsOfAnEstablished s → IsOver s serial → HasNothingLeft s serial
none_left {C} s serial all over = record {
  over = over;
  none = λ child pair there same.
      let is = (all.each child pair there).established in
      clash (is_closed is.association.phase) (over.closed is.association (sym (ap (λ n. association_in s n) same) ∙ is.there)) (ap (λ (p : Phase). is_closed p) is.established);
}

held_none : (o : Option Pair) → ((pair : Pair) → o ≡ Some pair → ⊥) → o ≡ None
held_none None never = refl
held_none (Some pair) never = absurd (never pair refl)

missing : (pair : Pair) → None ≡ Some pair → ⊥
missing pair e = cc

module _ {C : Type 0} (facts : SerialFacts) (meaning_of : C → Meaning) (old new : State C) (ps : List (Passage C)) (trail : IsTrail meaning_of old ps new) where
  abbrev at : ℕ → State C
  at k = state_at old ps k

  -- what each step keeps is so from one place to another
  kept_on : (P : State C → Type 0) → ((p : Passage C) → IsPassage meaning_of p → P p.before → P p.after) → (first k : ℕ) → first ≤ k → k ≤ length ps → P (at first) → P (at k)
  kept_on P step first zero less most now = let none : first ≡ 0 = omega (arith, less) in subst (λ n. P (at n)) none now
  kept_on P step first (suc k) less most now = elim (eqb_tells first (suc k)) [
    | inl (yes_it_is, same) ↦ subst (λ n. P (at n)) same now
    | inr (no_it_is_not, apart) ↦
        let e = exists ps k (omega (arith, most)) in
        let here = at_place meaning_of old new ps k e.passage trail e.there in
        let before = kept_on P step first k (omega (arith, less, apart)) (omega (arith, most)) now in
        subst P here.after (step e.passage here.passage (subst P (sym here.before) before))
  ]

  all_established : EachPairIsOfAnEstablished old → (k : ℕ) → k ≤ length ps → EachPairIsOfAnEstablished (at k)
  all_established all k most =
      kept_on (λ (s : State C). EachPairIsOfAnEstablished s) (λ p is. stepped facts.steps meaning_of p is) 0 k (omega arith) most (subst (λ (s : State C). EachPairIsOfAnEstablished s) (sym (at_zero old ps)) all)

  -- the serial of one that was held was given
  given_after : (place serial : ℕ) → IsOverBy ps place serial → serial < (at (suc place)).machine.held.next
  given_after place serial is =
      let first = at_place meaning_of old new ps is.earlier is.first trail is.first_there in
      let less = facts.given is.first.before.machine is.first.before.table serial is.association first.passage.sound.machine is.held in
      let now : serial < (at is.earlier).machine.held.next = subst (λ (s : State C). serial < s.machine.held.next) first.before less in
      let order = is.before in
      let inside = within ps place is.passage is.there in
      kept_on (λ (s : State C). serial < s.machine.held.next) (λ p passage. was_given facts meaning_of p passage serial) is.earlier (suc place) (omega (arith, order)) (omega (arith, inside)) now

  gone_at : (place serial k : ℕ) → IsOverBy ps place serial → place < k → k ≤ length ps → IsGone serial (at k)
  gone_at place serial k is later most =
      let here = at_place meaning_of old new ps place is.passage trail is.there in
      kept_on (λ (s : State C). IsGone serial s) (λ p passage. stays_gone facts meaning_of p passage serial) (suc place) k (omega (arith, later)) most
      (record { given = given_after place serial is; over = subst (λ (s : State C). IsOver s serial) here.after is.over })

  left_at : EachPairIsOfAnEstablished old → (place serial k : ℕ) → IsOverBy ps place serial → place < k → k ≤ length ps → HasNothingLeft (at k) serial
  left_at all place serial k is later most = none_left (at k) serial (all_established all k most) (gone_at place serial k is later most).over

  -- a Child SA that was of an IKE SA is of it as long as it has a pair
  own_at : (place serial child k : ℕ) → WasOf ps place serial child → place < k → k ≤ length ps → IsItsOwn serial child (at k)
  own_at place serial child k was later most =
      let first = at_place meaning_of old new ps was.earlier was.passage trail was.there in
      let given = first.passage.sound.table.serial_given child was.pair was.stood in
      let order = was.before in
      let begins : IsItsOwn serial child was.passage.before = record {
        given = given.1;
        its = λ pair there. ap (λ (q : Pair). q.ike) (same_some pair was.pair (sym there ∙ was.stood)) ∙ was.its;
      } in
      kept_on (λ (s : State C). IsItsOwn serial child s) (λ p passage. stays_own facts meaning_of p passage serial child) was.earlier k (omega (arith, order, later)) most
      (subst (λ (s : State C). IsItsOwn serial child s) first.before begins)

  pub nothing_is_carried : EachPairIsOfAnEstablished old → (place serial : ℕ) → IsOverBy ps place serial → NothingIsCarriedAfter ps place serial new
  nothing_is_carried all place serial is =
      let known = only_the_known facts.steps meaning_of old new ps trail all in
      let held : (later : ℕ) (p : Passage C) → place < later → slice_get ps later ≡ Some p → HasNothingLeft p.before serial =
      λ later p order there.
      let here = at_place meaning_of old new ps later p trail there in
      let inside = within ps later p there in
      subst (λ (s : State C). HasNothingLeft s serial) (sym here.before) (left_at all place serial later is order (omega (arith, inside))) in
      let none : (later child : ℕ) (p : Passage C) → place < later → slice_get ps later ≡ Some p → WasOf ps place serial child → pair_at p.before.table.pairs child ≡ None =
      λ later child p order there was.
      let here = at_place meaning_of old new ps later p trail there in
      let inside = within ps later p there in
      let own = subst (λ (s : State C). IsItsOwn serial child s) (sym here.before) (own_at place serial child later was order (omega (arith, inside))) in
      held_none (pair_at p.before.table.pairs child) (λ pair stands. (held later p order there).none child pair stands (own.its pair stands)) in
      record {
        held = held;
        accepted = λ later child number p order there judges.
            let peer = known.accepted later child number p there judges in
            record { pair = peer.pair; there = peer.there; other = (held later p order there).none child peer.pair peer.there };
        said = λ later child p order there says.
            let peer = known.said later child p there says in
            record { pair = peer.pair; there = peer.there; other = (held later p order there).none child peer.pair peer.there };
        own = λ later child p order there was. record {
          none = none later child p order there was;
          accepted = λ number judges.
              let peer = known.accepted later child number p there judges in
              missing peer.pair (sym (none later child p order there was) ∙ peer.there);
          said = λ says.
              let peer = known.said later child p there says in
              missing peer.pair (sym (none later child p order there was) ∙ peer.there);
        };
        left =
            let inside = within ps place is.passage is.there in
            subst (λ (s : State C). HasNothingLeft s serial) (at_end meaning_of old new ps trail) (left_at all place serial (length ps) is inside (omega arith));
      }

-- ---- from a new gateway on

pub new_carries_nothing : {C : Type 0} (facts : SerialFacts) (meaning_of : C → Meaning) (config : Config) (entries : List Entry) (start : ℕ) (caller : C) (new : State C) (ps : List (Passage C))
    → IsTrail meaning_of (new_gateway config entries start caller) ps new → (place serial : ℕ) → IsOverBy ps place serial → NothingIsCarriedAfter ps place serial new
new_carries_nothing {C} facts meaning_of config entries start caller new ps trail place serial is =
    nothing_is_carried facts meaning_of (new_gateway config entries start caller) new ps trail (begun config entries start caller) place serial is
