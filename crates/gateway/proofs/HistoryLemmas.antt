-- A run as the list of its steps, and what becomes of an IKE SA from one of them to another.
use Rattle.std.proofs.Common.{◌≡◌, inl, inr, ℕ, zero, suc, ◌<◌, ◌≤◌, ◌∷◌, [], true, List, length, Option, Some, None, ap, refl, subst, sym, ◌∙◌, arith}
use Rattle.std.specs.List.{slice_get}
use Rattle.std.proofs.lemmas.Bool.Decides.{eqb_tells}
use Rattle.policy.specs.declared.entry.Entry.{Entry}
use Rattle.requests.specs.Following.{FollowsIncoming}
use Rattle.requests.specs.Incoming.{PeerRequests}
use Rattle.sadb.specs.Database.{Database}
use Rattle.association.specs.declared.phase.Association.{Association}
use Rattle.association.specs.declared.phase.HalfOpen.{HalfOpen}
use Rattle.association.specs.declared.phase.Phase.TheVariants as phase
use Rattle.effects.specs.Requests.{is_concluded, StaysConcluded}
use Rattle.effects.specs.Taking.{Meaning}
use Rattle.ike.specs.Machines.{association_of, Machine}
use Rattle.ike.specs.Requests.{first_requests, IsHeldThrough}
use Rattle.ike.specs.Soundness.{IsSoundMachine}
use Rattle.ike.specs.Steps as ike
use Rattle.ike.specs.Orders as orders
use Rattle.ike.specs.declared.fault.IkeFault.{IkeFault}
use Rattle.ike.specs.declared.output.Stepped.{Stepped}
use Rattle.ike.specs.declared.output.Trace.{Trace}
use Rattle.gateway.specs.Histories.{IsHistory, IsPassage, IsTrail, Passage}
use Rattle.traffic.specs.Outcomes as traffic
use Rattle.gateway.specs.Inputs.{Input}
use Rattle.gateway.specs.Inputs as input
use Rattle.gateway.specs.Outputs.{output_view, view_of_ike, view_of_outcome, Refused, Repeat, Reply, OutputView, Ticked}
use Rattle.gateway.specs.Requests.{for_ike}
use Rattle.gateway.specs.Runs.{Runs, StepsAs}
use Rattle.gateway.specs.States.{association_in, State}
use Rattle.gateway.specs.Steps.{DoesInput, SendsPacket, StepsIke}
use Rattle.gateway.specs.declared.fault.Reason.TheVariants as reason
use Rattle.gateway.specs.declared.output.Output.{Output}

-- ---- the history of a run

pub record Told {C : Type 0} (meaning_of : C → Meaning) (is : List Input) (os : List Output) (old new : State C) : Type 0 where
  pub passages : List (Passage C)
  pub history : IsHistory meaning_of is os old new passages

told_first : {C : Type 0} (meaning_of : C → Meaning) (i : Input) (is : List Input) (o : Output) (os : List Output) (old between new : State C)
    → StepsAs meaning_of i old o between → Told meaning_of is os between new → Told meaning_of (i ∷ is) (o ∷ os) old new
told_first {C} meaning_of i is o os old between new step rest = record {
  passages = record { before = old; given = i; said = output_view o; after = between } ∷ rest.passages;
  history = record {
    takes = ap (λ (xs : List Input). i ∷ xs) rest.history.takes;
    says = ap (λ (xs : List OutputView). output_view o ∷ xs) rest.history.says;
    trail = (refl, record { sound = step.sound; steps = step.steps }, rest.history.trail);
  };
}

pub told : {C : Type 0} (meaning_of : C → Meaning) (is : List Input) (os : List Output) (old new : State C) → Runs (StepsAs meaning_of) is os old new → Told meaning_of is os old new
told {C} meaning_of [] [] old new run = record { passages = []; history = record { takes = refl; says = refl; trail = run } }
told {C} meaning_of (i ∷ is) (o ∷ os) old new run = told_first meaning_of i is o os old run.0 new run.1 (told meaning_of is os run.0 new run.2)
told {C} meaning_of [] (o ∷ os) old new run = absurd run
told {C} meaning_of (i ∷ is) [] old new run = absurd run

-- ---- the gateway before each step

abbrev pub state_at : {C : Type 0} → State C → List (Passage C) → ℕ → State C
state_at {C} old [] k = old
state_at {C} old (p ∷ ps) zero = old
state_at {C} old (p ∷ ps) (suc k) = state_at p.after ps k

state_zero : {C : Type 0} (old : State C) (ps : List (Passage C)) → state_at old ps 0 ≡ old
state_zero {C} old [] = refl
state_zero {C} old (p ∷ ps) = refl

same_passage : {C : Type 0} (p q : Passage C) → Some p ≡ Some q → p ≡ q
same_passage {C} p q is = cc

pub record IsAt {C : Type 0} (meaning_of : C → Meaning) (old : State C) (ps : List (Passage C)) (k : ℕ) (p : Passage C) : Type 0 where
  pub before : p.before ≡ state_at old ps k
  pub after : p.after ≡ state_at old ps (suc k)
  pub passage : IsPassage meaning_of p

pub at_place : {C : Type 0} (meaning_of : C → Meaning) (old new : State C) (ps : List (Passage C)) (k : ℕ) (p : Passage C) → IsTrail meaning_of old ps new → slice_get ps k ≡ Some p → IsAt meaning_of old ps k p
at_place {C} meaning_of old new [] k p trail there = absurd cc
at_place {C} meaning_of old new (q ∷ ps) zero p trail there =
    let same : q ≡ p = same_passage q p there in
    subst (λ (x : Passage C). IsAt meaning_of old (q ∷ ps) 0 x) same (record { before = trail.0; after = sym (state_zero q.after ps); passage = trail.1 })
at_place {C} meaning_of old new (q ∷ ps) (suc k) p trail there =
    let rest = at_place meaning_of q.after new ps k p trail.2 there in
    record { before = rest.before; after = rest.after; passage = rest.passage }

pub record Exists {C : Type 0} (ps : List (Passage C)) (k : ℕ) : Type 0 where
  pub passage : Passage C
  pub there : slice_get ps k ≡ Some passage

pub exists : {C : Type 0} (ps : List (Passage C)) (k : ℕ) → k < length ps → Exists ps k
exists {C} [] k less = absurd (omega (arith, less))
exists {C} (p ∷ ps) zero less = record { passage = p; there = refl }
exists {C} (p ∷ ps) (suc k) less = let rest = exists ps k (omega (arith, less)) in record { passage = rest.passage; there = rest.there }

-- ---- what a step is to the machine of IKE

-- what may come of a packet
abbrev pub IsOfPacket : OutputView → Type 0
IsOfPacket (Reply octets closed) = ⊥
IsOfPacket (Repeat octets) = ⊥
IsOfPacket (Ticked requests closed) = ⊥
IsOfPacket _ = Unit {0}

outcome_said : (outcome : traffic.Outcome) → IsOfPacket (view_of_outcome outcome)
outcome_said (traffic.Up child number packet) = tt
outcome_said (traffic.Dummy child number) = tt
outcome_said (traffic.Sealed child number octets) = tt
outcome_said (traffic.Clear packet) = tt
outcome_said traffic.Discarded = tt
outcome_said (traffic.Dropped fault) = tt

sent_said : (entries : List Entry) (old : Database) (packet : List ℕ) (s : OutputView) (new : Database) → SendsPacket entries old packet s new → IsOfPacket s
sent_said entries old packet s new (inl sends) = subst IsOfPacket (sym sends.output) (outcome_said sends.outcome)
sent_said entries old packet s new (inr lacks) = subst IsOfPacket (sym lacks.output) tt

pub record IkeStep {C : Type 0} (meaning : Meaning) (given : Option ike.InputView) (old : State C) (s : OutputView) (new : State C) : Type 0 where
  pub view : ike.InputView
  pub is : given ≡ Some view
  pub stepped : Stepped
  pub steps : ike.Steps meaning old.entries view old.machine old.table stepped new.machine new.table
  pub output : s ≡ view_of_ike stepped.output

pub record IkeRefusal {C : Type 0} (meaning : Meaning) (given : Option ike.InputView) (old : State C) (s : OutputView) (new : State C) : Type 0 where
  pub view : ike.InputView
  pub is : given ≡ Some view
  pub fault : IkeFault
  pub refuses : ike.Refuses meaning old.entries view old.machine old.table fault
  pub output : s ≡ Refused (reason.Ike fault)
  pub same : new.machine ≡ old.machine

pub record NotIke {C : Type 0} (given : Option ike.InputView) (old : State C) (s : OutputView) (new : State C) : Type 0 where
  pub is : given ≡ None
  pub same : new.machine ≡ old.machine
  pub said : IsOfPacket s

pub data IkeWay {C : Type 0} (meaning : Meaning) (given : Option ike.InputView) (old : State C) (s : OutputView) (new : State C) : Type 0 where
  answered : IkeStep meaning given old s new → IkeWay meaning given old s new
  refused : IkeRefusal meaning given old s new → IkeWay meaning given old s new
  elsewhere : NotIke given old s new → IkeWay meaning given old s new

ike_way : {C : Type 0} (meaning : Meaning) (view : ike.InputView) (old : State C) (s : OutputView) (trace : Trace) (new : State C)
    → StepsIke meaning old.entries view old.machine old.table s trace new.machine new.table → IkeWay meaning (Some view) old s new
ike_way {C} meaning view old s trace new (inl is) = answered (record { view = view; is = refl; stepped = is.stepped; steps = is.steps; output = is.output })
ike_way {C} meaning view old s trace new (inr is) = refused (record { view = view; is = refl; fault = is.fault; refuses = is.refuses; output = is.output; same = is.machine })

pub does_way : {C : Type 0} (meaning : Meaning) (given : Input) (old : State C) (s : OutputView) (trace : Trace) (new : State C)
    → DoesInput meaning old.entries given old.machine old.table s trace new.machine new.table → IkeWay meaning (for_ike given) old s new
does_way {C} meaning (input.Ike from octets fresh) old s trace new is = ike_way meaning (ike.Message from octets fresh) old s trace new is
does_way {C} meaning (input.Start serial entry fresh) old s trace new is = ike_way meaning (ike.Start serial entry fresh) old s trace new is
does_way {C} meaning (input.Probe serial fresh) old s trace new is = ike_way meaning (ike.Order (orders.Probe serial) fresh) old s trace new is
does_way {C} meaning (input.DeleteChild serial fresh) old s trace new is = ike_way meaning (ike.Order (orders.DeleteChild serial) fresh) old s trace new is
does_way {C} meaning (input.DeleteIke serial fresh) old s trace new is = ike_way meaning (ike.Order (orders.DeleteIke serial) fresh) old s trace new is
does_way {C} meaning (input.Secret secret) old s trace new is = ike_way meaning (ike.Secret secret) old s trace new is
does_way {C} meaning (input.Tick moment) old s trace new is = ike_way meaning (ike.Tick moment) old s trace new is
does_way {C} meaning (input.Esp octets) old s trace new is = elsewhere (record { is = refl; same = is.0.machine; said = subst IsOfPacket (sym is.1.output) (outcome_said is.1.outcome) })
does_way {C} meaning (input.Outward packet) old s trace new is = elsewhere (record { is = refl; same = is.0.machine; said = sent_said old.entries old.table packet s new.table is.1 })
does_way {C} meaning (input.Inward packet) old s trace new is = elsewhere (record { is = refl; same = is.0.machine; said = subst IsOfPacket (sym is.1.output) (outcome_said is.1.outcome) })

pub passage_way : {C : Type 0} (meaning_of : C → Meaning) (p : Passage C) → IsPassage meaning_of p → IkeWay (meaning_of p.before.caller) (for_ike p.given) p.before p.said p.after
passage_way {C} meaning_of p is = does_way (meaning_of p.before.caller) p.given p.before p.said is.steps.trace p.after is.steps.traces.does

-- ---- what is known of a step of the machine

pub record Facts : Type 0 where
  pub follows : (meaning : Meaning) (entries : List Entry) (view : ike.InputView) (old : Machine) (table : Database) (stepped : Stepped) (new : Machine) (new_table : Database) (serial : ℕ) (a b : Association)
      → IsSoundMachine old table → ike.Steps meaning entries view old table stepped new new_table → IsHeldThrough serial old.held new.held a b → FollowsIncoming a.incoming b.incoming
  pub concluded : (meaning : Meaning) (entries : List Entry) (view : ike.InputView) (old : Machine) (table : Database) (stepped : Stepped) (new : Machine) (new_table : Database) (serial : ℕ) (a b : Association)
      → IsSoundMachine old table → ike.Steps meaning entries view old table stepped new new_table → IsHeldThrough serial old.held new.held a b → is_concluded a.phase ≡ true → StaysConcluded a b
  pub opened : (meaning : Meaning) (entries : List Entry) (view : ike.InputView) (old : Machine) (table : Database) (stepped : Stepped) (new : Machine) (new_table : Database) (serial : ℕ) (a b : Association) (opened : HalfOpen)
      → IsSoundMachine old table → ike.Steps meaning entries view old table stepped new new_table → IsHeldThrough serial old.held new.held a b → b.phase ≡ phase.HalfOpen opened → a.phase ≡ phase.HalfOpen opened
  pub begun : (meaning : Meaning) (entries : List Entry) (view : ike.InputView) (old : Machine) (table : Database) (stepped : Stepped) (new : Machine) (new_table : Database) (serial : ℕ) (b : Association)
      → IsSoundMachine old table → ike.Steps meaning entries view old table stepped new new_table → association_of serial old.held.associations ≡ None → association_of serial new.held.associations ≡ Some b
      → (serial ≡ old.held.next) × (b.incoming ≡ first_requests b.role)
  pub rises : (meaning : Meaning) (entries : List Entry) (view : ike.InputView) (old : Machine) (table : Database) (stepped : Stepped) (new : Machine) (new_table : Database)
      → ike.Steps meaning entries view old table stepped new new_table → old.held.next ≤ new.held.next
  pub given : (machine : Machine) (table : Database) (serial : ℕ) (a : Association) → IsSoundMachine machine table → association_of serial machine.held.associations ≡ Some a → serial < machine.held.next
  pub reflexive : (a : PeerRequests) → FollowsIncoming a a
  pub transitive : (a b c : PeerRequests) → FollowsIncoming a b → FollowsIncoming b c → FollowsIncoming a c

-- what becomes of an IKE SA from one step to another
pub record Through (a b : Association) : Type 0 where
  pub follows : FollowsIncoming a.incoming b.incoming
  pub concluded : is_concluded a.phase ≡ true → StaysConcluded a b
  pub opened : (opened : HalfOpen) → b.phase ≡ phase.HalfOpen opened → a.phase ≡ phase.HalfOpen opened

through_same : (facts : Facts) (a b : Association) → b ≡ a → Through a b
through_same facts a b same = record {
  follows = subst (λ (x : Association). FollowsIncoming a.incoming x.incoming) (sym same) (facts.reflexive a.incoming);
  concluded = λ is. record { concluded = ap (λ (x : Association). is_concluded x.phase) same ∙ is; size = ap (λ (x : Association). x.incoming.size) same };
  opened = λ opened is. sym (ap (λ (x : Association). x.phase) same) ∙ is;
}

through_both : (facts : Facts) (a b c : Association) → Through a b → Through b c → Through a c
through_both facts a b c one two = record {
  follows = facts.transitive a.incoming b.incoming c.incoming one.follows two.follows;
  concluded = λ is.
      let first = one.concluded is in
      let second = two.concluded first.concluded in
      record { concluded = second.concluded; size = second.size ∙ first.size };
  opened = λ opened is. one.opened opened (two.opened opened is);
}

same_held : (a b : Association) → Some a ≡ Some b → a ≡ b
same_held a b is = cc

machine_same : {C : Type 0} (old new : State C) (serial : ℕ) → new.machine ≡ old.machine → association_in new serial ≡ association_in old serial
machine_same {C} old new serial same = ap (λ (m : Machine). association_of serial m.held.associations) same

way_through : {C : Type 0} (facts : Facts) (meaning : Meaning) (given : Option ike.InputView) (old : State C) (s : OutputView) (new : State C) (serial : ℕ) (a b : Association)
    → IsSoundMachine old.machine old.table → IkeWay meaning given old s new → association_in old serial ≡ Some a → association_in new serial ≡ Some b → Through a b
way_through {C} facts meaning given old s new serial a b sound (answered is) before after =
    let held : IsHeldThrough serial old.machine.held new.machine.held a b = record { before = before; after = after } in
    record {
      follows = facts.follows meaning old.entries is.view old.machine old.table is.stepped new.machine new.table serial a b sound is.steps held;
      concluded = facts.concluded meaning old.entries is.view old.machine old.table is.stepped new.machine new.table serial a b sound is.steps held;
      opened = λ opened. facts.opened meaning old.entries is.view old.machine old.table is.stepped new.machine new.table serial a b opened sound is.steps held;
    }
way_through {C} facts meaning given old s new serial a b sound (refused is) before after = through_same facts a b (same_held b a (sym after ∙ machine_same old new serial is.same ∙ before))
way_through {C} facts meaning given old s new serial a b sound (elsewhere is) before after = through_same facts a b (same_held b a (sym after ∙ machine_same old new serial is.same ∙ before))

none_some : {T : Type 0} (x : T) → None ≡ Some x → ⊥
none_some x is = cc

pub way_begun : {C : Type 0} (facts : Facts) (meaning : Meaning) (given : Option ike.InputView) (old : State C) (s : OutputView) (new : State C) (serial : ℕ) (b : Association)
    → IsSoundMachine old.machine old.table → IkeWay meaning given old s new → association_in old serial ≡ None → association_in new serial ≡ Some b
    → (serial ≡ old.machine.held.next) × (b.incoming ≡ first_requests b.role)
way_begun {C} facts meaning given old s new serial b sound (answered is) before after = facts.begun meaning old.entries is.view old.machine old.table is.stepped new.machine new.table serial b sound is.steps before after
way_begun {C} facts meaning given old s new serial b sound (refused is) before after = absurd (none_some b (sym before ∙ sym (machine_same old new serial is.same) ∙ after))
way_begun {C} facts meaning given old s new serial b sound (elsewhere is) before after = absurd (none_some b (sym before ∙ sym (machine_same old new serial is.same) ∙ after))

way_rises : {C : Type 0} (facts : Facts) (meaning : Meaning) (given : Option ike.InputView) (old : State C) (s : OutputView) (new : State C) → IkeWay meaning given old s new → old.machine.held.next ≤ new.machine.held.next
way_rises {C} facts meaning given old s new (answered is) = facts.rises meaning old.entries is.view old.machine old.table is.stepped new.machine new.table is.steps
way_rises {C} facts meaning given old s new (refused is) = omega (arith, ap (λ (m : Machine). m.held.next) is.same)
way_rises {C} facts meaning given old s new (elsewhere is) = omega (arith, ap (λ (m : Machine). m.held.next) is.same)

-- ---- over several steps

itself : (n : ℕ) → n ≤ n
itself n = omega arith

module _ {C : Type 0} (facts : Facts) (meaning_of : C → Meaning) (old new : State C) (ps : List (Passage C)) (trail : IsTrail meaning_of old ps new) where
  abbrev next_at : ℕ → ℕ
  next_at k = (state_at old ps k).machine.held.next

  rises_by : (k : ℕ) → k < length ps → next_at k ≤ next_at (suc k)
  rises_by k less =
      let e = exists ps k less in
      let p = at_place meaning_of old new ps k e.passage trail e.there in
      let up = way_rises facts (meaning_of e.passage.before.caller) (for_ike e.passage.given) e.passage.before e.passage.said e.passage.after (passage_way meaning_of e.passage p.passage) in
      omega (arith, up, ap (λ (s : State C). s.machine.held.next) p.before, ap (λ (s : State C). s.machine.held.next) p.after)

  rises : (i j : ℕ) → i ≤ j → j ≤ length ps → next_at i ≤ next_at j
  rises i zero less within = let none : i ≡ 0 = omega (arith, less) in subst (λ n. next_at n ≤ next_at 0) (sym none) (itself (next_at 0))
  rises i (suc j) less within = elim (eqb_tells i (suc j)) [
    | inl (yes_it_is, same) ↦ subst (λ n. next_at i ≤ next_at n) same (itself (next_at i))
    | inr (no_it_is_not, apart) ↦
        let before = rises i j (omega (arith, less, apart)) (omega (arith, within)) in
        let here = rises_by j (omega (arith, within)) in
        omega (arith, before, here)
  ]

  -- an IKE SA that is held before and after is held between
  pub record Holds (k serial : ℕ) : Type 0 where
    pub association : Association
    pub there : association_in (state_at old ps k) serial ≡ Some association

  holds_by : (o : Option Association) (k serial : ℕ) → association_in (state_at old ps k) serial ≡ o → (association_in (state_at old ps k) serial ≡ None → ⊥) → Holds k serial
  holds_by None k serial is never = absurd (never is)
  holds_by (Some a) k serial is never = record { association = a; there = is }

  pub held_between : (i k serial : ℕ) (a b : Association) → i ≤ k → k < length ps → IsSoundMachine (state_at old ps i).machine (state_at old ps i).table → association_in (state_at old ps i) serial ≡ Some a
      → association_in (state_at old ps (suc k)) serial ≡ Some b → Holds k serial
  held_between i k serial a b less within sound stands later =
      holds_by (association_in (state_at old ps k) serial) k serial refl (λ none.
      let e = exists ps k within in
      let p = at_place meaning_of old new ps k e.passage trail e.there in
      let begun = way_begun facts (meaning_of e.passage.before.caller) (for_ike e.passage.given) e.passage.before e.passage.said e.passage.after serial b p.passage.sound.machine (passage_way meaning_of e.passage p.passage)
      (ap (λ (s : State C). association_in s serial) p.before ∙ none) (ap (λ (s : State C). association_in s serial) p.after ∙ later) in
      let given = facts.given (state_at old ps i).machine (state_at old ps i).table serial a sound stands in
      let up = rises i k less (omega (arith, within)) in
      omega (arith, given, up, begun.0, ap (λ (s : State C). s.machine.held.next) p.before))

  one_step : (k serial : ℕ) (a b : Association) → k < length ps → association_in (state_at old ps k) serial ≡ Some a → association_in (state_at old ps (suc k)) serial ≡ Some b → Through a b
  one_step k serial a b within before after =
      let e = exists ps k within in
      let p = at_place meaning_of old new ps k e.passage trail e.there in
      way_through facts (meaning_of e.passage.before.caller) (for_ike e.passage.given) e.passage.before e.passage.said e.passage.after serial a b p.passage.sound.machine (passage_way meaning_of e.passage p.passage)
      (ap (λ (s : State C). association_in s serial) p.before ∙ before) (ap (λ (s : State C). association_in s serial) p.after ∙ after)

  pub through : (i j serial : ℕ) (a b : Association) → i ≤ j → j ≤ length ps → IsSoundMachine (state_at old ps i).machine (state_at old ps i).table → association_in (state_at old ps i) serial ≡ Some a
      → association_in (state_at old ps j) serial ≡ Some b → Through a b
  through i zero serial a b less within sound stands later =
      through_same facts a b (same_held b a (sym later ∙ ap (λ n. association_in (state_at old ps n) serial) (omega (arith, less)) ∙ stands))
  through i (suc j) serial a b less within sound stands later = elim (eqb_tells i (suc j)) [
    | inl (yes_it_is, same) ↦ through_same facts a b (same_held b a (sym later ∙ ap (λ n. association_in (state_at old ps n) serial) (sym same) ∙ stands))
    | inr (no_it_is_not, apart) ↦
        let h = held_between i j serial a b (omega (arith, less, apart)) (omega (arith, within)) sound stands later in
        through_both facts a h.association b
        (through i j serial a h.association (omega (arith, less, apart)) (omega (arith, within)) sound stands h.there)
        (one_step j serial h.association b (omega (arith, within)) h.there later)
  ]
