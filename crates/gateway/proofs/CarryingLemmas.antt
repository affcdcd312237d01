-- Each packet that is accepted or sealed is of an IKE SA whose peer proved itself.
use Rattle.std.proofs.Common.{◌≡◌, ◌⊎◌, inl, inr, ℕ, zero, suc, ◌<◌, ◌≤◌, ◌∷◌, [], List, length, Some, None, ap, refl, subst, sym, ◌∙◌, arith}
use Rattle.std.specs.FinMap as map
use Rattle.std.specs.List.{slice_get}
use Rattle.std.specs.Ordering.{nat_cmp}
use Rattle.std.proofs.lemmas.Bool.Decides.{eqb_tells}
use Rattle.base.specs.Octets.{Octets}
use Rattle.suite.specs.declared.fresh.Fresh.{Fresh}
use Rattle.suite.specs.declared.key_record.KeyRecord.{KeyRecord}
use Rattle.policy.specs.declared.entry.Entry.{Entry}
use Rattle.setup.specs.declared.config.Config.{Config}
use Rattle.sadb.specs.Database.{empty_table, pair_at, Database, IsAsBefore, IsSoundTable}
use Rattle.sadb.specs.declared.pair.Pair.{Pair}
use Rattle.effects.specs.Taking.{Meaning}
use Rattle.ike.specs.Children.{MakesChildOf}
use Rattle.ike.specs.Machines.{setup_at, Machine}
use Rattle.ike.specs.Orders as orders
use Rattle.ike.specs.Soundness.{IsSoundMachine}
use Rattle.ike.specs.Steps as ike
use Rattle.ike.specs.declared.output.IkeOutput.{IkeOutput}
use Rattle.ike.specs.declared.output.IkeOutput.TheVariants as said
use Rattle.ike.specs.declared.output.MadeChild.{MadeChild}
use Rattle.ike.specs.declared.output.Stepped.{Stepped}
use Rattle.ike.specs.declared.output.Trace.{Trace}
use Rattle.traffic.specs.Admitting.{Admits}
use Rattle.traffic.specs.Outcomes.{Outcome}
use Rattle.traffic.specs.Outcomes as traffic
use Rattle.traffic.specs.Receiving.{Receives}
use Rattle.traffic.specs.Sending.{IsProtected, Sends}
use Rattle.gateway.specs.Authentication.{IsEstablishedWith}
use Rattle.gateway.specs.Histories.{IsPassage, IsTrail, Passage}
use Rattle.gateway.specs.Inputs.{Input}
use Rattle.gateway.specs.Inputs as input
use Rattle.gateway.specs.Outputs.{view_of_ike, view_of_outcome, OutputView}
use Rattle.gateway.specs.Outputs as output
use Rattle.gateway.specs.declared.fault.Reason.{Reason}
use Rattle.gateway.specs.Packets.{JudgesOne}
use Rattle.gateway.specs.Requests.{for_ike}
use Rattle.gateway.specs.States.{new_gateway, State}
use Rattle.gateway.specs.Steps.{DoesInput, SendsPacket, StepsIke}
use Rattle.gateway.proofs.HistoryLemmas.{at_place, exists, state_at}
use Rattle.gateway.specs.Carrying.{child_said, EachPairIsOfAnEstablished, IsKnownAt, IsOfAKnownPeer, IsOfAProvedPeer, KeepsItself, KeepsSettings, OnlyTheKnownCarry, OnlyTheProvedCarry, SealsWhatIsProtected, StoodFrom, WasMadeBefore, WasThere}
use Rattle.gateway.proofs.StoodLemmas.{received_stood, sent_stood, stood_same, AllStood}
use Rattle.gateway.proofs.StandingLemmas.{established_way, itself, pair_way, ProvesNow, Stands, StepFacts}

none_some : {T : Type 0} (x : T) → None ≡ Some x → ⊥
none_some x e = cc

both_same : (a b c : Pair) → KeepsItself a b → KeepsItself b c → KeepsItself a c
both_same a b c one two = record {
  ike = two.ike ∙ one.ike;
  inbound = two.inbound ∙ one.inbound;
  outbound = two.outbound ∙ one.outbound;
  local = two.local ∙ one.local;
  remote = two.remote ∙ one.remote;
}

-- ---- one step

stands_in : {C : Type 0} (s : State C) (serial : ℕ) (keys : KeyRecord) → IsEstablishedWith s serial keys → Stands serial keys s.machine.held
stands_in {C} s serial keys is = record { association = is.association; there = is.there; established = is.established }

is_in : {C : Type 0} (s : State C) (serial : ℕ) (keys : KeyRecord) → Stands serial keys s.machine.held → IsEstablishedWith s serial keys
is_in {C} s serial keys is = record { association = is.association; there = is.there; established = is.established }

-- a pair stood before the step, of an IKE SA that stays established where it was
pub record Stayed {C : Type 0} (old new : State C) (child : ℕ) (pair : Pair) : Type 0 where
  pub was : Pair
  pub there : pair_at old.table.pairs child ≡ Some was
  pub same : KeepsItself was pair
  pub on : (keys : KeyRecord) → IsEstablishedWith old pair.ike keys → IsEstablishedWith new pair.ike keys

-- or a datagram made it
pub record Came {C : Type 0} (meaning : Meaning) (given : Input) (s : OutputView) (old new : State C) (child : ℕ) (pair : Pair) : Type 0 where
  pub from : Octets
  pub octets : Octets
  pub fresh : Fresh
  pub is : given ≡ input.Ike from octets fresh
  pub stepped : Stepped
  pub output : s ≡ view_of_ike stepped.output
  pub made : MadeChild
  pub named : stepped.trace.child ≡ Some made
  pub serial : made.serial ≡ child
  pub ike : made.ike ≡ pair.ike
  pub makes : MakesChildOf meaning (setup_at old.machine old.entries fresh) octets old.machine.held old.table stepped made new.machine.held new.table
  pub same : makes.makes.pair ≡ pair
  pub established : IsEstablishedWith new pair.ike makes.makes.keys

abbrev pub Way : {C : Type 0} → Meaning → Input → OutputView → State C → State C → ℕ → Pair → Type 0
Way {C} meaning given s old new child pair = Stayed old new child pair ⊎ Came meaning given s old new child pair

record Proves {C : Type 0} (meaning : Meaning) (given : Input) (old : State C) (serial : ℕ) (keys : KeyRecord) : Type 0 where
  pub view : ike.InputView
  pub is : for_ike given ≡ Some view
  pub now : ProvesNow meaning old.entries view old.machine serial keys

same_view : (a b : ike.InputView) → Some a ≡ Some b → a ≡ b
same_view a b e = cc

-- what a datagram is to the machine, it is to the gateway
of_message : (given : Input) (view : ike.InputView) (from octets : Octets) (fresh : Fresh) → for_ike given ≡ Some view → view ≡ ike.Message from octets fresh → given ≡ input.Ike from octets fresh
of_message (input.Ike f o r) view from octets fresh is message =
    let same : ike.Message f o r ≡ ike.Message from octets fresh = same_view (ike.Message f o r) view is ∙ message in
    cc
of_message (input.Start serial entry r) view from octets fresh is message = absurd (let same = same_view (ike.Start serial entry r) view is ∙ message in cc)
of_message (input.Probe serial r) view from octets fresh is message = absurd (let same = same_view (ike.Order (orders.Probe serial) r) view is ∙ message in cc)
of_message (input.DeleteChild serial r) view from octets fresh is message = absurd (let same = same_view (ike.Order (orders.DeleteChild serial) r) view is ∙ message in cc)
of_message (input.DeleteIke serial r) view from octets fresh is message = absurd (let same = same_view (ike.Order (orders.DeleteIke serial) r) view is ∙ message in cc)
of_message (input.Secret secret) view from octets fresh is message = absurd (let same = same_view (ike.Secret secret) view is ∙ message in cc)
of_message (input.Tick moment) view from octets fresh is message = absurd (let same = same_view (ike.Tick moment) view is ∙ message in cc)
of_message (input.Esp o) view from octets fresh is message = absurd (none_some view is)
of_message (input.Outward o) view from octets fresh is message = absurd (none_some view is)
of_message (input.Inward o) view from octets fresh is message = absurd (none_some view is)

module _ {C : Type 0} (old new : State C) where
  machine_on : new.machine ≡ old.machine → (serial : ℕ) (keys : KeyRecord) → IsEstablishedWith old serial keys → IsEstablishedWith new serial keys
  machine_on same serial keys is = is_in new serial keys (subst (λ (m : Machine). Stands serial keys m.held) (sym same) (stands_in old serial keys is))

  machine_back : new.machine ≡ old.machine → (serial : ℕ) (keys : KeyRecord) → IsEstablishedWith new serial keys → IsEstablishedWith old serial keys
  machine_back same serial keys is = is_in old serial keys (subst (λ (m : Machine). Stands serial keys m.held) same (stands_in new serial keys is))

  room_stood : IsAsBefore old.table new.table → AllStood old.table new.table
  room_stood is child pair there = record { was = pair; there = sym (ap (λ (d : Database). pair_at d.pairs child) is.content) ∙ there; same = itself pair }

-- the machine stays, and each pair stood before
kept : {C : Type 0} (meaning : Meaning) (given : Input) (s : OutputView) (old new : State C) → new.machine ≡ old.machine → AllStood old.table new.table
    → (child : ℕ) (pair : Pair) → pair_at new.table.pairs child ≡ Some pair → Way meaning given s old new child pair
kept {C} meaning given s old new same stood child pair there =
    let was = stood child pair there in
    inl (record { was = was.was; there = was.there; same = was.same; on = machine_on old new same pair.ike })

module _ {C : Type 0} (facts : StepFacts) (meaning : Meaning) (given : Input) (old new : State C) where
  ike_pair : (view : ike.InputView) (s : OutputView) (trace : Trace) → for_ike given ≡ Some view → IsSoundMachine old.machine old.table → IsSoundTable old.table
      → StepsIke meaning old.entries view old.machine old.table s trace new.machine new.table → (child : ℕ) (pair : Pair) → pair_at new.table.pairs child ≡ Some pair → Way meaning given s old new child pair
  ike_pair view s trace seen sound sound_table (inl is) child pair there =
      elim (pair_way facts meaning old.entries view old.machine old.table is.stepped new.machine new.table sound_table sound is.steps child pair there) [
        | inl stood ↦ inl (record {
          was = stood.was;
          there = stood.there;
          same = stood.same;
          on = λ keys was. is_in new pair.ike keys (stood.on keys (stands_in old pair.ike keys was));
        })
        | inr came ↦ inr (record {
          from = came.from;
          octets = came.octets;
          fresh = came.fresh;
          is = of_message given view came.from came.octets came.fresh seen came.is;
          stepped = is.stepped;
          output = is.output;
          made = came.made;
          named = came.named;
          serial = came.serial;
          ike = came.ike;
          makes = came.makes;
          same = came.same;
          established = is_in new pair.ike came.makes.makes.keys came.stands;
        })
      ]
  ike_pair view s trace seen sound sound_table (inr is) child pair there = kept meaning given s old new is.machine (room_stood old new is.pairs) child pair there

  ike_known : (view : ike.InputView) (s : OutputView) (trace : Trace) → for_ike given ≡ Some view → IsSoundMachine old.machine old.table → IsSoundTable old.table
      → StepsIke meaning old.entries view old.machine old.table s trace new.machine new.table → (serial : ℕ) (keys : KeyRecord) → IsEstablishedWith new serial keys
      → IsEstablishedWith old serial keys ⊎ Proves meaning given old serial keys
  ike_known view s trace seen sound sound_table (inl is) serial keys now =
      elim (established_way facts meaning old.entries view old.machine old.table is.stepped new.machine new.table sound_table sound is.steps serial keys (stands_in new serial keys now)) [
        | inl before ↦ inl (is_in old serial keys before)
        | inr proves ↦ inr (record { view = view; is = seen; now = proves })
      ]
  ike_known view s trace seen sound sound_table (inr is) serial keys now = inl (machine_back old new is.machine serial keys now)

-- an input goes to the machine of IKE, or leaves it and each pair
pub record AtIke {C : Type 0} (meaning : Meaning) (given : Input) (old new : State C) (s : OutputView) (trace : Trace) : Type 0 where
  pub view : ike.InputView
  pub seen : for_ike given ≡ Some view
  pub steps : StepsIke meaning old.entries view old.machine old.table s trace new.machine new.table

pub record AtPackets {C : Type 0} (old new : State C) : Type 0 where
  pub machine : new.machine ≡ old.machine
  pub stood : AllStood old.table new.table

module _ {C : Type 0} (meaning : Meaning) (old new : State C) (s : OutputView) (trace : Trace) where
  sent : (packet : Octets) → SendsPacket old.entries old.table packet s new.table → AllStood old.table new.table
  sent packet (inl is) = sent_stood old.table old.entries packet is.outcome new.table is.sends
  sent packet (inr is) = stood_same old.table new.table is.unchanged

  goes : (given : Input) → DoesInput meaning old.entries given old.machine old.table s trace new.machine new.table → AtIke meaning given old new s trace ⊎ AtPackets old new
  goes (input.Ike from octets fresh) is = inl (record { view = ike.Message from octets fresh; seen = refl; steps = is })
  goes (input.Start serial entry fresh) is = inl (record { view = ike.Start serial entry fresh; seen = refl; steps = is })
  goes (input.Probe serial fresh) is = inl (record { view = ike.Order (orders.Probe serial) fresh; seen = refl; steps = is })
  goes (input.DeleteChild serial fresh) is = inl (record { view = ike.Order (orders.DeleteChild serial) fresh; seen = refl; steps = is })
  goes (input.DeleteIke serial fresh) is = inl (record { view = ike.Order (orders.DeleteIke serial) fresh; seen = refl; steps = is })
  goes (input.Secret secret) is = inl (record { view = ike.Secret secret; seen = refl; steps = is })
  goes (input.Tick moment) is = inl (record { view = ike.Tick moment; seen = refl; steps = is })
  goes (input.Esp octets) is = inr (record { machine = is.0.machine; stood = received_stood old.table octets is.1.outcome new.table is.1.receives })
  goes (input.Outward packet) is = inr (record { machine = is.0.machine; stood = sent packet is.1 })
  goes (input.Inward packet) is = inr (record { machine = is.0.machine; stood = stood_same old.table new.table is.2 })

pub passage_goes : {C : Type 0} (meaning_of : C → Meaning) (p : Passage C) (is : IsPassage meaning_of p) → AtIke (meaning_of p.before.caller) p.given p.before p.after p.said is.steps.trace ⊎ AtPackets p.before p.after
passage_goes {C} meaning_of p is = goes (meaning_of p.before.caller) p.before p.after p.said is.steps.trace p.given is.steps.traces.does

pub way_of : {C : Type 0} (facts : StepFacts) (meaning_of : C → Meaning) (p : Passage C) → IsPassage meaning_of p → (child : ℕ) (pair : Pair) → pair_at p.after.table.pairs child ≡ Some pair
    → Way (meaning_of p.before.caller) p.given p.said p.before p.after child pair
way_of {C} facts meaning_of p is child pair there = elim (passage_goes meaning_of p is) [
  | inl at ↦ ike_pair facts (meaning_of p.before.caller) p.given p.before p.after at.view p.said is.steps.trace at.seen is.sound.machine is.sound.table at.steps child pair there
  | inr at ↦ kept (meaning_of p.before.caller) p.given p.said p.before p.after at.machine at.stood child pair there
]

known_of : {C : Type 0} (facts : StepFacts) (meaning_of : C → Meaning) (p : Passage C) → IsPassage meaning_of p → (serial : ℕ) (keys : KeyRecord) → IsEstablishedWith p.after serial keys
    → IsEstablishedWith p.before serial keys ⊎ Proves (meaning_of p.before.caller) p.given p.before serial keys
known_of {C} facts meaning_of p is serial keys now = elim (passage_goes meaning_of p is) [
  | inl at ↦ ike_known facts (meaning_of p.before.caller) p.given p.before p.after at.view p.said is.steps.trace at.seen is.sound.machine is.sound.table at.steps serial keys now
  | inr at ↦ inl (machine_back p.before p.after at.machine serial keys now)
]

-- ---- each pair is of an IKE SA that is established

-- the new gateway's table is empty
pub empty_none : (start child : ℕ) → pair_at (empty_table start).pairs child ≡ None
empty_none start child = map.get-empty nat_cmp child

pub begun : {C : Type 0} (config : Config) (entries : List Entry) (start : ℕ) (caller : C) → EachPairIsOfAnEstablished (new_gateway config entries start caller)
begun {C} config entries start caller = record { each = λ child pair there. absurd (none_some pair (sym (empty_none start child) ∙ there)) }

pub stepped : {C : Type 0} (facts : StepFacts) (meaning_of : C → Meaning) (p : Passage C) → IsPassage meaning_of p → EachPairIsOfAnEstablished p.before → EachPairIsOfAnEstablished p.after
stepped {C} facts meaning_of p is all = record {
  each = λ child pair there. elim (way_of facts meaning_of p is child pair there) [
    | inl stayed ↦
        let was = all.each child stayed.was stayed.there in
        record { keys = was.keys; established = stayed.on was.keys (subst (λ n. IsEstablishedWith p.before n was.keys) (sym stayed.same.ike) was.established) }
    | inr came ↦ record { keys = came.makes.makes.keys; established = came.established }
  ];
}

-- ---- over a list

within : {C : Type 0} (ps : List (Passage C)) (k : ℕ) (p : Passage C) → slice_get ps k ≡ Some p → k < length ps
within {C} [] k p there = absurd cc
within {C} (q ∷ ps) zero p there = omega arith
within {C} (q ∷ ps) (suc k) p there = let rest = within ps k p there in omega (arith, rest)

at_zero : {C : Type 0} (old : State C) (ps : List (Passage C)) → state_at old ps 0 ≡ old
at_zero {C} old [] = refl
at_zero {C} old (p ∷ ps) = refl

pub ended : {C : Type 0} (facts : StepFacts) (meaning_of : C → Meaning) (old new : State C) (ps : List (Passage C)) → IsTrail meaning_of old ps new → EachPairIsOfAnEstablished old → EachPairIsOfAnEstablished new
ended {C} facts meaning_of old new [] trail all = subst (λ (s : State C). EachPairIsOfAnEstablished s) (sym trail) all
ended {C} facts meaning_of old new (p ∷ ps) trail all =
    ended facts meaning_of p.after new ps trail.2 (stepped facts meaning_of p trail.1 (subst (λ (s : State C). EachPairIsOfAnEstablished s) (sym trail.0) all))

module _ {C : Type 0} (facts : StepFacts) (meaning_of : C → Meaning) (old new : State C) (ps : List (Passage C)) (trail : IsTrail meaning_of old ps new) where
  abbrev at : ℕ → State C
  at k = state_at old ps k

  -- who stood before all steps up to one stands before the next, if it is established there
  stood_longer : (from k serial : ℕ) (keys : KeyRecord) → IsEstablishedWith (at (suc k)) serial keys → StoodFrom ps from k serial keys → StoodFrom ps from (suc k) serial keys
  stood_longer from k serial keys now is = record {
    each = λ between q least most there. elim (eqb_tells between (suc k)) [
      | inl (yes_it_is, same) ↦
          let here = at_place meaning_of old new ps between q trail there in
          subst (λ (s : State C). IsEstablishedWith s serial keys) (sym (here.before ∙ ap (λ n. at n) same)) now
      | inr (no_it_is_not, apart) ↦ is.each between q least (omega (arith, most, apart)) there
    ];
  }

  stood_once : (k serial : ℕ) (keys : KeyRecord) → IsEstablishedWith (at k) serial keys → StoodFrom ps k k serial keys
  stood_once k serial keys now = record {
    each = λ between q least most there.
        let here = at_place meaning_of old new ps between q trail there in
        let same : between ≡ k = omega (arith, least, most) in
        subst (λ (s : State C). IsEstablishedWith s serial keys) (sym (here.before ∙ ap (λ n. at n) same)) now;
  }

  longer : (k serial : ℕ) (keys : KeyRecord) → IsEstablishedWith (at (suc k)) serial keys → IsKnownAt meaning_of ps k serial keys → IsKnownAt meaning_of ps (suc k) serial keys
  longer k serial keys now (inl stood) = inl (stood_longer 0 k serial keys now stood)
  longer k serial keys now (inr proved) =
      inr (record { by = proved.by; before = (let less = proved.before in omega (arith, less)); proves = proved.proves; since = stood_longer (suc proved.by) k serial keys now proved.since })

  -- who is established before a step is known
  known_at : (k serial : ℕ) (keys : KeyRecord) → k ≤ length ps → IsEstablishedWith (at k) serial keys → IsKnownAt meaning_of ps k serial keys
  known_at zero serial keys less now = inl (stood_once 0 serial keys now)
  known_at (suc k) serial keys less now =
      let e = exists ps k (omega (arith, less)) in
      let here = at_place meaning_of old new ps k e.passage trail e.there in
      elim (known_of facts meaning_of e.passage here.passage serial keys (subst (λ (s : State C). IsEstablishedWith s serial keys) (sym here.after) now)) [
        | inl before ↦ longer k serial keys now (known_at k serial keys (omega (arith, less)) (subst (λ (s : State C). IsEstablishedWith s serial keys) here.before before))
        | inr proves ↦ inr (record {
          by = k;
          before = omega arith;
          proves = record {
            passage = e.passage;
            there = e.there;
            view = proves.view;
            given = proves.is;
            was = proves.now.was;
            stood = proves.now.stood;
            under = proves.now.under;
            proved = proves.now.proved;
          };
          since = stood_once (suc k) serial keys now;
        })
      ]

  abbrev IsMadeFor : ℕ → ℕ → KeyRecord → Pair → Type 0
  IsMadeFor k child keys pair = WasThere ps k child keys pair ⊎ WasMadeBefore meaning_of ps k child keys pair

  since_as : (from k : ℕ) (keys : KeyRecord) (was pair : Pair) → KeepsItself was pair → IsEstablishedWith (at (suc k)) pair.ike keys → StoodFrom ps from k was.ike keys → StoodFrom ps from (suc k) pair.ike keys
  since_as from k keys was pair same now stood = stood_longer from k pair.ike keys now (subst (λ n. StoodFrom ps from k n keys) (sym same.ike) stood)

  made_longer : (k child : ℕ) (keys : KeyRecord) (was pair : Pair) → KeepsItself was pair → IsEstablishedWith (at (suc k)) pair.ike keys → IsMadeFor k child keys was → IsMadeFor (suc k) child keys pair
  made_longer k child keys was pair same now (inl stood) =
      inl (record {
        first = stood.first;
        there = stood.there;
        was = stood.was;
        stood = stood.stood;
        same = both_same stood.was was pair stood.same same;
        since = since_as 0 k keys was pair same now stood.since;
      })
  made_longer k child keys was pair same now (inr made) =
      let m = made.makes in
      inr (record {
        by = made.by;
        before = (let less = made.before in omega (arith, less));
        makes = record {
          passage = m.passage;
          there = m.there;
          from = m.from;
          octets = m.octets;
          fresh = m.fresh;
          given = m.given;
          stepped = m.stepped;
          output = m.output;
          made = m.made;
          named = m.named;
          serial = m.serial;
          ike = m.ike ∙ sym same.ike;
          makes = m.makes;
          under = m.under;
          same = both_same m.makes.makes.pair was pair m.same same;
        };
        since = since_as (suc made.by) k keys was pair same now made.since;
      })

  -- a pair before a step, with what its IKE SA is established under and what made it
  record IsRight (k child : ℕ) (pair : Pair) : Type 0 where
    pub keys : KeyRecord
    pub established : IsEstablishedWith (at k) pair.ike keys
    pub made : IsMadeFor k child keys pair

  right_at : EachPairIsOfAnEstablished old → (k child : ℕ) (pair : Pair) → k < length ps → pair_at (at k).table.pairs child ≡ Some pair → IsRight k child pair
  right_at all zero child pair less there =
      let e = exists ps 0 less in
      let here = at_place meaning_of old new ps 0 e.passage trail e.there in
      let first : pair_at old.table.pairs child ≡ Some pair = sym (ap (λ (s : State C). pair_at s.table.pairs child) (at_zero old ps)) ∙ there in
      let now = all.each child pair first in
      record {
        keys = now.keys;
        established = subst (λ (s : State C). IsEstablishedWith s pair.ike now.keys) (sym (at_zero old ps)) now.established;
        made = inl (record {
          first = e.passage;
          there = e.there;
          was = pair;
          stood = ap (λ (s : State C). pair_at s.table.pairs child) here.before ∙ there;
          same = itself pair;
          since = stood_once 0 pair.ike now.keys (subst (λ (s : State C). IsEstablishedWith s pair.ike now.keys) (sym (at_zero old ps)) now.established);
        });
      }
  right_at all (suc k) child pair less there =
      let e = exists ps k (omega (arith, less)) in
      let here = at_place meaning_of old new ps k e.passage trail e.there in
      elim (way_of facts meaning_of e.passage here.passage child pair (ap (λ (s : State C). pair_at s.table.pairs child) here.after ∙ there)) [
        | inl stayed ↦
            let was = right_at all k child stayed.was (omega (arith, less)) (sym (ap (λ (s : State C). pair_at s.table.pairs child) here.before) ∙ stayed.there) in
            let before : IsEstablishedWith e.passage.before pair.ike was.keys =
            subst (λ (s : State C). IsEstablishedWith s pair.ike was.keys) (sym here.before) (subst (λ n. IsEstablishedWith (at k) n was.keys) (sym stayed.same.ike) was.established) in
            let after : IsEstablishedWith (at (suc k)) pair.ike was.keys = subst (λ (s : State C). IsEstablishedWith s pair.ike was.keys) here.after (stayed.on was.keys before) in
            record { keys = was.keys; established = after; made = made_longer k child was.keys stayed.was pair stayed.same after was.made }
        | inr came ↦ record {
          keys = came.makes.makes.keys;
          established = subst (λ (s : State C). IsEstablishedWith s pair.ike came.makes.makes.keys) here.after came.established;
          made = inr (record {
            by = k;
            before = omega arith;
            makes = record {
              passage = e.passage;
              there = e.there;
              from = came.from;
              octets = came.octets;
              fresh = came.fresh;
              given = came.is;
              stepped = came.stepped;
              output = came.output;
              made = came.made;
              named = came.named;
              serial = came.serial;
              ike = came.ike;
              makes = came.makes;
              under = refl;
              same = subst (λ (q : Pair). KeepsItself came.makes.makes.pair q) came.same (itself came.makes.makes.pair);
            };
            since = stood_once (suc k) pair.ike came.makes.makes.keys (subst (λ (s : State C). IsEstablishedWith s pair.ike came.makes.makes.keys) here.after came.established);
          });
        }
      ]

  peer_at : EachPairIsOfAnEstablished old → (place child : ℕ) (p : Passage C) (pair : Pair) → slice_get ps place ≡ Some p → pair_at p.before.table.pairs child ≡ Some pair → IsOfAKnownPeer meaning_of ps place child p
  peer_at all place child p pair there stands =
      let here = at_place meaning_of old new ps place p trail there in
      let less = within ps place p there in
      let right = right_at all place child pair less (sym (ap (λ (s : State C). pair_at s.table.pairs child) here.before) ∙ stands) in
      record {
        pair = pair;
        there = stands;
        keys = right.keys;
        established = subst (λ (s : State C). IsEstablishedWith s pair.ike right.keys) (sym here.before) right.established;
        known = known_at place pair.ike right.keys (omega (arith, less)) right.established;
        made = right.made;
      }

-- ---- who carries

-- a packet's pair stood before
record Stood {C : Type 0} (s : State C) (child : ℕ) : Type 0 where
  pub pair : Pair
  pub there : pair_at s.table.pairs child ≡ Some pair

ike_carries : (o : IkeOutput) (child : ℕ) → child_said (view_of_ike o) ≡ Some child → ⊥
ike_carries (said.Reply octets closed) child is = none_some child is
ike_carries (said.Repeat octets) child is = none_some child is
ike_carries (said.Request serial octets) child is = none_some child is
ike_carries (said.Counted serial made closed) child is = none_some child is
ike_carries (said.Ticked ticked) child is = none_some child is
ike_carries said.Done child is = none_some child is
ike_carries (said.Dropped fault) child is = none_some child is

same_child : (a b : ℕ) → Some a ≡ Some b → a ≡ b
same_child a b is = cc

module _ {C : Type 0} (old : State C) where
  stood_at : (a b : ℕ) (pair : Pair) → pair_at old.table.pairs a ≡ Some pair → Some a ≡ Some b → Stood old b
  stood_at a b pair there same = record { pair = pair; there = ap (λ n. pair_at old.table.pairs n) (sym (same_child a b same)) ∙ there }

  received : (packet : Octets) (o : Outcome) (new : Database) (child : ℕ) → Receives old.table packet o new → child_said (view_of_outcome o) ≡ Some child → Stood old child
  received packet (traffic.Up c number inner) new child is carried = stood_at c child is.opened.pair is.opened.changed.there carried
  received packet (traffic.Dummy c number) new child is carried = stood_at c child is.opened.pair is.opened.changed.there carried
  received packet (traffic.Sealed c number octets) new child is carried = absurd is
  received packet (traffic.Clear octets) new child is carried = absurd (none_some child carried)
  received packet traffic.Discarded new child is carried = absurd (none_some child carried)
  received packet (traffic.Dropped fault) new child is carried = absurd (none_some child carried)

  sealed : (packet : Octets) (o : Outcome) (new : Database) (child : ℕ) → Sends old.table old.entries packet o new → child_said (view_of_outcome o) ≡ Some child → Stood old child
  sealed packet (traffic.Up c number inner) new child is carried = absurd is
  sealed packet (traffic.Dummy c number) new child is carried = absurd is
  sealed packet (traffic.Sealed c number octets) new child is carried = stood_at c child is.protects.sealed.pair is.protects.sealed.changed.there carried
  sealed packet (traffic.Clear octets) new child is carried = absurd (none_some child carried)
  sealed packet traffic.Discarded new child is carried = absurd (none_some child carried)
  sealed packet (traffic.Dropped fault) new child is carried = absurd (none_some child carried)

  admitted : (packet : Octets) (o : Outcome) (child : ℕ) → Admits old.entries packet o → child_said (view_of_outcome o) ≡ Some child → ⊥
  admitted packet (traffic.Up c number inner) child is carried = is
  admitted packet (traffic.Dummy c number) child is carried = is
  admitted packet (traffic.Sealed c number octets) child is carried = is
  admitted packet (traffic.Clear octets) child is carried = none_some child carried
  admitted packet traffic.Discarded child is carried = none_some child carried
  admitted packet (traffic.Dropped fault) child is carried = none_some child carried

  said_as : (s t : OutputView) (child : ℕ) → s ≡ t → child_said s ≡ Some child → child_said t ≡ Some child
  said_as s t child same is = ap child_said (sym same) ∙ is

  of_ike : (meaning : Meaning) (view : ike.InputView) (s : OutputView) (trace : Trace) (new : State C) (child : ℕ)
      → StepsIke meaning old.entries view old.machine old.table s trace new.machine new.table → child_said s ≡ Some child → Stood old child
  of_ike meaning view s trace new child (inl is) carried = absurd (ike_carries is.stepped.output child (said_as s _ child is.output carried))
  of_ike meaning view s trace new child (inr is) carried = absurd (none_some child (said_as s _ child is.output carried))

  sent_by : (packet : Octets) (s : OutputView) (new : State C) (child : ℕ) → SendsPacket old.entries old.table packet s new.table → child_said s ≡ Some child → Stood old child
  sent_by packet s new child (inl is) carried = sealed packet is.outcome new.table child is.sends (said_as s _ child is.output carried)
  sent_by packet s new child (inr is) carried = absurd (none_some child (said_as s _ child is.output carried))

  carrier_stood : (meaning : Meaning) (given : Input) (s : OutputView) (trace : Trace) (new : State C) (child : ℕ)
      → DoesInput meaning old.entries given old.machine old.table s trace new.machine new.table → child_said s ≡ Some child → Stood old child
  carrier_stood meaning (input.Ike from octets fresh) s trace new child is carried = of_ike meaning (ike.Message from octets fresh) s trace new child is carried
  carrier_stood meaning (input.Start serial entry fresh) s trace new child is carried = of_ike meaning (ike.Start serial entry fresh) s trace new child is carried
  carrier_stood meaning (input.Probe serial fresh) s trace new child is carried = of_ike meaning (ike.Order (orders.Probe serial) fresh) s trace new child is carried
  carrier_stood meaning (input.DeleteChild serial fresh) s trace new child is carried = of_ike meaning (ike.Order (orders.DeleteChild serial) fresh) s trace new child is carried
  carrier_stood meaning (input.DeleteIke serial fresh) s trace new child is carried = of_ike meaning (ike.Order (orders.DeleteIke serial) fresh) s trace new child is carried
  carrier_stood meaning (input.Secret secret) s trace new child is carried = of_ike meaning (ike.Secret secret) s trace new child is carried
  carrier_stood meaning (input.Tick moment) s trace new child is carried = of_ike meaning (ike.Tick moment) s trace new child is carried
  carrier_stood meaning (input.Esp octets) s trace new child is carried = received octets is.1.outcome new.table child is.1.receives (said_as s _ child is.1.output carried)
  carrier_stood meaning (input.Outward packet) s trace new child is carried = sent_by packet s new child is.1 carried
  carrier_stood meaning (input.Inward packet) s trace new child is carried = absurd (admitted packet is.1.outcome child is.1.admits (said_as s _ child is.1.output carried))

-- ---- all of them

-- as whose a packet was accepted, its pair stood
accepted_stood : {C : Type 0} (p : Passage C) (child number : ℕ) → JudgesOne child number p → Stood p.before child
accepted_stood {C} p child number is =
    let takes = is.judges.takes in
    record { pair = takes.pair; there = ap (λ n. pair_at p.before.table.pairs n) takes.child_is ∙ takes.changed.there }

pub only_the_known : {C : Type 0} (facts : StepFacts) (meaning_of : C → Meaning) (old new : State C) (ps : List (Passage C)) → IsTrail meaning_of old ps new → EachPairIsOfAnEstablished old → OnlyTheKnownCarry meaning_of ps
only_the_known {C} facts meaning_of old new ps trail all = record {
  held = λ place child p pair there stands. peer_at facts meaning_of old new ps trail all place child p pair there stands;
  accepted = λ place child number p there judges.
      let stood = accepted_stood p child number judges in
      peer_at facts meaning_of old new ps trail all place child p stood.pair there stood.there;
  said = λ place child p there says.
      let here = at_place meaning_of old new ps place p trail there in
      let stood = carrier_stood p.before (meaning_of p.before.caller) p.given p.said here.passage.steps.trace p.after child here.passage.steps.traces.does says in
      peer_at facts meaning_of old new ps trail all place child p stood.pair there stood.there;
}

-- ---- from a new gateway on

module _ {C : Type 0} (meaning_of : C → Meaning) (config : Config) (entries : List Entry) (start : ℕ) (caller : C) (new : State C) (ps : List (Passage C)) (trail : IsTrail meaning_of (new_gateway config entries start caller) ps new) where
  no_pair : (place child : ℕ) (keys : KeyRecord) (pair : Pair) → WasThere ps place child keys pair → ⊥
  no_pair place child keys pair is =
      let here = at_place meaning_of (new_gateway config entries start caller) new ps 0 is.first trail is.there in
      none_some is.was
      (sym (empty_none start child) ∙ sym (ap (λ (s : State C). pair_at s.table.pairs child) (here.before ∙ at_zero (new_gateway config entries start caller) ps)) ∙ is.stood)

  none_established : (place serial : ℕ) (keys : KeyRecord) (p : Passage C) → slice_get ps place ≡ Some p → StoodFrom ps 0 place serial keys → ⊥
  none_established place serial keys p there is =
      let some = within ps place p there in
      let e = exists ps 0 (omega (arith, some)) in
      let here = at_place meaning_of (new_gateway config entries start caller) new ps 0 e.passage trail e.there in
      let was = subst (λ (s : State C). IsEstablishedWith s serial keys) (here.before ∙ at_zero (new_gateway config entries start caller) ps) (is.each 0 e.passage (omega arith) (omega arith) e.there) in
      none_some was.association was.there

  proved_only : (place child : ℕ) (p : Passage C) → slice_get ps place ≡ Some p → IsOfAKnownPeer meaning_of ps place child p → IsOfAProvedPeer meaning_of ps place child p
  proved_only place child p there is = record {
    pair = is.pair;
    there = is.there;
    keys = is.keys;
    established = is.established;
    known = elim is.known [
      | inl stood ↦ absurd (none_established place is.pair.ike is.keys p there stood)
      | inr proved ↦ proved
    ];
    made = elim is.made [
      | inl was ↦ absurd (no_pair place child is.keys is.pair was)
      | inr made ↦ made
    ];
  }

  pub only_the_proved : StepFacts → OnlyTheProvedCarry meaning_of ps
  only_the_proved facts =
      let all = only_the_known facts meaning_of (new_gateway config entries start caller) new ps trail (begun config entries start caller) in
      record {
        held = λ place child p pair there stands. proved_only place child p there (all.held place child p pair there stands);
        accepted = λ place child number p there judges. proved_only place child p there (all.accepted place child number p there judges);
        said = λ place child p there says. proved_only place child p there (all.said place child p there says);
      }

-- ---- what is sealed

ike_seals : (child number : ℕ) (octets : Octets) (o : IkeOutput) → view_of_ike o ≡ output.Sealed child number octets → ⊥
ike_seals child number octets (said.Reply message closed) is = cc
ike_seals child number octets (said.Repeat message) is = cc
ike_seals child number octets (said.Request serial message) is = cc
ike_seals child number octets (said.Counted serial made closed) is = cc
ike_seals child number octets (said.Ticked ticked) is = cc
ike_seals child number octets said.Done is = cc
ike_seals child number octets (said.Dropped fault) is = cc

refused_seals : (why : Reason) (child number : ℕ) (octets : Octets) → output.Refused why ≡ output.Sealed child number octets → ⊥
refused_seals why child number octets is = cc

module _ {C : Type 0} (p : Passage C) (child number : ℕ) (octets : Octets) where
  ike_no_seal : (meaning : Meaning) (view : ike.InputView) (trace : Trace) → StepsIke meaning p.before.entries view p.before.machine p.before.table p.said trace p.after.machine p.after.table → p.said ≡ output.Sealed child number octets → ⊥
  ike_no_seal meaning view trace (inl is) says = ike_seals child number octets is.stepped.output (sym is.output ∙ says)
  ike_no_seal meaning view trace (inr is) says = refused_seals _ child number octets (sym is.output ∙ says)

  received_no_seal : (packet : Octets) (o : Outcome) (new : Database) → Receives p.before.table packet o new → view_of_outcome o ≡ output.Sealed child number octets → ⊥
  received_no_seal packet (traffic.Up c n inner) new is says = cc
  received_no_seal packet (traffic.Dummy c n) new is says = cc
  received_no_seal packet (traffic.Sealed c n sealed) new is says = is
  received_no_seal packet (traffic.Clear sealed) new is says = cc
  received_no_seal packet traffic.Discarded new is says = cc
  received_no_seal packet (traffic.Dropped fault) new is says = cc

  admitted_no_seal : (packet : Octets) (o : Outcome) → Admits p.before.entries packet o → view_of_outcome o ≡ output.Sealed child number octets → ⊥
  admitted_no_seal packet (traffic.Up c n inner) is says = is
  admitted_no_seal packet (traffic.Dummy c n) is says = is
  admitted_no_seal packet (traffic.Sealed c n sealed) is says = is
  admitted_no_seal packet (traffic.Clear sealed) is says = cc
  admitted_no_seal packet traffic.Discarded is says = cc
  admitted_no_seal packet (traffic.Dropped fault) is says = cc

  sends_it : (packet : Octets) (o : Outcome) → Sends p.before.table p.before.entries packet o p.after.table → view_of_outcome o ≡ output.Sealed child number octets
      → IsProtected p.before.table p.before.entries packet (traffic.Sealed child number octets) p.after.table
  sends_it packet (traffic.Up c n inner) is says = absurd is
  sends_it packet (traffic.Dummy c n) is says = absurd is
  sends_it packet (traffic.Sealed c n sealed) is says =
      let same : traffic.Sealed c n sealed ≡ traffic.Sealed child number octets = cc in
      subst (λ (o : Outcome). IsProtected p.before.table p.before.entries packet o p.after.table) same is
  sends_it packet (traffic.Clear sealed) is says = absurd cc
  sends_it packet traffic.Discarded is says = absurd cc
  sends_it packet (traffic.Dropped fault) is says = absurd cc

  seals : (meaning : Meaning) (given : Input) (trace : Trace) → DoesInput meaning p.before.entries given p.before.machine p.before.table p.said trace p.after.machine p.after.table → p.given ≡ given → p.said ≡ output.Sealed child number octets
      → SealsWhatIsProtected child number octets p
  seals meaning (input.Ike from message fresh) trace is given says = absurd (ike_no_seal meaning (ike.Message from message fresh) trace is says)
  seals meaning (input.Start serial entry fresh) trace is given says = absurd (ike_no_seal meaning (ike.Start serial entry fresh) trace is says)
  seals meaning (input.Probe serial fresh) trace is given says = absurd (ike_no_seal meaning (ike.Order (orders.Probe serial) fresh) trace is says)
  seals meaning (input.DeleteChild serial fresh) trace is given says = absurd (ike_no_seal meaning (ike.Order (orders.DeleteChild serial) fresh) trace is says)
  seals meaning (input.DeleteIke serial fresh) trace is given says = absurd (ike_no_seal meaning (ike.Order (orders.DeleteIke serial) fresh) trace is says)
  seals meaning (input.Secret secret) trace is given says = absurd (ike_no_seal meaning (ike.Secret secret) trace is says)
  seals meaning (input.Tick moment) trace is given says = absurd (ike_no_seal meaning (ike.Tick moment) trace is says)
  seals meaning (input.Esp packet) trace is given says = absurd (received_no_seal packet is.1.outcome p.after.table is.1.receives (sym is.1.output ∙ says))
  seals meaning (input.Outward packet) trace (both0, inl sends) given says = record { packet = packet; given = given; protects = sends_it packet sends.outcome sends.sends (sym sends.output ∙ says) }
  seals meaning (input.Outward packet) trace (both0, inr lacks) given says = absurd (refused_seals _ child number octets (sym lacks.output ∙ says))
  seals meaning (input.Inward packet) trace is given says = absurd (admitted_no_seal packet is.1.outcome is.1.admits (sym is.1.output ∙ says))

pub sealed_is_protected : {C : Type 0} (meaning_of : C → Meaning) (p : Passage C) (child number : ℕ) (octets : Octets) → IsPassage meaning_of p → p.said ≡ output.Sealed child number octets → SealsWhatIsProtected child number octets p
sealed_is_protected {C} meaning_of p child number octets is says = seals p child number octets (meaning_of p.before.caller) p.given is.steps.trace is.steps.traces.does refl says

-- ---- settings

same_passage : {C : Type 0} (p q : Passage C) → Some p ≡ Some q → p ≡ q
same_passage {C} p q is = cc

pub machine_config : (meaning : Meaning) (entries : List Entry) (view : ike.InputView) (old : Machine) (table : Database) (s : Stepped) (new : Machine) (new_table : Database) → ike.Steps meaning entries view old table s new new_table → new.config ≡ old.config
machine_config meaning entries (ike.Message from octets fresh) old table s new new_table is = ap (λ (m : Machine). m.config) is.0
machine_config meaning entries (ike.Start serial place fresh) old table s new new_table is = ap (λ (m : Machine). m.config) is.0
machine_config meaning entries (ike.Order what fresh) old table s new new_table is = ap (λ (m : Machine). m.config) is.0
machine_config meaning entries (ike.Secret secret) old table s new new_table is = ap (λ (m : Machine). m.config) is.content
machine_config meaning entries (ike.Tick moment) old table s new new_table is = ap (λ (m : Machine). m.config) is.content

ike_config : {C : Type 0} (meaning : Meaning) (view : ike.InputView) (old new : State C) (s : OutputView) (trace : Trace) → StepsIke meaning old.entries view old.machine old.table s trace new.machine new.table → new.machine.config ≡ old.machine.config
ike_config {C} meaning view old new s trace (inl is) = machine_config meaning old.entries view old.machine old.table is.stepped new.machine new.table is.steps
ike_config {C} meaning view old new s trace (inr is) = ap (λ (m : Machine). m.config) is.machine

step_config : {C : Type 0} (meaning_of : C → Meaning) (p : Passage C) → IsPassage meaning_of p → p.after.machine.config ≡ p.before.machine.config
step_config {C} meaning_of p is = elim (passage_goes meaning_of p is) [
  | inl at ↦ ike_config (meaning_of p.before.caller) at.view p.before p.after p.said is.steps.trace at.steps
  | inr at ↦ ap (λ (m : Machine). m.config) at.machine
]

pub settings_kept : {C : Type 0} (meaning_of : C → Meaning) (old new : State C) (ps : List (Passage C)) (place : ℕ) (p : Passage C) → IsTrail meaning_of old ps new → slice_get ps place ≡ Some p → KeepsSettings old p
settings_kept {C} meaning_of old new [] place p trail there = absurd cc
settings_kept {C} meaning_of old new (q ∷ ps) zero p trail there =
    let same : q ≡ p = same_passage q p there in
    let before : p.before ≡ old = sym (ap (λ (x : Passage C). x.before) same) ∙ trail.0 in
    record { config = ap (λ (s : State C). s.machine.config) before; entries = ap (λ (s : State C). s.entries) before; caller = ap (λ (s : State C). s.caller) before }
settings_kept {C} meaning_of old new (q ∷ ps) (suc k) p trail there =
    let rest = settings_kept meaning_of q.after new ps k p trail.2 there in
    let step = trail.1.steps.traces in
    record {
      config = rest.config ∙ step_config meaning_of q trail.1 ∙ ap (λ (s : State C). s.machine.config) trail.0;
      entries = rest.entries ∙ ap (λ (s : State C). s.entries) step.kept ∙ ap (λ (s : State C). s.entries) trail.0;
      caller = rest.caller ∙ ap (λ (s : State C). s.caller) step.kept ∙ ap (λ (s : State C). s.caller) trail.0;
    }
