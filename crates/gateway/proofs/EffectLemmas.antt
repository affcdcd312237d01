-- What has no effect on a gateway, or on its table.
use Rattle.std.proofs.Common.{◌≡◌, List, ap, inl, inr, refl, subst, sym, ◌∙◌}
use Rattle.base.specs.Octets.{Octets}
use Rattle.suite.specs.declared.fresh.Fresh.{Fresh}
use Rattle.policy.specs.declared.entry.Entry.{Entry}
use Rattle.sadb.specs.Contents.{table_content}
use Rattle.sadb.specs.Database.{Database, IsAsBefore}
use Rattle.effects.specs.Taking.{Meaning}
use Rattle.ike.specs.LawsOfSoundness.{SoundMachinesHoldWholeKeys}
use Rattle.ike.specs.Machines.{Machine}
use Rattle.ike.specs.Receiving.{IsInitialRequest}
use Rattle.gateway.specs.Contents.{state_content}
use Rattle.gateway.specs.Histories.{IsPassage, Passage}
use Rattle.gateway.specs.Inputs.{Input}
use Rattle.gateway.specs.Inputs as input
use Rattle.gateway.specs.LawsOfSteps.{RefusalsChangeNothing, StepsAreDetermined}
use Rattle.gateway.specs.Lengths.{IsGiven}
use Rattle.gateway.specs.Outputs.{OutputView}
use Rattle.gateway.specs.States.{State}
use Rattle.gateway.specs.Steps.{Steps}
use Rattle.gateway.specs.LeavingOut.{ChangesNothing, GivesPacket, HasMemory, IsPacket, IsRightlyGiven, IsUncounted, IsWithoutEffect, KeepsTable, LeavesTable}
use Rattle.gateway.specs.Strangers.{AddsAtMostAHalfOpen, ChangesAtMostOneWaiting, CountsForOne, IsAsItWas, IsStrange}

-- what is known of steps
pub record Facts (C : Type 0) : Type 0 where
  pub steps : StepsAreDetermined C
  pub whole : SoundMachinesHoldWholeKeys

-- and of what strangers bring
pub record StillFacts (C : Type 0) : Type 0 where
  pub prepared : (old new : Database) → IsAsBefore old new → table_content new ≡ table_content old
  pub strange : (meaning_of : C → Meaning) (p : Passage C) → IsPassage meaning_of p → IsStrange (meaning_of p.before.caller) p.before p.given → IsAsItWas p.before p.after
  pub first : (meaning_of : C → Meaning) (from octets : Octets) (fresh : Fresh) (p : Passage C) → IsPassage meaning_of p → p.given ≡ input.Ike from octets fresh → IsInitialRequest octets → AddsAtMostAHalfOpen p.before p.after
  pub answer : (meaning_of : C → Meaning) (from octets : Octets) (fresh : Fresh) (p : Passage C) → IsPassage meaning_of p → p.given ≡ input.Ike from octets fresh
      → ¬ CountsForOne (meaning_of p.before.caller).plain_of p.before.machine.held octets → ¬ IsInitialRequest octets → ChangesAtMostOneWaiting octets p.before p.after

pub facts_of : {C : Type 0} → StepsAreDetermined C → SoundMachinesHoldWholeKeys → Facts C
facts_of {C} steps whole = record { steps = steps; whole = whole }

pub still_of : {C : Type 0} → ((old new : Database) → IsAsBefore old new → table_content new ≡ table_content old)
    → ((meaning_of : C → Meaning) (p : Passage C) → IsPassage meaning_of p → IsStrange (meaning_of p.before.caller) p.before p.given → IsAsItWas p.before p.after)
    → ((meaning_of : C → Meaning) (from octets : Octets) (fresh : Fresh) (p : Passage C) → IsPassage meaning_of p → p.given ≡ input.Ike from octets fresh → IsInitialRequest octets → AddsAtMostAHalfOpen p.before p.after)
    → ((meaning_of : C → Meaning) (from octets : Octets) (fresh : Fresh) (p : Passage C) → IsPassage meaning_of p → p.given ≡ input.Ike from octets fresh
    → ¬ CountsForOne (meaning_of p.before.caller).plain_of p.before.machine.held octets → ¬ IsInitialRequest octets → ChangesAtMostOneWaiting octets p.before p.after)
    → StillFacts C
still_of {C} prepared strange first answer = record { prepared = prepared; strange = strange; first = first; answer = answer }

-- ---- all that a gateway holds

module _ {C : Type 0} (facts : Facts C) (meaning_of : C → Meaning) where
  pub one_step : (p q : Passage C) → IsPassage meaning_of p → IsPassage meaning_of q → state_content q.before ≡ state_content p.before → q.given ≡ p.given → IsRightlyGiven meaning_of q → HasMemory p → HasMemory q
      → (q.said ≡ p.said) × (state_content q.after ≡ state_content p.after)
  one_step p q is also same given told first second =
      let caller : p.before.caller ≡ q.before.caller = sym (ap (λ (s : State C). s.caller) same) in
      let steps : Steps (meaning_of q.before.caller) q.given p.before p.said p.after =
      subst (λ (i : Input). Steps (meaning_of q.before.caller) i p.before p.said p.after) (sym given)
      (subst (λ (c : C). Steps (meaning_of c) p.given p.before p.said p.after) caller is.steps) in
      facts.steps (meaning_of q.before.caller) q.given q.before p.before q.after p.after q.said p.said told (facts.whole q.before.machine q.before.table also.sound.machine) same second first also.steps steps

as_held : {C : Type 0} → ((old new : Database) → IsAsBefore old new → table_content new ≡ table_content old) → (old new : State C) → new ≡ record old { table = new.table } → IsAsBefore old.table new.table → state_content new ≡ state_content old
as_held {C} prepared old new content table = ap state_content content ∙ ap (λ (t : Database). record (state_content old) { table = t }) (prepared old.table new.table table)

pub without_effect : {C : Type 0} → StillFacts C → RefusalsChangeNothing C → (meaning_of : C → Meaning) (p : Passage C) → IsPassage meaning_of p → IsWithoutEffect meaning_of p → ChangesNothing p
without_effect {C} still refusals meaning_of p is (inl strange) =
    let stays = still.strange meaning_of p is strange in
    as_held still.prepared p.before p.after stays.content stays.table
without_effect {C} still refusals meaning_of p is (inr (inl why)) =
    let stays = refusals (meaning_of p.before.caller) p.given why.reason p.before p.after (subst (λ (s : OutputView). Steps (meaning_of p.before.caller) p.given p.before s p.after) why.said is.steps) in
    as_held still.prepared p.before p.after stays.0 stays.1
without_effect {C} still refusals meaning_of p is (inr (inr unchanged)) = unchanged

-- ---- packets alone

-- what a packet brings is the same beside another machine and for another provider
abbrev moved : {C : Type 0} → Machine → C → State C → State C
moved {C} machine caller s = record s { machine = machine; caller = caller }

moved_step : {C : Type 0} (one two : Meaning) (given : Input) (machine : Machine) (caller : C) (old : State C) (said : OutputView) (new : State C) → IsPacket given → Steps one given old said new
    → Steps two given (moved machine caller old) said (moved machine caller new)
moved_step {C} one two (input.Esp octets) machine caller old said new packet is = record {
  trace = is.trace;
  traces = record { kept = ap (moved machine caller) is.traces.kept; does = (record { machine = refl; traced = is.traces.does.0.traced }, is.traces.does.1) };
}
moved_step {C} one two (input.Outward octets) machine caller old said new packet is = record {
  trace = is.trace;
  traces = record { kept = ap (moved machine caller) is.traces.kept; does = (record { machine = refl; traced = is.traces.does.0.traced }, is.traces.does.1) };
}
moved_step {C} one two (input.Inward octets) machine caller old said new packet is = record {
  trace = is.trace;
  traces = record { kept = ap (moved machine caller) is.traces.kept; does = (record { machine = refl; traced = is.traces.does.0.traced }, is.traces.does.1, is.traces.does.2) };
}
moved_step {C} one two (input.Ike from octets fresh) machine caller old said new packet is = absurd packet
moved_step {C} one two (input.Start serial entry fresh) machine caller old said new packet is = absurd packet
moved_step {C} one two (input.Probe serial fresh) machine caller old said new packet is = absurd packet
moved_step {C} one two (input.DeleteChild child fresh) machine caller old said new packet is = absurd packet
moved_step {C} one two (input.DeleteIke serial fresh) machine caller old said new packet is = absurd packet
moved_step {C} one two (input.Secret secret) machine caller old said new packet is = absurd packet
moved_step {C} one two (input.Tick moment) machine caller old said new packet is = absurd packet

packet_given : (meaning : Meaning) (given : Input) → IsPacket given → IsGiven meaning given
packet_given meaning (input.Esp octets) packet = tt
packet_given meaning (input.Outward octets) packet = tt
packet_given meaning (input.Inward octets) packet = tt
packet_given meaning (input.Ike from octets fresh) packet = absurd packet
packet_given meaning (input.Start serial entry fresh) packet = absurd packet
packet_given meaning (input.Probe serial fresh) packet = absurd packet
packet_given meaning (input.DeleteChild child fresh) packet = absurd packet
packet_given meaning (input.DeleteIke serial fresh) packet = absurd packet
packet_given meaning (input.Secret secret) packet = absurd packet
packet_given meaning (input.Tick moment) packet = absurd packet

-- the policy, and what the table holds
abbrev pub Ground : Type 0
Ground = List Entry × Database

abbrev pub ground_of : {C : Type 0} → State C → Ground
ground_of {C} s = (s.entries, table_content s.table)

pub same_ground : {C : Type 0} (s t : State C) → s.entries ≡ t.entries → table_content s.table ≡ table_content t.table → ground_of s ≡ ground_of t
same_ground {C} s t entries table = ap (λ (es : List Entry). (es, table_content s.table)) entries ∙ ap (λ (d : Database). (t.entries, d)) table

-- no step changes the policy
entries_stay : {C : Type 0} (meaning_of : C → Meaning) (p : Passage C) → IsPassage meaning_of p → p.after.entries ≡ p.before.entries
entries_stay {C} meaning_of p is = ap (λ (s : State C). s.entries) is.steps.traces.kept

pub keeps_ground : {C : Type 0} (meaning_of : C → Meaning) (p : Passage C) → IsPassage meaning_of p → KeepsTable p → ground_of p.after ≡ ground_of p.before
keeps_ground {C} meaning_of p is table = same_ground p.after p.before (entries_stay meaning_of p is) table

module _ {C : Type 0} (facts : Facts C) (meaning_of : C → Meaning) where
  pub one_packet : (p q : Passage C) → IsPassage meaning_of p → IsPassage meaning_of q → ground_of q.before ≡ ground_of p.before → q.given ≡ p.given → GivesPacket q → HasMemory p → HasMemory q
      → (q.said ≡ p.said) × (ground_of q.after ≡ ground_of p.after)
  one_packet p q is also ground given packet first second =
      let entries : q.before.entries ≡ p.before.entries = ap (λ (g : Ground). g.0) ground in
      let table : table_content q.before.table ≡ table_content p.before.table = ap (λ (g : Ground). g.1) ground in
      let steps : Steps (meaning_of p.before.caller) q.given p.before p.said p.after =
      subst (λ (i : Input). Steps (meaning_of p.before.caller) i p.before p.said p.after) (sym given) is.steps in
      let same : state_content q.before ≡ state_content (moved q.before.machine q.before.caller p.before) =
      ap (λ (t : Database). record (state_content q.before) { table = t }) table
      ∙ ap (λ (es : List Entry). record (state_content q.before) { table = table_content p.before.table; entries = es }) entries in
      let end = facts.steps (meaning_of q.before.caller) q.given q.before (moved q.before.machine q.before.caller p.before) q.after (moved q.before.machine q.before.caller p.after) q.said p.said
      (packet_given (meaning_of q.before.caller) q.given packet) (facts.whole q.before.machine q.before.table also.sound.machine) same second first also.steps
      (moved_step (meaning_of p.before.caller) (meaning_of q.before.caller) q.given q.before.machine q.before.caller p.before p.said p.after packet steps) in
      (end.0, same_ground q.after p.after (ap (λ (s : State C). s.entries) end.1) (ap (λ (s : State C). s.table) end.1))

module _ {C : Type 0} (still : StillFacts C) (meaning_of : C → Meaning) (p : Passage C) (is : IsPassage meaning_of p) where
  by_strange : (given : Input) → p.given ≡ given → IsStrange (meaning_of p.before.caller) p.before given → KeepsTable p
  by_strange given same strange =
      still.prepared p.before.table p.after.table (still.strange meaning_of p is (subst (λ (i : Input). IsStrange (meaning_of p.before.caller) p.before i) (sym same) strange)).table

  by_input : (given : Input) → p.given ≡ given → IsUncounted (meaning_of p.before.caller) p.before given → KeepsTable p
  by_input (input.Ike from octets fresh) same (inl begins) = still.prepared p.before.table p.after.table (still.first meaning_of from octets fresh p is same begins).table
  by_input (input.Ike from octets fresh) same (inr other) = still.prepared p.before.table p.after.table (still.answer meaning_of from octets fresh p is same other.1 other.0).table
  by_input (input.Esp octets) same strange = by_strange (input.Esp octets) same strange
  by_input (input.Inward packet) same strange = by_strange (input.Inward packet) same strange
  by_input (input.Outward packet) same strange = absurd strange
  by_input (input.Start serial entry fresh) same strange = absurd strange
  by_input (input.Probe serial fresh) same strange = absurd strange
  by_input (input.DeleteChild child fresh) same strange = absurd strange
  by_input (input.DeleteIke serial fresh) same strange = absurd strange
  by_input (input.Secret secret) same strange = absurd strange
  by_input (input.Tick moment) same strange = absurd strange

  pub leaves_ground : LeavesTable meaning_of p → ground_of p.after ≡ ground_of p.before
  leaves_ground (inl uncounted) = keeps_ground meaning_of p is (by_input p.given refl uncounted)
  leaves_ground (inr kept) = keeps_ground meaning_of p is kept
