-- What a gateway is after an input of someone without keys.
use Rattle.std.proofs.Common.{◌≡◌, ◌⊎◌, refl, ap, subst, sym, ◌∙◌, inl, inr, arith}
use Rattle.base.specs.Octets.{Octets}
use Rattle.suite.specs.declared.fresh.Fresh.{Fresh}
use Rattle.sadb.specs.Database.{Database, IsAsBefore}
use Rattle.effects.specs.Taking.{Meaning}
use Rattle.ike.specs.Machines.{setup_at, Held, Machine}
use Rattle.ike.specs.Receiving.{IsInitialRequest}
use Rattle.ike.specs.Steps as ike
use Rattle.gateway.specs.Histories.{IsPassage, Passage}
use Rattle.gateway.specs.Inputs.{Input}
use Rattle.gateway.specs.Inputs as input
use Rattle.gateway.specs.Outputs.{OutputView}
use Rattle.gateway.specs.States.{State}
use Rattle.gateway.specs.Steps.{DoesInput, StepsIke}
use Rattle.ike.specs.declared.output.Trace.{Trace}
use Rattle.gateway.specs.Strangers.{AddsAtMostAHalfOpen, ChangesAtMostOneWaiting, ChangesOneWaiting, CountsForOne, HoldsOneMore, IsAsItWas, IsStrange}
use Rattle.gateway.proofs.StrangerLemmas.{initial_adds, keyless_changes, packet_still, strange_still, Adds, ChangesOneHeld, OneSpelling, StrangerFacts}

as_before : (d : Database) → IsAsBefore d d
as_before d = record { content = refl; room = omega arith }

module _ {C : Type 0} (old new : State C) where
  as_it_was : new ≡ record old { machine = new.machine; table = new.table } → new.machine ≡ old.machine → IsAsBefore old.table new.table → IsAsItWas old new
  as_it_was kept machine table = record { content = kept ∙ ap (λ (m : Machine). record old { machine = m; table = new.table }) machine; table = table }

  table_as : new.table ≡ old.table → IsAsBefore old.table new.table
  table_as same = subst (λ (d : Database). IsAsBefore old.table d) (sym same) (as_before old.table)

  strange_ike : (facts : StrangerFacts) (meaning : Meaning) (from octets : Octets) (fresh : Fresh) (s : OutputView) (trace : Trace)
      → new ≡ record old { machine = new.machine; table = new.table } → IsStrange meaning old (input.Ike from octets fresh)
      → StepsIke meaning old.entries (ike.Message from octets fresh) old.machine old.table s trace new.machine new.table → IsAsItWas old new
  strange_ike facts meaning from octets fresh s trace kept strange (inl is) =
      let still = strange_still facts meaning old.entries from octets fresh old.machine old.table is.stepped new.machine new.table strange is.steps in
      as_it_was kept still.0 (table_as still.1)
  strange_ike facts meaning from octets fresh s trace kept strange (inr is) = as_it_was kept is.machine is.pairs

  strange_does : (facts : StrangerFacts) (meaning : Meaning) (given : Input) (s : OutputView) (trace : Trace) → new ≡ record old { machine = new.machine; table = new.table } → IsStrange meaning old given
      → DoesInput meaning old.entries given old.machine old.table s trace new.machine new.table → IsAsItWas old new
  strange_does facts meaning (input.Ike from octets fresh) s trace kept strange is = strange_ike facts meaning from octets fresh s trace kept strange is
  strange_does facts meaning (input.Esp octets) s trace kept strange is = as_it_was kept is.0.machine (table_as (packet_still old.table octets is.1.outcome new.table strange is.1.receives))
  strange_does facts meaning (input.Outward packet) s trace kept strange is = absurd strange
  strange_does facts meaning (input.Inward packet) s trace kept strange is = as_it_was kept is.0.machine (table_as is.2)
  strange_does facts meaning (input.Start serial entry fresh) s trace kept strange is = absurd strange
  strange_does facts meaning (input.Probe serial fresh) s trace kept strange is = absurd strange
  strange_does facts meaning (input.DeleteChild serial fresh) s trace kept strange is = absurd strange
  strange_does facts meaning (input.DeleteIke serial fresh) s trace kept strange is = absurd strange
  strange_does facts meaning (input.Secret secret) s trace kept strange is = absurd strange
  strange_does facts meaning (input.Tick moment) s trace kept strange is = absurd strange

  one_more : new.machine ≡ record old.machine { held = new.machine.held } → Adds old.machine.held new.machine.held → (new.machine ≡ old.machine) ⊎ HoldsOneMore old.machine new.machine
  one_more rest (inl same) = inl (rest ∙ ap (λ (h : Held). record old.machine { held = h }) same)
  one_more rest (inr adds) = inr (record {
    association = adds.association;
    serial = adds.serial;
    half_open = adds.half_open;
    content = rest ∙ ap (λ (h : Held). record old.machine { held = h }) adds.content;
  })

  first_ike : (one : OneSpelling) (meaning : Meaning) (from octets : Octets) (fresh : Fresh) (s : OutputView) (trace : Trace)
      → new ≡ record old { machine = new.machine; table = new.table } → IsInitialRequest octets
      → StepsIke meaning old.entries (ike.Message from octets fresh) old.machine old.table s trace new.machine new.table → AddsAtMostAHalfOpen old new
  first_ike one meaning from octets fresh s trace kept initial (inl is) =
      let adds = initial_adds one meaning (setup_at old.machine old.entries fresh) old.machine.cookies from octets old.machine.held old.table is.stepped new.machine.held new.table initial is.steps.1 in
      record { content = kept; machine = one_more is.steps.0 adds.0; table = table_as adds.1 }
  first_ike one meaning from octets fresh s trace kept initial (inr is) = record { content = kept; machine = inl is.machine; table = is.pairs }

module _ {C : Type 0} (old new : State C) where
  one_waiting : (octets : Octets) → new.machine ≡ record old.machine { held = new.machine.held } → (new.machine ≡ old.machine) ⊎ ChangesOneHeld octets old.machine.held new.machine.held
      → (new.machine ≡ old.machine) ⊎ ChangesOneWaiting octets old.machine new.machine
  one_waiting octets rest (inl same) = inl same
  one_waiting octets rest (inr one) = inr (record {
    awaited = one.awaited;
    is = one.is;
    identity = one.identity;
    phase = one.phase;
    content = rest ∙ ap (λ (h : Held). record old.machine { held = h }) one.content;
  })

  keyless_ike : (facts : StrangerFacts) (meaning : Meaning) (from octets : Octets) (fresh : Fresh) (s : OutputView) (trace : Trace)
      → new ≡ record old { machine = new.machine; table = new.table } → (CountsForOne meaning.plain_of old.machine.held octets → ⊥) → (IsInitialRequest octets → ⊥)
      → StepsIke meaning old.entries (ike.Message from octets fresh) old.machine old.table s trace new.machine new.table → ChangesAtMostOneWaiting octets old new
  keyless_ike facts meaning from octets fresh s trace kept sealed first (inl is) =
      let changes = keyless_changes facts meaning old.entries from octets fresh old.machine old.table is.stepped new.machine new.table sealed first is.steps in
      record { content = kept; machine = one_waiting octets is.steps.0 changes.0; table = table_as old new changes.1 }
  keyless_ike facts meaning from octets fresh s trace kept sealed first (inr is) = record { content = kept; machine = inl is.machine; table = is.pairs }

pub keyless_change : {C : Type 0} (facts : StrangerFacts) (meaning_of : C → Meaning) (from octets : Octets) (fresh : Fresh) (p : Passage C) → IsPassage meaning_of p → p.given ≡ input.Ike from octets fresh
    → (CountsForOne (meaning_of p.before.caller).plain_of p.before.machine.held octets → ⊥) → (IsInitialRequest octets → ⊥) → ChangesAtMostOneWaiting octets p.before p.after
keyless_change {C} facts meaning_of from octets fresh p is given sealed first =
    keyless_ike p.before p.after facts (meaning_of p.before.caller) from octets fresh p.said is.steps.trace is.steps.traces.kept sealed first
    (subst (λ (i : Input). DoesInput (meaning_of p.before.caller) p.before.entries i p.before.machine p.before.table p.said is.steps.trace p.after.machine p.after.table) given is.steps.traces.does)

pub strangers_change_nothing : {C : Type 0} (facts : StrangerFacts) (meaning_of : C → Meaning) (p : Passage C) → IsPassage meaning_of p → IsStrange (meaning_of p.before.caller) p.before p.given → IsAsItWas p.before p.after
strangers_change_nothing {C} facts meaning_of p is strange =
    strange_does p.before p.after facts (meaning_of p.before.caller) p.given p.said is.steps.trace is.steps.traces.kept strange is.steps.traces.does

pub first_requests_add : {C : Type 0} (one : OneSpelling) (meaning_of : C → Meaning) (from octets : Octets) (fresh : Fresh) (p : Passage C) → IsPassage meaning_of p → p.given ≡ input.Ike from octets fresh → IsInitialRequest octets
    → AddsAtMostAHalfOpen p.before p.after
first_requests_add {C} one meaning_of from octets fresh p is given initial =
    first_ike p.before p.after one (meaning_of p.before.caller) from octets fresh p.said is.steps.trace is.steps.traces.kept initial
    (subst (λ (i : Input). DoesInput (meaning_of p.before.caller) p.before.entries i p.before.machine p.before.table p.said is.steps.trace p.after.machine p.after.table) given is.steps.traces.does)
