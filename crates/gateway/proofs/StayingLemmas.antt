-- What every gateway has is kept by each step.
use Rattle.std.proofs.Common.{◌≡◌, inl, inr, ℕ, List, [], ◌∷◌, refl, sym, ap, ◌∙◌, subst, Some, None}
use Rattle.std.specs.Prelude.{slice_get, length, take}
use Rattle.base.specs.Octets.{Octets}
use Rattle.policy.specs.declared.entry.Entry.{Entry}
use Rattle.sadb.specs.Database.{empty_table, pair_at, Database, PairMap}
use Rattle.sadb.specs.declared.pair.Pair.{Pair}
use Rattle.sadb.specs.Laying.{finished_at}
use Rattle.traffic.specs.Behind.{laid_size}
use Rattle.traffic.specs.Outcomes.{outcome_of_arrival}
use Rattle.traffic.specs.declared.arrival.Arrival.{Arrival}
use Rattle.traffic.specs.declared.arrival.Arrival.TheVariants as arrival
use Rattle.traffic.specs.declared.departure.Laid.{Laid}
use Rattle.traffic.specs.declared.departure.Laid.TheVariants as laid
use Rattle.association.specs.declared.phase.Association.{Association}
use Rattle.setup.specs.declared.config.Config.{Config}
use Rattle.effects.specs.Taking.{Meaning}
use Rattle.ike.specs.Machines.{association_of, new_machine, Machine}
use Rattle.ike.specs.Orders as orders
use Rattle.ike.specs.Steps as ike
use Rattle.ike.specs.Outputs.{no_trace}
use Rattle.ike.specs.declared.output.Stepped.{Stepped}
use Rattle.ike.specs.declared.output.Trace.{Trace}
use Rattle.gateway.specs.Carrying.{EachPairIsOfAnEstablished}
use Rattle.gateway.specs.Inputs.{Input, Outward}
use Rattle.gateway.specs.Inputs as input
use Rattle.gateway.specs.Inside.{LiesInside}
use Rattle.gateway.specs.LawsOfRuns.{EveryRunKeepsItsPromises}
use Rattle.gateway.specs.Outputs.{output_view, view_of_outcome, OutputView}
use Rattle.gateway.specs.Promises.{KeepsPromises}
use Rattle.gateway.specs.Staying.{HasWhatStays, WhatEveryGatewayHasStays}
use Rattle.gateway.specs.Rows.{said_of_laid, LaysIn}
use Rattle.gateway.specs.Runs.{Runs, StepsAs}
use Rattle.gateway.specs.States.{IsSoundState, State}
use Rattle.gateway.specs.Steps.{DoesInput, SendsPacket, StepsIke, Traces}
use Rattle.gateway.specs.declared.fault.Reason.TheVariants as reason
use Rattle.gateway.specs.declared.output.Output.{Output}
use Rattle.gateway.specs.declared.output.Output.TheVariants as output
use Rattle.gateway.proofs.CarryingLemmas.{empty_none}

none_there : (pair : Pair) → None ≡ Some pair → ⊥
none_there pair e = cc

none_held : (a : Association) → None ≡ Some a → ⊥
none_held a e = cc

-- of no pair
none_to_stand : {C : Type 0} (s : State C) (start : ℕ) → s.table ≡ empty_table start → EachPairIsOfAnEstablished s
none_to_stand {C} s start is = record {
  each = λ child pair there. absurd (none_there pair (sym (empty_none start child) ∙ sym (ap (λ (d : Database). pair_at d.pairs child) is) ∙ there));
}

-- the output that tells what was laid
abbrev output_of_laid : PairMap → Laid → Octets → Output
output_of_laid pairs (laid.Sealed child number) octets = output.Sealed child number (finished_at pairs child number octets)
output_of_laid pairs (laid.Clear packet) octets = output.Clear packet
output_of_laid pairs laid.Discarded octets = output.Discarded
output_of_laid pairs (laid.Dropped fault) octets = output.Dropped (reason.Packet fault)

laid_is : (pairs : PairMap) (what : Laid) (octets : Octets) → said_of_laid pairs what octets ≡ output_view (output_of_laid pairs what octets)
laid_is pairs (laid.Sealed child number) octets = refl
laid_is pairs (laid.Clear packet) octets = refl
laid_is pairs laid.Discarded octets = refl
laid_is pairs (laid.Dropped fault) octets = refl

-- the output that tells what came of an ESP packet
abbrev pub output_of_arrival : Arrival → Output
output_of_arrival (arrival.Up child number packet) = output.Up child number packet
output_of_arrival (arrival.Dummy child number) = output.Dummy child number
output_of_arrival (arrival.Dropped fault) = output.Dropped (reason.Packet fault)

pub arrival_is : (what : Arrival) → view_of_outcome (outcome_of_arrival what) ≡ output_view (output_of_arrival what)
arrival_is (arrival.Up child number packet) = refl
arrival_is (arrival.Dummy child number) = refl
arrival_is (arrival.Dropped fault) = refl

-- a gateway without IKE SAs and pairs
pub begins_so : {C : Type 0} (config : Config) (s : State C) (start : ℕ) → s.machine ≡ new_machine config → s.table ≡ empty_table start → HasWhatStays s
begins_so {C} config s start machine table = record {
  standing = none_to_stand s start table;
  inside = record {
    asks = λ place a there. absurd (none_held a (sym (ap (λ (m : Machine). slice_get m.held.associations place) machine) ∙ there));
    pairs = λ child pair there. absurd (none_there pair (sym (empty_none start child) ∙ sym (ap (λ (d : Database). pair_at d.pairs child) table) ∙ there));
  };
  replies = record {
    each = λ serial a keys number there are in_effect not_left not_first.
        absurd (none_held a (sym (ap (λ (m : Machine). association_of serial m.held.associations) machine) ∙ there));
  };
  windows = record {
    established = λ serial a there stands. absurd (none_held a (sym (ap (λ (m : Machine). association_of serial m.held.associations) machine) ∙ there));
    not_yet = λ serial a there open_yet. absurd (none_held a (sym (ap (λ (m : Machine). association_of serial m.held.associations) machine) ∙ there));
  };
}

module _ {C : Type 0} (meaning_of : C → Meaning) (promises : EveryRunKeepsItsPromises C) where
  promised_after : (given : Input) (said : Output) (trace : Trace) (old new : State C) → IsSoundState old → Traces (meaning_of old.caller) given old (output_view said) trace new
      → KeepsPromises meaning_of (given ∷ []) (said ∷ []) old new
  promised_after given said trace old new sound traces =
      let run : Runs (StepsAs meaning_of) (given ∷ []) (said ∷ []) old new = (new, record { sound = sound; steps = record { trace = trace; traces = traces } }, refl) in
      promises meaning_of (given ∷ []) (said ∷ []) old new run

  pub stands_after : (given : Input) (said : Output) (trace : Trace) (old new : State C) → IsSoundState old → Traces (meaning_of old.caller) given old (output_view said) trace new
      → EachPairIsOfAnEstablished old → EachPairIsOfAnEstablished new
  stands_after given said trace old new sound traces was = (promised_after given said trace old new sound traces).carrying.stays was

  pub inside_after : (given : Input) (said : Output) (trace : Trace) (old new : State C) → IsSoundState old → Traces (meaning_of old.caller) given old (output_view said) trace new
      → LiesInside old → LiesInside new
  inside_after given said trace old new sound traces was = (promised_after given said trace old new sound traces).inside.last was

-- what a step of the machine leaves so, every input does
module _ (P : Machine → Type 0) (meaning : Meaning) (entries : List Entry) (old : Machine) (table : Database) (said : OutputView) (trace : Trace) (new : Machine) (new_table : Database) (was : P old)
    (stays : (given : ike.InputView) (stepped : Stepped) → ike.Steps meaning entries given old table stepped new new_table → P new) where
  same_machine : new ≡ old → P new
  same_machine same = subst P (sym same) was

  by_ike : (given : ike.InputView) → StepsIke meaning entries given old table said trace new new_table → P new
  by_ike given (inl answers) = stays given answers.stepped answers.steps
  by_ike given (inr refuses) = same_machine refuses.machine

  pub machine_stays : (given : Input) → DoesInput meaning entries given old table said trace new new_table → P new
  machine_stays (input.Ike from octets fresh) does = by_ike (ike.Message from octets fresh) does
  machine_stays (input.Start serial entry fresh) does = by_ike (ike.Start serial entry fresh) does
  machine_stays (input.Probe serial fresh) does = by_ike (ike.Order (orders.Probe serial) fresh) does
  machine_stays (input.DeleteChild serial fresh) does = by_ike (ike.Order (orders.DeleteChild serial) fresh) does
  machine_stays (input.DeleteIke serial fresh) does = by_ike (ike.Order (orders.DeleteIke serial) fresh) does
  machine_stays (input.Secret secret) does = by_ike (ike.Secret secret) does
  machine_stays (input.Tick moment) does = by_ike (ike.Tick moment) does
  machine_stays (input.Esp octets) does = same_machine does.0.machine
  machine_stays (input.Outward packet) does = same_machine does.0.machine
  machine_stays (input.Inward packet) does = same_machine does.0.machine

-- a packet that is laid
pub stays_laid : {C : Type 0} (meaning_of : C → Meaning) → WhatEveryGatewayHasStays C → (packet room : Octets) (what : Laid) (old : State C) (table : Database) (filled : Octets)
    → IsSoundState old → LaysIn (λ said. SendsPacket old.entries old.table packet said table) (length packet) room what table.pairs filled → HasWhatStays old → HasWhatStays (record old { table = table })
stays_laid {C} meaning_of stays packet room what old table filled sound is was =
    let sealed : Octets = take (laid_size what (length packet)) filled in
    let sends : SendsPacket old.entries old.table packet (output_view (output_of_laid table.pairs what sealed)) table =
    subst (λ (v : OutputView). SendsPacket old.entries old.table packet v table) (laid_is table.pairs what sealed) is.said in
    stays meaning_of (Outward packet) (output_of_laid table.pairs what sealed) no_trace old (record old { table = table }) sound
    (record { kept = refl; does = (record { machine = refl; traced = refl }, sends) }) was
