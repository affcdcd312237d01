-- What a step's trace tells is stored.
use Rattle.std.proofs.Common.{◌≡◌, ℕ, Bool, true, false, List, Contains, Option, Some, None, IsSome, inl, inr, refl, sym, ap, ◌∙◌, subst}
use Rattle.std.specs.Prelude.{option_and_then, if◌then◌else◌}
use Rattle.policy.specs.declared.entry.Entry.{Entry}
use Rattle.suite.specs.declared.key_record.KeyRecord.{KeyRecord}
use Rattle.sadb.specs.Database.{pair_at, Database, IsSoundTable}
use Rattle.sadb.specs.declared.pair.Pair.{Pair}
use Rattle.association.specs.Phases.{keys_in}
use Rattle.association.specs.declared.phase.Association.{Association}
use Rattle.effects.specs.Taking.{Meaning}
use Rattle.moments.specs.declared.resent.Resent.{Resent}
use Rattle.moments.specs.declared.ticking.Ticked as ticking
use Rattle.ike.specs.Machines.{keys_of_serial, Held, Machine}
use Rattle.ike.specs.Outputs.{no_trace}
use Rattle.ike.specs.Soundness.{IsSoundMachine}
use Rattle.ike.specs.Steps as ike
use Rattle.ike.specs.Orders as orders
use Rattle.ike.specs.Tracing.{HoldsKeys, IsTraced}
use Rattle.ike.specs.declared.output.IkeOutput.{IkeOutput}
use Rattle.ike.specs.declared.output.IkeOutput.TheVariants as made
use Rattle.ike.specs.declared.output.MadeChild.{MadeChild}
use Rattle.ike.specs.declared.output.Mark.{Mark}
use Rattle.ike.specs.declared.output.Stepped.{Stepped}
use Rattle.ike.specs.declared.output.Trace.{Trace}
use Rattle.gateway.specs.Inputs.{Input}
use Rattle.gateway.specs.Inputs as input
use Rattle.gateway.specs.Outputs.{view_of_ike, Refused, OutputView, Ticked}
use Rattle.gateway.specs.Requests.{for_ike}
use Rattle.gateway.specs.States.{State}
use Rattle.gateway.specs.Steps.{DoesInput, StepsIke, Traces}
use Rattle.gateway.specs.Worlds.{child_by, child_with, ike_mark, keyed_by, keyed_with, mark_again, mark_under, IsMarked}
use Rattle.gateway.specs.declared.fault.Reason.{Reason}
use Rattle.gateway.specs.declared.fault.Reason.TheVariants as reason
use Rattle.gateway.specs.declared.world.stored.End.{End}
use Rattle.gateway.proofs.HistoryLemmas.{answered, does_way, elsewhere, refused, IkeWay, IsOfPacket}

-- what the machine of IKE says of its traces
pub record TraceLaw : Type 0 where
  pub traced : (meaning : Meaning) (entries : List Entry) (given : ike.InputView) (old : Machine) (table : Database) (stepped : Stepped) (new : Machine) (new_table : Database)
      → IsSoundTable table → IsSoundMachine old table → ike.Steps meaning entries given old table stepped new new_table → IsTraced old.held table stepped new.held new_table

-- what is told is held, with its keys and its pair
pub record TellsHeld (trace : Trace) (held : Held) (table : Database) : Type 0 where
  pub sent : (mark : Mark) → trace.sent ≡ Some mark → HoldsKeys held mark.ike
  pub keyed : (serial : ℕ) → trace.keyed ≡ Some serial → HoldsKeys held serial
  pub child : (made : MadeChild) → trace.child ≡ Some made → HoldsKeys held made.ike
  pub pair : (made : MadeChild) → trace.child ≡ Some made → IsSome (pair_at table.pairs made.serial)

some_pair : (o : Option Pair) (pair : Pair) → o ≡ Some pair → IsSome o
some_pair o pair is = subst (λ (x : Option Pair). IsSome x) (sym is) refl

pub none_told : {T : Type 0} (o : Option T) (x : T) → o ≡ None → o ≡ Some x → ⊥
none_told o x none some = let e : None ≡ Some x = sym none ∙ some in cc

nothing_told : (trace : Trace) (held : Held) (table : Database) → trace ≡ no_trace → TellsHeld trace held table
nothing_told trace held table is = record {
  sent = λ mark e. absurd (none_told trace.sent mark (ap (λ (t : Trace). t.sent) is) e);
  keyed = λ serial e. absurd (none_told trace.keyed serial (ap (λ (t : Trace). t.keyed) is) e);
  child = λ made e. absurd (none_told trace.child made (ap (λ (t : Trace). t.child) is) e);
  pair = λ made e. absurd (none_told trace.child made (ap (λ (t : Trace). t.child) is) e);
}

stepped_tells : (before : Held) (table : Database) (stepped : Stepped) (held : Held) (new_table : Database) → IsTraced before table stepped held new_table → TellsHeld stepped.trace held new_table
stepped_tells before table stepped held new_table is = record {
  sent = λ mark e. is.sent mark e;
  keyed = λ serial e. (is.keyed serial e).holds;
  child = λ made e. (is.child made e).keyed;
  pair = λ made e. some_pair (pair_at new_table.pairs made.serial) (is.child made e).pair (is.child made e).there;
}

ike_tells : TraceLaw → (meaning : Meaning) (entries : List Entry) (given : ike.InputView) (old : Machine) (table : Database) (s : OutputView) (trace : Trace) (new : Machine) (new_table : Database)
    → IsSoundTable table → IsSoundMachine old table → StepsIke meaning entries given old table s trace new new_table → TellsHeld trace new.held new_table
ike_tells law meaning entries given old table s trace new new_table st sm (inl a) =
    subst (λ (t : Trace). TellsHeld t new.held new_table) (sym a.traced)
    (stepped_tells old.held table a.stepped new.held new_table (law.traced meaning entries given old table a.stepped new new_table st sm a.steps))
ike_tells law meaning entries given old table s trace new new_table st sm (inr r) = nothing_told trace new.held new_table r.traced

input_tells : TraceLaw → (meaning : Meaning) (entries : List Entry) (given : Input) (old : Machine) (table : Database) (s : OutputView) (trace : Trace) (new : Machine) (new_table : Database)
    → IsSoundTable table → IsSoundMachine old table → DoesInput meaning entries given old table s trace new new_table → TellsHeld trace new.held new_table
input_tells law meaning entries (input.Ike from octets fresh) old table s trace new new_table st sm is = ike_tells law meaning entries (ike.Message from octets fresh) old table s trace new new_table st sm is
input_tells law meaning entries (input.Start serial entry fresh) old table s trace new new_table st sm is = ike_tells law meaning entries (ike.Start serial entry fresh) old table s trace new new_table st sm is
input_tells law meaning entries (input.Probe serial fresh) old table s trace new new_table st sm is = ike_tells law meaning entries (ike.Order (orders.Probe serial) fresh) old table s trace new new_table st sm is
input_tells law meaning entries (input.DeleteChild serial fresh) old table s trace new new_table st sm is = ike_tells law meaning entries (ike.Order (orders.DeleteChild serial) fresh) old table s trace new new_table st sm is
input_tells law meaning entries (input.DeleteIke serial fresh) old table s trace new new_table st sm is = ike_tells law meaning entries (ike.Order (orders.DeleteIke serial) fresh) old table s trace new new_table st sm is
input_tells law meaning entries (input.Secret secret) old table s trace new new_table st sm is = ike_tells law meaning entries (ike.Secret secret) old table s trace new new_table st sm is
input_tells law meaning entries (input.Tick moment) old table s trace new new_table st sm is = ike_tells law meaning entries (ike.Tick moment) old table s trace new new_table st sm is
input_tells law meaning entries (input.Esp octets) old table s trace new new_table st sm is = nothing_told trace new.held new_table is.0.traced
input_tells law meaning entries (input.Outward packet) old table s trace new new_table st sm is = nothing_told trace new.held new_table is.0.traced
input_tells law meaning entries (input.Inward packet) old table s trace new new_table st sm is = nothing_told trace new.held new_table is.0.traced

pub step_tells : {C : Type 0} → TraceLaw → (meaning : Meaning) (given : Input) (s : OutputView) (trace : Trace) (old new : State C)
    → IsSoundTable old.table → IsSoundMachine old.machine old.table → Traces meaning given old s trace new → TellsHeld trace new.machine.held new.table
step_tells {C} law meaning given s trace old new st sm is = input_tells law meaning old.entries given old.machine old.table s trace new.machine new.table st sm is.does

pub keys_found : (held : Held) (serial : ℕ) → (h : HoldsKeys held serial) → keys_of_serial serial held.associations ≡ Some h.keys
keys_found held serial h = ap (λ (o : Option Association). option_and_then (λ a. keys_in a.phase) o) h.there ∙ h.are

pub message_stored : {C : Type 0} → TraceLaw → (meaning : Meaning) (given : Input) (s : OutputView) (trace : Trace) (mark : Mark) (old new : State C)
    → IsSoundTable old.table → IsSoundMachine old.machine old.table → Traces meaning given old s trace new → trace.sent ≡ Some mark → IsMarked mark (ike_mark new.machine trace.sent)
message_stored {C} law meaning given s trace mark old new st sm is e =
    let held = (step_tells law meaning given s trace old new st sm is).sent mark e in
    record {
      keys = held.keys;
      is = ap (λ (o : Option Mark). ike_mark new.machine o) e ∙ ap (λ (k : Option KeyRecord). mark_under mark k) (keys_found new.machine.held mark.ike held);
    }

keyed_some : (end : End) (o : Option KeyRecord) (keys : KeyRecord) → o ≡ Some keys → IsSome (keyed_with end o)
keyed_some end o keys is = subst (λ (x : Option KeyRecord). IsSome (keyed_with end x)) (sym is) refl

pub keyed_stored : {C : Type 0} → TraceLaw → (meaning : Meaning) (given : Input) (s : OutputView) (trace : Trace) (end : End) (serial : ℕ) (old new : State C)
    → IsSoundTable old.table → IsSoundMachine old.machine old.table → Traces meaning given old s trace new → trace.keyed ≡ Some serial → IsSome (keyed_by end trace.keyed new.machine)
keyed_stored {C} law meaning given s trace end serial old new st sm is e =
    let held = (step_tells law meaning given s trace old new st sm is).keyed serial e in
    subst (λ (o : Option ℕ). IsSome (keyed_by end o new.machine)) (sym e) (keyed_some end (keys_of_serial serial new.machine.held.associations) held.keys (keys_found new.machine.held serial held))

child_some : (end : End) (made : MadeChild) (keys : Option KeyRecord) (k : KeyRecord) (pair : Option Pair) → keys ≡ Some k → IsSome pair → IsSome (child_with end made keys pair)
child_some end made None k pair is there = absurd (none_told None k refl is)
child_some end made (Some keys) k None is there = absurd cc
child_some end made (Some keys) k (Some pair) is there = refl

pub child_stored : {C : Type 0} → TraceLaw → (meaning : Meaning) (given : Input) (s : OutputView) (trace : Trace) (end : End) (made : MadeChild) (old new : State C)
    → IsSoundTable old.table → IsSoundMachine old.machine old.table → Traces meaning given old s trace new → trace.child ≡ Some made → IsSome (child_by end trace.child new)
child_stored {C} law meaning given s trace end made old new st sm is e =
    let tells = step_tells law meaning given s trace old new st sm is in
    let held = tells.child made e in
    subst (λ (o : Option MadeChild). IsSome (child_by end o new)) (sym e)
    (child_some end made (keys_of_serial made.ike new.machine.held.associations) held.keys (pair_at new.table.pairs made.serial) (keys_found new.machine.held made.ike held) (tells.pair made e))

-- ---- what goes out again

-- what the machine of IKE says of it
abbrev pub AgainLaw : Type 0
AgainLaw = (meaning : Meaning) (entries : List Entry) (given : ike.InputView) (old : Machine) (table : Database) (stepped : Stepped) (new : Machine) (new_table : Database) (ticked : ticking.Ticked) (r : Resent)
    → IsSoundTable table → IsSoundMachine old table → ike.Steps meaning entries given old table stepped new new_table → stepped.output ≡ made.Ticked ticked → Contains ticked.requests r → r.encrypted ≡ true → HoldsKeys new.held r.ike

pub record SaysTicked (o : IkeOutput) (requests : List Resent) : Type 0 where
  pub ticked : ticking.Ticked
  pub is : o ≡ made.Ticked ticked
  pub requests_are : ticked.requests ≡ requests

pub ticked_by : (o : IkeOutput) (requests : List Resent) (closed : List ℕ) → view_of_ike o ≡ Ticked requests closed → SaysTicked o requests
ticked_by (made.Reply octets ended) requests closed is = absurd cc
ticked_by (made.Repeat octets) requests closed is = absurd cc
ticked_by (made.Request serial octets) requests closed is = absurd cc
ticked_by (made.Counted serial child ended) requests closed is = absurd cc
ticked_by (made.Ticked ticked) requests closed is = record { ticked = ticked; is = refl; requests_are = cc }
ticked_by made.Done requests closed is = absurd cc
ticked_by (made.Dropped fault) requests closed is = absurd cc

refused_ticks : (why : Reason) (requests : List Resent) (closed : List ℕ) → Refused why ≡ Ticked requests closed → ⊥
refused_ticks why requests closed is = cc

pub again_held : {C : Type 0} → AgainLaw → (meaning : Meaning) (given : Option ike.InputView) (s : OutputView) (requests : List Resent) (closed : List ℕ) (r : Resent) (old new : State C)
    → IsSoundTable old.table → IsSoundMachine old.machine old.table → IkeWay meaning given old s new → s ≡ Ticked requests closed → Contains requests r → r.encrypted ≡ true → HoldsKeys new.machine.held r.ike
again_held {C} law meaning given s requests closed r old new st sm (answered a) said there sealed =
    let t = ticked_by a.stepped.output requests closed (sym a.output ∙ said) in
    law meaning old.entries a.view old.machine old.table a.stepped new.machine new.table t.ticked r st sm a.steps t.is (subst (λ (xs : List Resent). Contains xs r) (sym t.requests_are) there) sealed
again_held {C} law meaning given s requests closed r old new st sm (refused a) said there sealed = absurd (refused_ticks (reason.Ike a.fault) requests closed (sym a.output ∙ said))
again_held {C} law meaning given s requests closed r old new st sm (elsewhere e) said there sealed = absurd (subst (λ (x : OutputView). IsOfPacket x) said e.said)

marked_again : (r : Resent) → r.encrypted ≡ true → mark_again r ≡ Some (record { ike = r.ike; response = false; number = r.number })
marked_again r sealed = ap (λ (b : Bool). if b then Some (record { ike = r.ike; response = false; number = r.number }) else None) sealed

pub again_stored : {C : Type 0} → AgainLaw → (meaning : Meaning) (given : Input) (s : OutputView) (trace : Trace) (requests : List Resent) (closed : List ℕ) (r : Resent) (old new : State C)
    → IsSoundTable old.table → IsSoundMachine old.machine old.table → Traces meaning given old s trace new → s ≡ Ticked requests closed → Contains requests r → r.encrypted ≡ true
    → IsMarked (record { ike = r.ike; response = false; number = r.number }) (ike_mark new.machine (mark_again r))
again_stored {C} law meaning given s trace requests closed r old new st sm is said there sealed =
    let held = again_held law meaning (for_ike given) s requests closed r old new st sm (does_way meaning given old s trace new is.does) said there sealed in
    let mark : Mark = record { ike = r.ike; response = false; number = r.number } in
    record {
      keys = held.keys;
      is = ap (λ (o : Option Mark). ike_mark new.machine o) (marked_again r sealed) ∙ ap (λ (k : Option KeyRecord). mark_under mark k) (keys_found new.machine.held r.ike held);
    }
