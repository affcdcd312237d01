-- What a gateway holds, takes and says, with other serials for its IKE SAs.
use Rattle.std.specs.Prelude.{◌≡◌, ◌+◌, ◌<◌, ◌≤◌, ℕ, map}
use Rattle.std.specs.FinMap.{entries, from_sorted}
use Rattle.std.specs.Option.{option_map}
use Rattle.sadb.specs.Database.{Database, PairMap}
use Rattle.sadb.specs.declared.pair.Pair.{Pair}
use Rattle.association.specs.declared.phase.Association.{Association}
use Rattle.moments.specs.declared.resent.Resent.{Resent}
use Rattle.moments.specs.declared.ticking.Ticked.{Ticked}
use Rattle.ike.specs.Machines.{Held, Machine}
use Rattle.ike.specs.Orders as orders
use Rattle.ike.specs.Steps as ike
use Rattle.ike.specs.declared.output.IkeOutput.{IkeOutput}
use Rattle.ike.specs.declared.output.IkeOutput.TheVariants as output
use Rattle.ike.specs.declared.output.MadeChild.{MadeChild}
use Rattle.ike.specs.declared.output.Mark.{Mark}
use Rattle.ike.specs.declared.output.Stepped.{Stepped}
use Rattle.ike.specs.declared.output.Trace.{Trace}
use Rattle.gateway.specs.Inputs.{Input}
use Rattle.gateway.specs.Inputs as input
use Rattle.gateway.specs.Outputs.{OutputView}
use Rattle.gateway.specs.Outputs as said
use Rattle.gateway.specs.States.{State}

-- Serials become others in the same order, and from the next one on that is given they go on in a row.
pub record IsRenaming (renaming : ℕ → ℕ) (next : ℕ) : Type 0 where
  pub in_order : (one later : ℕ) → one < later → renaming one < renaming later
  pub goes_on : (serial : ℕ) → next ≤ serial → renaming (serial + 1) ≡ renaming serial + 1

-- ---- what is held

abbrev pub renamed_association : (ℕ → ℕ) → Association → Association
renamed_association renaming a = record a { serial = renaming a.serial }

abbrev pub renamed_pair : (ℕ → ℕ) → Pair → Pair
renamed_pair renaming p = record p { ike = renaming p.ike }

abbrev pub renamed_entry : (ℕ → ℕ) → ℕ × Pair → ℕ × Pair
renamed_entry renaming e = (e.0, renamed_pair renaming e.1)

-- The SA pairs by their own serials, which stay.
abbrev pub renamed_pairs : (ℕ → ℕ) → PairMap → PairMap
renamed_pairs renaming pairs = from_sorted (map (renamed_entry renaming) (entries pairs))

abbrev pub renamed_table : (ℕ → ℕ) → Database → Database
renamed_table renaming d = record d { pairs = renamed_pairs renaming d.pairs }

abbrev pub renamed_held : (ℕ → ℕ) → Held → Held
renamed_held renaming held = record { next = renaming held.next; associations = map (renamed_association renaming) held.associations }

abbrev pub renamed_machine : (ℕ → ℕ) → Machine → Machine
renamed_machine renaming machine = record machine { held = renamed_held renaming machine.held }

abbrev pub renamed_state : {C : Type 0} → (ℕ → ℕ) → State C → State C
renamed_state {C} renaming s = record s { machine = renamed_machine renaming s.machine; table = renamed_table renaming s.table }

-- ---- what is taken

abbrev pub renamed_order : (ℕ → ℕ) → orders.OrderView → orders.OrderView
renamed_order renaming (orders.Probe ike) = orders.Probe (renaming ike)
renamed_order renaming (orders.DeleteChild child) = orders.DeleteChild child
renamed_order renaming (orders.DeleteIke ike) = orders.DeleteIke (renaming ike)

abbrev pub renamed_view : (ℕ → ℕ) → ike.InputView → ike.InputView
renamed_view renaming (ike.Message from octets fresh) = ike.Message from octets fresh
renamed_view renaming (ike.Start serial place fresh) = ike.Start (option_map renaming serial) place fresh
renamed_view renaming (ike.Order what fresh) = ike.Order (renamed_order renaming what) fresh
renamed_view renaming (ike.Secret secret) = ike.Secret secret
renamed_view renaming (ike.Tick moment) = ike.Tick moment

abbrev pub renamed_input : (ℕ → ℕ) → Input → Input
renamed_input renaming (input.Ike from octets fresh) = input.Ike from octets fresh
renamed_input renaming (input.Esp octets) = input.Esp octets
renamed_input renaming (input.Outward packet) = input.Outward packet
renamed_input renaming (input.Inward packet) = input.Inward packet
renamed_input renaming (input.Start serial entry fresh) = input.Start (option_map renaming serial) entry fresh
renamed_input renaming (input.Probe serial fresh) = input.Probe (renaming serial) fresh
renamed_input renaming (input.DeleteChild child fresh) = input.DeleteChild child fresh
renamed_input renaming (input.DeleteIke serial fresh) = input.DeleteIke (renaming serial) fresh
renamed_input renaming (input.Secret secret) = input.Secret secret
renamed_input renaming (input.Tick moment) = input.Tick moment

-- ---- what is said

abbrev pub renamed_resent : (ℕ → ℕ) → Resent → Resent
renamed_resent renaming r = record r { ike = renaming r.ike }

abbrev pub renamed_ticked : (ℕ → ℕ) → Ticked → Ticked
renamed_ticked renaming ticked = record { requests = map (renamed_resent renaming) ticked.requests; closed = map renaming ticked.closed }

abbrev pub renamed_output : (ℕ → ℕ) → IkeOutput → IkeOutput
renamed_output renaming (output.Reply octets closed) = output.Reply octets (option_map renaming closed)
renamed_output renaming (output.Repeat octets) = output.Repeat octets
renamed_output renaming (output.Request ike octets) = output.Request (renaming ike) octets
renamed_output renaming (output.Counted ike child closed) = output.Counted (renaming ike) child (option_map renaming closed)
renamed_output renaming (output.Ticked ticked) = output.Ticked (renamed_ticked renaming ticked)
renamed_output renaming output.Done = output.Done
renamed_output renaming (output.Dropped fault) = output.Dropped fault

abbrev pub renamed_mark : (ℕ → ℕ) → Mark → Mark
renamed_mark renaming mark = record mark { ike = renaming mark.ike }

abbrev pub renamed_made : (ℕ → ℕ) → MadeChild → MadeChild
renamed_made renaming made = record made { ike = renaming made.ike }

abbrev pub renamed_trace : (ℕ → ℕ) → Trace → Trace
renamed_trace renaming trace = record {
  sent = option_map (renamed_mark renaming) trace.sent;
  keyed = option_map renaming trace.keyed;
  child = option_map (renamed_made renaming) trace.child;
  declined = trace.declined;
}

abbrev pub renamed_stepped : (ℕ → ℕ) → Stepped → Stepped
renamed_stepped renaming stepped = record { output = renamed_output renaming stepped.output; trace = renamed_trace renaming stepped.trace }

abbrev pub renamed_said : (ℕ → ℕ) → OutputView → OutputView
renamed_said renaming (said.Reply octets closed) = said.Reply octets (option_map renaming closed)
renamed_said renaming (said.Repeat octets) = said.Repeat octets
renamed_said renaming (said.Request ike octets) = said.Request (renaming ike) octets
renamed_said renaming (said.Counted ike child closed) = said.Counted (renaming ike) child (option_map renaming closed)
renamed_said renaming (said.Ticked requests closed) = said.Ticked (map (renamed_resent renaming) requests) (map renaming closed)
renamed_said renaming said.Done = said.Done
renamed_said renaming (said.Up child number packet) = said.Up child number packet
renamed_said renaming (said.Dummy child number) = said.Dummy child number
renamed_said renaming (said.Sealed child number octets) = said.Sealed child number octets
renamed_said renaming (said.Clear packet) = said.Clear packet
renamed_said renaming said.Discarded = said.Discarded
renamed_said renaming (said.Dropped why) = said.Dropped why
renamed_said renaming (said.Refused why) = said.Refused why
