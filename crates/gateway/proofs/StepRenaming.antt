-- A step of a gateway is one under other serials of its IKE SAs, too.
use Rattle.std.proofs.Common.{◌≡◌, ◌<◌, inl, inr, ℕ, List, refl, ap, ◌∙◌}
use Rattle.policy.specs.declared.entry.Entry.{Entry}
use Rattle.sadb.specs.Database.{Database}
use Rattle.effects.specs.Taking.{Meaning}
use Rattle.ike.specs.Machines.{Machine, SERIAL_END}
use Rattle.ike.specs.Orders as orders
use Rattle.ike.specs.Steps as ike
use Rattle.ike.specs.declared.output.IkeOutput.{IkeOutput}
use Rattle.ike.specs.declared.output.IkeOutput.TheVariants as output
use Rattle.ike.specs.declared.output.Trace.{Trace}
use Rattle.traffic.specs.Outcomes.{Outcome}
use Rattle.traffic.specs.Outcomes as outcome
use Rattle.gateway.specs.Inputs.{Input}
use Rattle.gateway.specs.Inputs as input
use Rattle.gateway.specs.Outputs.{view_of_ike, view_of_outcome, OutputView}
use Rattle.gateway.specs.States.{State}
use Rattle.gateway.specs.Steps.{AdmitsPacket, DoesInput, LeavesIke, ReceivesPacket, SendsPacket, Steps, StepsIke, Traces}
use Rattle.gateway.specs.Renaming.{renamed_input, renamed_machine, renamed_output, renamed_said, renamed_state, renamed_stepped, renamed_table, renamed_trace, renamed_view, IsRenaming}
use Rattle.gateway.proofs.RenamedLaws.{RenamedLaws}
use Rattle.gateway.proofs.PacketRenaming.{renamed_receiving, renamed_sending}
use Rattle.gateway.proofs.OrderRenaming.{renamed_before}
use Rattle.gateway.proofs.MachineRenaming.{renamed_refusal, renamed_step}

-- ---- what is said

said_of_ike : (r : ℕ → ℕ) (o : IkeOutput) → renamed_said r (view_of_ike o) ≡ view_of_ike (renamed_output r o)
said_of_ike r (output.Reply octets closed) = refl
said_of_ike r (output.Repeat octets) = refl
said_of_ike r (output.Request serial octets) = refl
said_of_ike r (output.Counted serial child closed) = refl
said_of_ike r (output.Ticked ticked) = refl
said_of_ike r output.Done = refl
said_of_ike r (output.Dropped f) = refl

said_of_packet : (r : ℕ → ℕ) (o : Outcome) → renamed_said r (view_of_outcome o) ≡ view_of_outcome o
said_of_packet r (outcome.Up child number packet) = refl
said_of_packet r (outcome.Dummy child number) = refl
said_of_packet r (outcome.Sealed child number octets) = refl
said_of_packet r (outcome.Clear packet) = refl
said_of_packet r outcome.Discarded = refl
said_of_packet r (outcome.Dropped f) = refl

-- what is said of a packet names no IKE SA
received_said : (r : ℕ → ℕ) (old : Database) (packet : List ℕ) (said : OutputView) (new : Database) → ReceivesPacket old packet said new → ReceivesPacket old packet (renamed_said r said) new
received_said r old packet said new is = record { outcome = is.outcome; receives = is.receives; output = ap (renamed_said r) is.output ∙ said_of_packet r is.outcome }

sent_said : (r : ℕ → ℕ) (entries : List Entry) (old : Database) (packet : List ℕ) (said : OutputView) (new : Database) → SendsPacket entries old packet said new → SendsPacket entries old packet (renamed_said r said) new
sent_said r entries old packet said new (inl is) = inl (record { outcome = is.outcome; sends = is.sends; output = ap (renamed_said r) is.output ∙ said_of_packet r is.outcome })
sent_said r entries old packet said new (inr is) = inr (record { sealable = is.sealable; output = ap (renamed_said r) is.output; unchanged = is.unchanged })

admitted_said : (r : ℕ → ℕ) (entries : List Entry) (packet : List ℕ) (said : OutputView) → AdmitsPacket entries packet said → AdmitsPacket entries packet (renamed_said r said)
admitted_said r entries packet said is = record { outcome = is.outcome; admits = is.admits; output = ap (renamed_said r) is.output ∙ said_of_packet r is.outcome }

-- ---- one input

renamed_leaving : (r : ℕ → ℕ) (old : Machine) (trace : Trace) (new : Machine) → LeavesIke old trace new → LeavesIke (renamed_machine r old) (renamed_trace r trace) (renamed_machine r new)
renamed_leaving r old trace new is = record { machine = ap (renamed_machine r) is.machine; traced = ap (renamed_trace r) is.traced }

module _ (r : ℕ → ℕ) (laws : RenamedLaws r) (meaning : Meaning) (entries : List Entry) (old : Machine) (renaming : IsRenaming r old.held.next) (before : old.held.next < SERIAL_END) (left : r old.held.next < SERIAL_END) (table : Database) (said : OutputView) (trace : Trace) (new : Machine) (new_table : Database) where
  renamed_ike : (given : ike.InputView) → StepsIke meaning entries given old table said trace new new_table
      → StepsIke meaning entries (renamed_view r given) (renamed_machine r old) (renamed_table r table) (renamed_said r said) (renamed_trace r trace) (renamed_machine r new) (renamed_table r new_table)
  renamed_ike given (inl is) = inl (record {
    stepped = renamed_stepped r is.stepped;
    steps = renamed_step r laws meaning entries old renaming before left table given is.stepped new new_table is.steps;
    output = ap (renamed_said r) is.output ∙ said_of_ike r is.stepped.output;
    traced = ap (renamed_trace r) is.traced;
  })
  renamed_ike given (inr is) = inr (record {
    fault = is.fault;
    refuses = renamed_refusal r laws meaning entries old renaming before left table given is.fault is.refuses;
    output = ap (renamed_said r) is.output;
    traced = ap (renamed_trace r) is.traced;
    machine = ap (renamed_machine r) is.machine;
    pairs = renamed_before r table new_table is.pairs;
  })

  renamed_does : (given : Input) → DoesInput meaning entries given old table said trace new new_table
      → DoesInput meaning entries (renamed_input r given) (renamed_machine r old) (renamed_table r table) (renamed_said r said) (renamed_trace r trace) (renamed_machine r new) (renamed_table r new_table)
  renamed_does (input.Ike from octets fresh) is = renamed_ike (ike.Message from octets fresh) is
  renamed_does (input.Start serial entry fresh) is = renamed_ike (ike.Start serial entry fresh) is
  renamed_does (input.Probe serial fresh) is = renamed_ike (ike.Order (orders.Probe serial) fresh) is
  renamed_does (input.DeleteChild child fresh) is = renamed_ike (ike.Order (orders.DeleteChild child) fresh) is
  renamed_does (input.DeleteIke serial fresh) is = renamed_ike (ike.Order (orders.DeleteIke serial) fresh) is
  renamed_does (input.Secret secret) is = renamed_ike (ike.Secret secret) is
  renamed_does (input.Tick moment) is = renamed_ike (ike.Tick moment) is
  renamed_does (input.Esp octets) is =
      (renamed_leaving r old trace new is.0, received_said r (renamed_table r table) octets said (renamed_table r new_table) (renamed_receiving r laws table octets said new_table is.1))
  renamed_does (input.Outward packet) is =
      (renamed_leaving r old trace new is.0, sent_said r entries (renamed_table r table) packet said (renamed_table r new_table) (renamed_sending r laws entries table packet said new_table is.1))
  renamed_does (input.Inward packet) is = (renamed_leaving r old trace new is.0, admitted_said r entries packet said is.1, ap (renamed_table r) is.2)

-- ---- one step

pub renamed_traces : (r : ℕ → ℕ) → RenamedLaws r → {C : Type 0} (meaning : Meaning) (given : Input) (old : State C) (said : OutputView) (trace : Trace) (new : State C)
    → IsRenaming r old.machine.held.next → old.machine.held.next < SERIAL_END → r old.machine.held.next < SERIAL_END → Traces meaning given old said trace new
    → Traces meaning (renamed_input r given) (renamed_state r old) (renamed_said r said) (renamed_trace r trace) (renamed_state r new)
renamed_traces r laws {C} meaning given old said trace new renaming before left is = record {
  kept = ap (λ (s : State C). renamed_state r s) is.kept;
  does = renamed_does r laws meaning old.entries old.machine renaming before left old.table said trace new.machine new.table given is.does;
}

-- and what is said of it
pub renamed_steps : (r : ℕ → ℕ) → RenamedLaws r → {C : Type 0} (meaning : Meaning) (given : Input) (old : State C) (said : OutputView) (new : State C)
    → IsRenaming r old.machine.held.next → old.machine.held.next < SERIAL_END → r old.machine.held.next < SERIAL_END → Steps meaning given old said new
    → Steps meaning (renamed_input r given) (renamed_state r old) (renamed_said r said) (renamed_state r new)
renamed_steps r laws {C} meaning given old said new renaming before left is =
    record { trace = renamed_trace r is.trace; traces = renamed_traces r laws meaning given old said is.trace new renaming before left is.traces }
