-- One step of a gateway: which protocol an input goes to, and what stays unchanged (RFC 4301 sections 5.1
-- and 5.2).
use Rattle.std.specs.Prelude.{◌≡◌, ◌⊎◌, List}
use Rattle.base.specs.Octets.{Octets}
use Rattle.policy.specs.declared.entry.Entry.{Entry}
use Rattle.policy.specs.declared.flow.Flow.{Flow}
use Rattle.sadb.specs.Database.{Database, IsAsBefore}
use Rattle.effects.specs.Taking.{Meaning}
use Rattle.ike.specs.Machines.{Machine}
use Rattle.ike.specs.Outputs.{no_trace}
use Rattle.ike.specs.Steps as ike
use Rattle.ike.specs.Orders as orders
use Rattle.ike.specs.declared.fault.IkeFault.{IkeFault}
use Rattle.ike.specs.declared.output.Stepped.{Stepped}
use Rattle.ike.specs.declared.output.Trace.{Trace}
use Rattle.traffic.specs.Admitting.{Admits}
use Rattle.traffic.specs.Outcomes.{Outcome}
use Rattle.traffic.specs.Receiving.{Receives}
use Rattle.traffic.specs.Sending.{IsToBeSealed, Protects, Sends}
use Rattle.gateway.specs.Inputs.{Input}
use Rattle.gateway.specs.Inputs as input
use Rattle.gateway.specs.Outputs.{OutputView, Refused, view_of_ike, view_of_outcome}
use Rattle.gateway.specs.States.{State}
use Rattle.gateway.specs.declared.fault.Reason.TheVariants as reason

-- the IKE machine takes a step
pub record AnswersIke (meaning : Meaning) (entries : List Entry) (given : ike.InputView) (old : Machine) (table : Database) (said : OutputView) (trace : Trace) (new : Machine) (new_table : Database) : Type 0 where
  pub stepped : Stepped
  pub steps : ike.Steps meaning entries given old table stepped new new_table
  pub output : said ≡ view_of_ike stepped.output
  pub traced : trace ≡ stepped.trace

-- or it refuses the input: only the table's spare capacity may have grown
pub record RefusesIke (meaning : Meaning) (entries : List Entry) (given : ike.InputView) (old : Machine) (table : Database) (said : OutputView) (trace : Trace) (new : Machine) (new_table : Database) : Type 0 where
  pub fault : IkeFault
  pub refuses : ike.Refuses meaning entries given old table fault
  pub output : said ≡ Refused (reason.Ike fault)
  pub traced : trace ≡ no_trace
  pub machine : new ≡ old
  pub pairs : IsAsBefore table new_table

abbrev pub StepsIke : Meaning → List Entry → ike.InputView → Machine → Database → OutputView → Trace → Machine → Database → Type 0
StepsIke meaning entries given old table said trace new new_table =
    AnswersIke meaning entries given old table said trace new new_table
    ⊎ RefusesIke meaning entries given old table said trace new new_table

-- an ESP packet came
pub record ReceivesPacket (old : Database) (packet : Octets) (said : OutputView) (new : Database) : Type 0 where
  pub outcome : Outcome
  pub receives : Receives old packet outcome new
  pub output : said ≡ view_of_outcome outcome

-- a packet is on its way out, and there was memory for its ESP packet
pub record SendsWithMemory (entries : List Entry) (old : Database) (packet : Octets) (said : OutputView) (new : Database) : Type 0 where
  pub outcome : Outcome
  pub sends : Sends old entries packet outcome new
  pub output : said ≡ view_of_outcome outcome

-- or there was none
pub record LacksMemory (entries : List Entry) (old : Database) (packet : Octets) (said : OutputView) (new : Database) : Type 0 where
  pub sealable : IsToBeSealed old entries packet
  pub output : said ≡ Refused reason.Memory
  pub unchanged : new ≡ old

abbrev pub SendsPacket : List Entry → Database → Octets → OutputView → Database → Type 0
SendsPacket entries old packet said new = SendsWithMemory entries old packet said new ⊎ LacksMemory entries old packet said new

-- a packet came in unprotected
pub record AdmitsPacket (entries : List Entry) (packet : Octets) (said : OutputView) : Type 0 where
  pub outcome : Outcome
  pub admits : Admits entries packet outcome
  pub output : said ≡ view_of_outcome outcome

-- no message of IKE was sent, and nothing of IKE made or changed
pub record LeavesIke (old : Machine) (trace : Trace) (new : Machine) : Type 0 where
  pub machine : new ≡ old
  pub traced : trace ≡ no_trace

-- what an input does to the IKE machine and to the table
abbrev pub DoesInput : Meaning → List Entry → Input → Machine → Database → OutputView → Trace → Machine → Database → Type 0
DoesInput meaning entries (input.Ike from octets fresh) old table said trace new new_table =
    StepsIke meaning entries (ike.Message from octets fresh) old table said trace new new_table
DoesInput meaning entries (input.Start serial entry fresh) old table said trace new new_table =
    StepsIke meaning entries (ike.Start serial entry fresh) old table said trace new new_table
DoesInput meaning entries (input.Probe serial fresh) old table said trace new new_table =
    StepsIke meaning entries (ike.Order (orders.Probe serial) fresh) old table said trace new new_table
DoesInput meaning entries (input.DeleteChild serial fresh) old table said trace new new_table =
    StepsIke meaning entries (ike.Order (orders.DeleteChild serial) fresh) old table said trace new new_table
DoesInput meaning entries (input.DeleteIke serial fresh) old table said trace new new_table =
    StepsIke meaning entries (ike.Order (orders.DeleteIke serial) fresh) old table said trace new new_table
DoesInput meaning entries (input.Secret secret) old table said trace new new_table =
    StepsIke meaning entries (ike.Secret secret) old table said trace new new_table
DoesInput meaning entries (input.Tick moment) old table said trace new new_table =
    StepsIke meaning entries (ike.Tick moment) old table said trace new new_table
DoesInput meaning entries (input.Esp octets) old table said trace new new_table =
    LeavesIke old trace new × ReceivesPacket table octets said new_table
DoesInput meaning entries (input.Outward packet) old table said trace new new_table =
    LeavesIke old trace new × SendsPacket entries table packet said new_table
DoesInput meaning entries (input.Inward packet) old table said trace new new_table =
    LeavesIke old trace new × AdmitsPacket entries packet said × (new_table ≡ table)

-- One step, with its trace. The policy and the provider stay as they are.
pub record Traces {C : Type 0} (meaning : Meaning) (given : Input) (old : State C) (said : OutputView) (trace : Trace) (new : State C) : Type 0 where
  pub kept : new ≡ record old { machine = new.machine; table = new.table }
  pub does : DoesInput meaning old.entries given old.machine old.table said trace new.machine new.table

-- one step
pub record Steps {C : Type 0} (meaning : Meaning) (given : Input) (old : State C) (said : OutputView) (new : State C) : Type 0 where
  pub trace : Trace
  pub traces : Traces meaning given old said trace new

-- a packet that is to be protected is sealed, or its input is refused on allocation failure
abbrev pub GoesSealed : {C : Type 0} → Flow → Octets → State C → OutputView → State C → Type 0
GoesSealed {C} flow packet old said new =
    ((outcome : Outcome) × (Protects old.table flow packet outcome new.table) × (said ≡ view_of_outcome outcome)) ⊎ (said ≡ Refused reason.Memory)
