-- What follows from the definitions of a step.
use Rattle.std.proofs.Common.{◌≡◌, List, true, false, refl, sym, ap, ◌∙◌, subst, inl, inr, arith}
use Rattle.base.specs.Octets.{Octets}
use Rattle.esp.specs.declared.fault.EspFault.TheVariants as esp
use Rattle.policy.specs.declared.entry.Entry.{Entry}
use Rattle.sadb.specs.Database.{Database, IsAsBefore}
use Rattle.effects.specs.Taking.{Meaning}
use Rattle.ike.specs.Machines.{Machine}
use Rattle.ike.specs.Steps as ike
use Rattle.ike.specs.Orders as orders
use Rattle.ike.specs.declared.output.IkeOutput.{IkeOutput}
use Rattle.ike.specs.declared.output.IkeOutput.TheVariants as made
use Rattle.ike.specs.declared.output.Trace.{Trace}
use Rattle.traffic.specs.Admitting.{Admits}
use Rattle.traffic.specs.Faults.{is_after_judging}
use Rattle.traffic.specs.Outcomes as traffic
use Rattle.traffic.specs.Receiving.{Receives, TakesOneNumber}
use Rattle.policy.specs.declared.entry.Action.TheVariants.{Protect}
use Rattle.policy.specs.declared.flow.Flow.{Flow}
use Rattle.policy.specs.declared.policy.Direction.TheVariants as direction
use Rattle.traffic.specs.Sending.{IsDecided, Protects, Sends}
use Rattle.traffic.specs.declared.fault.PacketFault.{PacketFault}
use Rattle.traffic.specs.declared.fault.PacketFault.TheVariants.{UnknownAssociation, Esp, Inner, OutsideSelectors}
use Rattle.gateway.specs.Faults.{is_after_judging_packet}
use Rattle.gateway.specs.Inputs.{Input}
use Rattle.gateway.specs.Inputs as input
use Rattle.gateway.specs.Outputs.{OutputView, Clear, Dropped, Refused, view_of_ike, view_of_outcome}
use Rattle.gateway.specs.States.{State}
use Rattle.gateway.specs.Steps.{AdmitsPacket, DoesInput, GoesSealed, SendsPacket, Steps, StepsIke}
use Rattle.gateway.specs.declared.fault.Reason.{Reason}
use Rattle.gateway.specs.declared.fault.Reason.TheVariants as reason

-- the outcome of a packet that went in the clear
clear_outcome : (outcome : traffic.Outcome) (octets : Octets) → Clear octets ≡ view_of_outcome outcome → outcome ≡ traffic.Clear octets
clear_outcome (traffic.Up child number packet) octets e = absurd (cc e)
clear_outcome (traffic.Dummy child number) octets e = absurd (cc e)
clear_outcome (traffic.Sealed child number packet) octets e = absurd (cc e)
clear_outcome (traffic.Clear packet) octets e = cc e
clear_outcome traffic.Discarded octets e = absurd (cc e)
clear_outcome (traffic.Dropped fault) octets e = absurd (cc e)

-- the outcome of a packet that was dropped
pub record IsDropped (outcome : traffic.Outcome) (why : Reason) : Type 0 where
  pub fault : PacketFault
  pub outcome_is : outcome ≡ traffic.Dropped fault
  pub why_is : why ≡ reason.Packet fault

dropped_outcome : (outcome : traffic.Outcome) (why : Reason) → Dropped why ≡ view_of_outcome outcome → IsDropped outcome why
dropped_outcome (traffic.Up child number packet) why e = absurd (cc e)
dropped_outcome (traffic.Dummy child number) why e = absurd (cc e)
dropped_outcome (traffic.Sealed child number packet) why e = absurd (cc e)
dropped_outcome (traffic.Clear packet) why e = absurd (cc e)
dropped_outcome traffic.Discarded why e = absurd (cc e)
dropped_outcome (traffic.Dropped fault) why e = record { fault = fault; outcome_is = refl; why_is = cc e }

not_refused : (outcome : traffic.Outcome) (why : Reason) → Refused why ≡ view_of_outcome outcome → ⊥
not_refused (traffic.Up child number packet) why e = cc e
not_refused (traffic.Dummy child number) why e = cc e
not_refused (traffic.Sealed child number packet) why e = cc e
not_refused (traffic.Clear packet) why e = cc e
not_refused traffic.Discarded why e = cc e
not_refused (traffic.Dropped fault) why e = cc e

not_refused_by_ike : (output : IkeOutput) (why : Reason) → Refused why ≡ view_of_ike output → ⊥
not_refused_by_ike (made.Reply octets closed) why e = cc e
not_refused_by_ike (made.Repeat octets) why e = cc e
not_refused_by_ike (made.Request serial octets) why e = cc e
not_refused_by_ike (made.Counted serial child closed) why e = cc e
not_refused_by_ike (made.Ticked ticked) why e = cc e
not_refused_by_ike made.Done why e = cc e
not_refused_by_ike (made.Dropped fault) why e = cc e

sent_clear : (entries : List Entry) (old : Database) (packet octets : Octets) (new : Database) → SendsPacket entries old packet (Clear octets) new
    → Sends old entries packet (traffic.Clear octets) new
sent_clear entries old packet octets new (inl s) =
    subst (λ (o : traffic.Outcome). Sends old entries packet o new) (clear_outcome s.outcome octets s.output) s.sends
sent_clear entries old packet octets new (inr s) = absurd (cc s.output)

admitted_clear : (entries : List Entry) (packet octets : Octets) → AdmitsPacket entries packet (Clear octets) → Admits entries packet (traffic.Clear octets)
admitted_clear entries packet octets s = subst (λ (o : traffic.Outcome). Admits entries packet o) (clear_outcome s.outcome octets s.output) s.admits

pub clear_outward : {C : Type 0} (meaning : Meaning) (packet octets : Octets) (old new : State C)
    → Steps meaning (input.Outward packet) old (Clear octets) new → Sends old.table old.entries packet (traffic.Clear octets) new.table
clear_outward {C} meaning packet octets old new s = sent_clear old.entries old.table packet octets new.table s.traces.does.1

pub clear_inward : {C : Type 0} (meaning : Meaning) (packet octets : Octets) (old new : State C)
    → Steps meaning (input.Inward packet) old (Clear octets) new → Admits old.entries packet (traffic.Clear octets)
clear_inward {C} meaning packet octets old new s = admitted_clear old.entries packet octets s.traces.does.1

-- where the machine and the table are as they were, all is
all_kept : {C : Type 0} (old new : State C) → new ≡ record old { machine = new.machine; table = new.table } → new.machine ≡ old.machine → new.table ≡ old.table → new ≡ old
all_kept {C} old new kept machine table =
    kept
    ∙ ap (λ (m : Machine). record old { machine = m; table = new.table }) machine
    ∙ ap (λ (t : Database). record old { table = t }) table

-- where the machine is, all but the table is
but_the_table : {C : Type 0} (old new : State C) → new ≡ record old { machine = new.machine; table = new.table } → new.machine ≡ old.machine → new ≡ record old { table = new.table }
but_the_table {C} old new kept machine = kept ∙ ap (λ (m : Machine). record old { machine = m; table = new.table }) machine

-- what a refusal leaves
record AreKept (old : Machine) (table : Database) (new : Machine) (new_table : Database) : Type 0 where
  pub machine : new ≡ old
  pub pairs : IsAsBefore table new_table

as_before : (old new : Database) → new ≡ old → IsAsBefore old new
as_before old new is = subst (λ (d : Database). IsAsBefore old d) (sym is) (record { content = refl; room = omega arith })

ike_kept : (meaning : Meaning) (entries : List Entry) (given : ike.InputView) (old : Machine) (table : Database) (why : Reason) (trace : Trace) (new : Machine) (new_table : Database)
    → StepsIke meaning entries given old table (Refused why) trace new new_table → AreKept old table new new_table
ike_kept meaning entries given old table why trace new new_table (inl s) = absurd (not_refused_by_ike s.stepped.output why s.output)
ike_kept meaning entries given old table why trace new new_table (inr s) = record { machine = s.machine; pairs = s.pairs }

sending_kept : (entries : List Entry) (old : Database) (packet : Octets) (why : Reason) (new : Database) → SendsPacket entries old packet (Refused why) new → new ≡ old
sending_kept entries old packet why new (inl s) = absurd (not_refused s.outcome why s.output)
sending_kept entries old packet why new (inr s) = s.unchanged

kept_by_refusal : (meaning : Meaning) (entries : List Entry) (given : Input) (old : Machine) (table : Database) (why : Reason) (trace : Trace) (new : Machine) (new_table : Database)
    → DoesInput meaning entries given old table (Refused why) trace new new_table → AreKept old table new new_table
kept_by_refusal meaning entries (input.Ike from octets fresh) old table why trace new new_table s =
    ike_kept meaning entries (ike.Message from octets fresh) old table why trace new new_table s
kept_by_refusal meaning entries (input.Start serial entry fresh) old table why trace new new_table s =
    ike_kept meaning entries (ike.Start serial entry fresh) old table why trace new new_table s
kept_by_refusal meaning entries (input.Probe serial fresh) old table why trace new new_table s =
    ike_kept meaning entries (ike.Order (orders.Probe serial) fresh) old table why trace new new_table s
kept_by_refusal meaning entries (input.DeleteChild serial fresh) old table why trace new new_table s =
    ike_kept meaning entries (ike.Order (orders.DeleteChild serial) fresh) old table why trace new new_table s
kept_by_refusal meaning entries (input.DeleteIke serial fresh) old table why trace new new_table s =
    ike_kept meaning entries (ike.Order (orders.DeleteIke serial) fresh) old table why trace new new_table s
kept_by_refusal meaning entries (input.Secret secret) old table why trace new new_table s =
    ike_kept meaning entries (ike.Secret secret) old table why trace new new_table s
kept_by_refusal meaning entries (input.Tick moment) old table why trace new new_table s =
    ike_kept meaning entries (ike.Tick moment) old table why trace new new_table s
kept_by_refusal meaning entries (input.Esp octets) old table why trace new new_table s = absurd (not_refused s.1.outcome why s.1.output)
kept_by_refusal meaning entries (input.Outward packet) old table why trace new new_table s =
    record { machine = s.0.machine; pairs = as_before table new_table (sending_kept entries table packet why new_table s.1) }
kept_by_refusal meaning entries (input.Inward packet) old table why trace new new_table s = absurd (not_refused s.1.outcome why s.1.output)

pub refused_keeps : {C : Type 0} (meaning : Meaning) (given : Input) (why : Reason) (old new : State C)
    → Steps meaning given old (Refused why) new → (new ≡ record old { table = new.table }) × IsAsBefore old.table new.table
refused_keeps {C} meaning given why old new s =
    let k = kept_by_refusal meaning old.entries given old.machine old.table why s.trace new.machine new.table s.traces.does in
    (but_the_table old new s.traces.kept k.machine, k.pairs)

pub steps_keep : {C : Type 0} (meaning : Meaning) (given : Input) (said : OutputView) (old new : State C)
    → Steps meaning given old said new → (new.entries ≡ old.entries) × (new.caller ≡ old.caller)
steps_keep {C} meaning given said old new s =
    (ap (λ (g : State C). g.entries) s.traces.kept, ap (λ (g : State C). g.caller) s.traces.kept)

-- what was received, where it was dropped
pub record IsDroppedPacket (old : Database) (packet : Octets) (why : Reason) (new : Database) : Type 0 where
  pub fault : PacketFault
  pub receives : Receives old packet (traffic.Dropped fault) new
  pub why_is : why ≡ reason.Packet fault

pub dropped_packet : {C : Type 0} (meaning : Meaning) (octets : Octets) (why : Reason) (old new : State C)
    → Steps meaning (input.Esp octets) old (Dropped why) new → IsDroppedPacket old.table octets why new.table
dropped_packet {C} meaning octets why old new s =
    let r = s.traces.does.1 in
    let d = dropped_outcome r.outcome why r.output in
    record {
      fault = d.fault;
      receives = subst (λ (o : traffic.Outcome). Receives old.table octets o new.table) d.outcome_is r.receives;
      why_is = d.why_is;
    }

pub judged_takes : {C : Type 0} → ((old new : Database) (packet : Octets) (fault : PacketFault) → Receives old packet (traffic.Dropped fault) new → is_after_judging fault ≡ true → TakesOneNumber old packet new)
    → (meaning : Meaning) (octets : Octets) (why : Reason) (old new : State C) → Steps meaning (input.Esp octets) old (Dropped why) new → is_after_judging_packet why ≡ true
    → (new ≡ record old { table = new.table }) × TakesOneNumber old.table octets new.table
judged_takes {C} law meaning octets why old new s after =
    let d = dropped_packet meaning octets why old new s in
    (but_the_table old new s.traces.kept s.traces.does.0.machine, law old.table new.table octets d.fault d.receives (sym (ap is_after_judging_packet d.why_is) ∙ after))

pub unjudged_keeps : {C : Type 0} → ((old new : Database) (packet : Octets) (fault : PacketFault) → Receives old packet (traffic.Dropped fault) new → is_after_judging fault ≡ false → new ≡ old)
    → (meaning : Meaning) (octets : Octets) (why : Reason) (old new : State C) → Steps meaning (input.Esp octets) old (Dropped why) new → is_after_judging_packet why ≡ false
    → new ≡ old
unjudged_keeps {C} law meaning octets why old new s after =
    let d = dropped_packet meaning octets why old new s in
    all_kept old new s.traces.kept s.traces.does.0.machine (law old.table new.table octets d.fault d.receives (sym (ap is_after_judging_packet d.why_is) ∙ after))

dropped_sending_keeps : (old : Database) (policy : List Entry) (packet : Octets) (fault : PacketFault) (new : Database) → Sends old policy packet (traffic.Dropped fault) new → new ≡ old
dropped_sending_keeps old policy packet (Inner f) new is = is.1
dropped_sending_keeps old policy packet UnknownAssociation new is = is.protects.1
dropped_sending_keeps old policy packet (Esp esp.Exhausted) new is = is.protects.1
dropped_sending_keeps old policy packet (Esp esp.PayloadSize) new is = absurd is.protects
dropped_sending_keeps old policy packet (Esp esp.BadLength) new is = absurd is.protects
dropped_sending_keeps old policy packet (Esp esp.Old) new is = absurd is.protects
dropped_sending_keeps old policy packet (Esp esp.Replayed) new is = absurd is.protects
dropped_sending_keeps old policy packet (Esp esp.BadNumber) new is = absurd is.protects
dropped_sending_keeps old policy packet (Esp esp.BadIcv) new is = absurd is.protects
dropped_sending_keeps old policy packet (Esp esp.BadPadding) new is = absurd is.protects
dropped_sending_keeps old policy packet (Esp esp.Memory) new is = absurd is.protects
dropped_sending_keeps old policy packet OutsideSelectors new is = absurd is.protects

dropped_keeps : (entries : List Entry) (old : Database) (packet : Octets) (why : Reason) (new : Database) → SendsPacket entries old packet (Dropped why) new → new ≡ old
dropped_keeps entries old packet why new (inl s) =
    let d = dropped_outcome s.outcome why s.output in
    dropped_sending_keeps old entries packet d.fault new (subst (λ (o : traffic.Outcome). Sends old entries packet o new) d.outcome_is s.sends)
dropped_keeps entries old packet why new (inr s) = absurd (cc s.output)

pub dropped_outward : {C : Type 0} (meaning : Meaning) (packet : Octets) (why : Reason) (old new : State C) → Steps meaning (input.Outward packet) old (Dropped why) new → new ≡ old
dropped_outward {C} meaning packet why old new s =
    all_kept old new s.traces.kept s.traces.does.0.machine (dropped_keeps old.entries old.table packet why new.table s.traces.does.1)

pub inward_keeps : {C : Type 0} (meaning : Meaning) (packet : Octets) (said : OutputView) (old new : State C) → Steps meaning (input.Inward packet) old said new → new ≡ old
inward_keeps {C} meaning packet said old new s = all_kept old new s.traces.kept s.traces.does.0.machine s.traces.does.2

-- a packet that is to be protected
pub protected_goes_sealed : {C : Type 0} → ((old new : Database) (policy : List Entry) (packet : Octets) (flow : Flow) (outcome : traffic.Outcome)
    → IsDecided policy direction.Outward packet flow Protect → Sends old policy packet outcome new → Protects old flow packet outcome new)
    → (meaning : Meaning) (packet : Octets) (flow : Flow) (said : OutputView) (old new : State C) → IsDecided old.entries direction.Outward packet flow Protect
    → Steps meaning (input.Outward packet) old said new → GoesSealed flow packet old said new
protected_goes_sealed {C} law meaning packet flow said old new decided is =
    elim is.traces.does.1 [
      | inl sent ↦ inl (sent.outcome, law old.table new.table old.entries packet flow sent.outcome decided sent.sends, sent.output)
      | inr lacks ↦ inr lacks.output
    ]
