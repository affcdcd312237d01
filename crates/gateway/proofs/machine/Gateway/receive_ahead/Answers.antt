use Rattle.std.proofs.Common.{refl, sym, subst}
use Rattle.effects.specs.Taking.{meaning_of}
use Rattle.ike.specs.Outputs.{no_trace}
use Rattle.traffic.specs.Outcomes.{outcome_of_arrival}
use Rattle.gateway.specs.Inputs.{Esp}
use Rattle.gateway.specs.Outputs.{output_view, view_of_outcome, OutputView}
use Rattle.gateway.specs.Staying.{HasWhatStays}
use Rattle.gateway.specs.States.{IsSoundState, State}
use Rattle.gateway.specs.Steps.{ReceivesPacket, Traces}
use Rattle.gateway.proofs.StayingLemmas.{arrival_is, output_of_arrival}
use Rattle.gateway.proofs.machine.Gateway.receive_ahead.Goals as goal

pub invariant_of-self : goal.invariant_of-self
invariant_of-self g c =
    let i = c.self.inside in
    let old : State g.row.C.Denot = record { machine = i.ike; table = i.table; entries = i.policy; caller = i.caller } in
    let sound : IsSoundState old = subst (λ (s : State g.row.C.Denot). IsSoundState s) (sym c.self.view_is) (record {
      machine = c.invariants_hold.ensures.machine;
      table = c.invariants_hold.ensures.table;
      timely = c.invariants_hold.ensures.timely;
      reservations = c.invariants_hold.ensures.reservations;
    }) in
    let was : HasWhatStays old = subst (λ (s : State g.row.C.Denot). HasWhatStays s) (sym c.self.view_is) (record { standing = c.invariants_hold.ensures.standing; inside = c.invariants_hold.ensures.inside; replies = c.invariants_hold.ensures.replies; windows = c.invariants_hold.ensures.windows }) in
    let new : State g.row.C.Denot = record { machine = i.ike; table = c.receive.new.table; entries = i.policy; caller = i.caller } in
    let said = output_of_arrival c.receive.result in
    let received : ReceivesPacket i.table c.args.packet.now (output_view said) c.receive.new.table =
    subst (λ (v : OutputView). ReceivesPacket i.table c.args.packet.now v c.receive.new.table) (arrival_is c.receive.result) c.receive.ensures.received in
    let traces : Traces (meaning_of g.C.Sealer g.C.Agreement g.C.Proof i.caller) (Esp c.args.packet.now) old (output_view said) no_trace new =
    record { kept = refl; does = (record { machine = refl; traced = refl }, received) } in (
      c.receive.ensures.sound,
      c.self.invariant.1,
      c.receive.ensures.reservations,
      c.receive.ensures.right,
      c.what_every_gateway_has_stays.ensures (meaning_of g.C.Sealer g.C.Agreement g.C.Proof) (Esp c.args.packet.now) said no_trace old new sound traces was,
    )
