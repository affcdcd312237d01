use Rattle.std.proofs.Common.{refl, sym, subst}
use Rattle.effects.specs.Taking.{meaning_of}
use Rattle.gateway.specs.Inputs.{input_view}
use Rattle.gateway.specs.Outputs.{output_view}
use Rattle.gateway.specs.Staying.{HasWhatStays}
use Rattle.gateway.specs.States.{IsSoundState, State}
use Rattle.gateway.specs.Steps.{Traces}
use Rattle.gateway.proofs.machine.Gateway.traced_step_ahead.Goals as goal

pub invariant_of-self : goal.invariant_of-self
invariant_of-self g c =
    let i = c.self.inside in
    let old : State g.row.C.Denot = record { machine = i.ike; table = i.table; entries = i.policy; caller = i.caller } in
    let sound : IsSoundState old = subst (λ (s : State g.row.C.Denot). IsSoundState s) (sym c.self.view_is) (record {
      machine = c.invariants_hold.ensures.machine;
      table = c.invariants_hold.ensures.table;
      timely = c.invariants_hold.ensures.timely;
      reservations = c.invariants_hold.ensures.reservations;
    }) in
    let was : HasWhatStays old = subst (λ (s : State g.row.C.Denot). HasWhatStays s) (sym c.self.view_is) (record { standing = c.invariants_hold.ensures.standing; inside = c.invariants_hold.ensures.inside; replies = c.invariants_hold.ensures.replies; windows = c.invariants_hold.ensures.windows }) in
    let new : State g.row.C.Denot = record { machine = c.take.new.ike; table = c.take.new.table; entries = i.policy; caller = i.caller } in
    let traces : Traces (meaning_of g.C.Sealer g.C.Agreement g.C.Proof i.caller) (input_view c.args.input.now) old (output_view c.take.result.output) c.take.result.trace new =
    record { kept = refl; does = c.take.ensures.done } in (
      c.take.ensures.sound,
      c.take.ensures.timely,
      c.take.ensures.reservations,
      c.take.ensures.right,
      c.what_every_gateway_has_stays.ensures (meaning_of g.C.Sealer g.C.Agreement g.C.Proof) (input_view c.args.input.now) c.take.result.output c.take.result.trace old new sound traces was,
    )
