use Rattle.std.proofs.Common.{length, sym, subst}
use Rattle.effects.specs.Taking.{meaning_of}
use Rattle.ike.specs.Outputs.{no_trace}
use Rattle.gateway.specs.Inputs.{Outward}
use Rattle.gateway.specs.Rows.{LaysIn}
use Rattle.gateway.specs.Staying.{HasWhatStays}
use Rattle.gateway.specs.States.{IsSoundState, State}
use Rattle.gateway.specs.Steps.{Traces}
use Rattle.gateway.proofs.StayingLemmas.{stays_laid}
use Rattle.gateway.proofs.RowLemmas.{traces_laid}
use Rattle.gateway.proofs.machine.Gateway.lay_in.Goals as goal

pub invariant_of-self : goal.invariant_of-self
invariant_of-self g c =
    let i = c.self.inside in
    let old : State g.row.C.Denot = record { machine = i.ike; table = i.table; entries = i.policy; caller = i.caller } in
    let sound : IsSoundState old = subst (λ (s : State g.row.C.Denot). IsSoundState s) (sym c.self.view_is) (record {
      machine = c.invariants_hold.ensures.machine;
      table = c.invariants_hold.ensures.table;
      timely = c.invariants_hold.ensures.timely;
      reservations = c.invariants_hold.ensures.reservations;
    }) in
    let was : HasWhatStays old = subst (λ (s : State g.row.C.Denot). HasWhatStays s) (sym c.self.view_is) (record { standing = c.invariants_hold.ensures.standing; inside = c.invariants_hold.ensures.inside; replies = c.invariants_hold.ensures.replies; windows = c.invariants_hold.ensures.windows }) in (
      c.lay_in.ensures.sound,
      c.self.invariant.1,
      c.lay_in.ensures.reservations,
      c.lay_in.ensures.right,
      stays_laid (meaning_of g.C.Sealer g.C.Agreement g.C.Proof) c.what_every_gateway_has_stays.ensures c.args.packet.now c.args.room.now c.lay_in.result old c.lay_in.new.table c.lay_in.new.room sound c.lay_in.ensures.sent was,
    )

pub returns-clause-traced : goal.returns-clause-traced
returns-clause-traced g c =
    let i = c.self.inside in
    let old : State g.row.C.Denot = record { machine = i.ike; table = i.table; entries = i.policy; caller = i.caller } in
    let new : State g.row.C.Denot = record { machine = i.ike; table = c.lay_in.new.table; entries = i.policy; caller = i.caller } in
    let packet = c.args.packet.now in
    subst (λ (s : State g.row.C.Denot). LaysIn (λ said. Traces (meaning_of g.C.Sealer g.C.Agreement g.C.Proof s.caller) (Outward packet) s said no_trace new) (length packet) c.args.room.now c.lay_in.result c.lay_in.new.table.pairs c.lay_in.new.room) c.self.view_is
    (traces_laid (meaning_of g.C.Sealer g.C.Agreement g.C.Proof i.caller) old packet c.args.room.now c.lay_in.result c.lay_in.new.table c.lay_in.new.room c.lay_in.ensures.sent)
