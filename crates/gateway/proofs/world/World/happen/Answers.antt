use Rattle.effects.specs.Taking.{Meaning}
use Rattle.gateway.specs.Inputs.{event_view}
use Rattle.gateway.specs.Outputs.{output_view}
use Rattle.gateway.specs.Worlds.{stored_by}
use Rattle.gateway.proofs.WorldLemmas.{taken_at_a, taken_at_b}
use Rattle.gateway.proofs.world.World.happen.Goals as goal

pub returns-in-A-clause-happened : goal.returns-in-A-clause-happened
returns-in-A-clause-happened g c =
    let meaning_of : _ → Meaning = λ caller. record {
      cipher = g.C.Sealer.cipher;
      body_of = g.C.Sealer.body_of;
      plain_of = g.C.Sealer.plain_of;
      group = g.C.Agreement.group_number;
      public_value = g.C.Agreement.public_value;
      shared_secret = g.C.Agreement.shared_secret;
      own_method = g.C.Proof.own_method caller;
      proof_of = g.C.Proof.proof_of caller;
      accepts = g.C.Proof.accepts caller;
    } in
    taken_at_a meaning_of (event_view c.args.event.now) c.args.self.now c.self.inside.a c.self.inside.b (stored_by c.self.inside.log) (stored_by c.prepare.new.self)
    (output_view c.take.result) c.take.new.gateway (stored_by c.take.new.log) c.in-A.is c.input_is_fresh.ensures (record { machine = c.invariants_hold.ensures.machine; table = c.invariants_hold.ensures.table; timely = c.invariants_hold.ensures.timely; reservations = c.invariants_hold.ensures.reservations }) c.self.view_is c.prepare.ensures.content c.take.ensures

pub returns-in-B-clause-happened : goal.returns-in-B-clause-happened
returns-in-B-clause-happened g c =
    let meaning_of : _ → Meaning = λ caller. record {
      cipher = g.C.Sealer.cipher;
      body_of = g.C.Sealer.body_of;
      plain_of = g.C.Sealer.plain_of;
      group = g.C.Agreement.group_number;
      public_value = g.C.Agreement.public_value;
      shared_secret = g.C.Agreement.shared_secret;
      own_method = g.C.Proof.own_method caller;
      proof_of = g.C.Proof.proof_of caller;
      accepts = g.C.Proof.accepts caller;
    } in
    taken_at_b meaning_of (event_view c.args.event.now) c.args.self.now c.self.inside.a c.self.inside.b (stored_by c.self.inside.log) (stored_by c.prepare.new.self)
    (output_view c.take-in-B.result) c.take-in-B.new.gateway (stored_by c.take-in-B.new.log) c.in-B.is c.input_is_fresh.ensures (record { machine = c.invariants_hold-in-B.ensures.machine; table = c.invariants_hold-in-B.ensures.table; timely = c.invariants_hold-in-B.ensures.timely; reservations = c.invariants_hold-in-B.ensures.reservations }) c.self.view_is c.prepare.ensures.content c.take-in-B.ensures
