use Rattle.std.proofs.Common.{refl}
use Rattle.effects.specs.Taking.{Meaning}
use Rattle.gateway.specs.Inputs.{event_view}
use Rattle.gateway.specs.Outputs.{output_view}
use Rattle.gateway.specs.Worlds.{stored_by}
use Rattle.gateway.specs.declared.world.stored.End.TheVariants.{A, B}
use Rattle.gateway.proofs.WorldLemmas.{taken_at_a, taken_at_b}
use Rattle.gateway.proofs.world.World.happen_unstored.Goals as goal

pub returns-in-A : goal.returns-in-A
returns-in-A g c =
    let meaning_of : _ → Meaning = λ caller. record {
      cipher = g.C.Sealer.cipher;
      body_of = g.C.Sealer.body_of;
      plain_of = g.C.Sealer.plain_of;
      group = g.C.Agreement.group_number;
      public_value = g.C.Agreement.public_value;
      shared_secret = g.C.Agreement.shared_secret;
      own_method = g.C.Proof.own_method caller;
      proof_of = g.C.Proof.proof_of caller;
      accepts = g.C.Proof.accepts caller;
    } in
    let stored = stored_by c.self.inside.log in
    taken_at_a meaning_of (event_view c.args.event.now) c.args.self.now c.self.inside.a c.self.inside.b stored stored
    (output_view c.take_unstored.result) c.take_unstored.new.gateway stored c.in-A.is c.input_is_fresh.ensures (record { machine = c.invariants_hold.ensures.machine; table = c.invariants_hold.ensures.table; timely = c.invariants_hold.ensures.timely; reservations = c.invariants_hold.ensures.reservations }) c.self.view_is refl (c.take_unstored.ensures A stored)

pub returns-in-B : goal.returns-in-B
returns-in-B g c =
    let meaning_of : _ → Meaning = λ caller. record {
      cipher = g.C.Sealer.cipher;
      body_of = g.C.Sealer.body_of;
      plain_of = g.C.Sealer.plain_of;
      group = g.C.Agreement.group_number;
      public_value = g.C.Agreement.public_value;
      shared_secret = g.C.Agreement.shared_secret;
      own_method = g.C.Proof.own_method caller;
      proof_of = g.C.Proof.proof_of caller;
      accepts = g.C.Proof.accepts caller;
    } in
    let stored = stored_by c.self.inside.log in
    taken_at_b meaning_of (event_view c.args.event.now) c.args.self.now c.self.inside.a c.self.inside.b stored stored
    (output_view c.take_unstored-in-B.result) c.take_unstored-in-B.new.gateway stored c.in-B.is c.input_is_fresh.ensures (record { machine = c.invariants_hold-in-B.ensures.machine; table = c.invariants_hold-in-B.ensures.table; timely = c.invariants_hold-in-B.ensures.timely; reservations = c.invariants_hold-in-B.ensures.reservations }) c.self.view_is refl (c.take_unstored-in-B.ensures B stored)
