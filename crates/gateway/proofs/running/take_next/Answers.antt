use Rattle.std.proofs.Common.{rules, ◌≡◌, ◌≤◌, length, sym, ap, ◌∙◌, arith}
use Rattle.effects.specs.Taking.{Meaning}
use Rattle.gateway.specs.Inputs.{input_view}
use Rattle.gateway.specs.States.{IsSoundState}
use Rattle.gateway.proofs.LayingLemmas.{finish_behind, nothing_laid, takes_laid, takes_other}
use Rattle.gateway.specs.Laying.{finished_from}
use Rattle.gateway.proofs.running.take_next.Goals.{then-start-len, else-start-len}
use Rattle.gateway.proofs.running.take_next.Goals as goal

pub returns-in-Outward-clause-next : goal.returns-in-Outward-clause-next
returns-in-Outward-clause-next g c =
    let old = c.args.gateway.now in
    let meaning_of : _ → Meaning = λ caller. record {
      cipher = g.C.Sealer.cipher;
      body_of = g.C.Sealer.body_of;
      plain_of = g.C.Sealer.plain_of;
      group = g.C.Agreement.group_number;
      public_value = g.C.Agreement.public_value;
      shared_secret = g.C.Agreement.shared_secret;
      own_method = g.C.Proof.own_method caller;
      proof_of = g.C.Proof.proof_of caller;
      accepts = g.C.Proof.accepts caller;
    } in
    let sound : IsSoundState old = record {
      machine = c.invariants_hold.ensures.machine;
      table = c.invariants_hold.ensures.table;
      timely = c.invariants_hold.ensures.timely;
      reservations = c.invariants_hold.ensures.reservations;
    } in
    let within : c.args.start ≤ length c.args.outputs.now.items = search rules in
    takes_laid meaning_of (input_view c.args.input.now) old c.lay-laid.new.self c.args.start c.args.outputs.now.items c.push_reserved.new.self.items c.lay-laid.result c.push_reserved.ensures.items
    c.lay-laid.ensures.senders within sound (search rules)

pub returns-clause-next : goal.returns-clause-next
returns-clause-next g c =
    let old = c.args.gateway.now in
    let meaning_of : _ → Meaning = λ caller. record {
      cipher = g.C.Sealer.cipher;
      body_of = g.C.Sealer.body_of;
      plain_of = g.C.Sealer.plain_of;
      group = g.C.Agreement.group_number;
      public_value = g.C.Agreement.public_value;
      shared_secret = g.C.Agreement.shared_secret;
      own_method = g.C.Proof.own_method caller;
      proof_of = g.C.Proof.proof_of caller;
      accepts = g.C.Proof.accepts caller;
    } in
    let sound : IsSoundState old = record {
      machine = c.invariants_hold.ensures.machine;
      table = c.invariants_hold.ensures.table;
      timely = c.invariants_hold.ensures.timely;
      reservations = c.invariants_hold.ensures.reservations;
    } in
    let items = c.args.outputs.now.items in
    let within : c.args.start ≤ length items = search rules in
    let whole : c.if-start-len.outputs.items ≡ finished_from c.args.start old.table.pairs items =
    elim c.if-start-len.branch [
      | then-start-len w ↦
          let xs = w.deref_mut.result.now in
          let len : c.args.outputs.now.len ≡ length items = sym w.deref_mut.ensures.len ∙ ap length w.deref_mut.ensures.value in
          ap (λ o. o.items) w.outputs-is ∙ finish_behind old.table.pairs c.args.start c.args.outputs.now.len items xs w.finish.new.laid w.deref_mut.ensures.value len within w.finish.ensures
      | else-start-len w ↦ ap (λ o. o.items) w.outputs-is ∙ sym (nothing_laid old.table.pairs items c.args.start (omega (arith, within)))
    ]
    in
    takes_other meaning_of (input_view c.args.input.now) old c.output_of-output.new.gateway c.args.start c.len-2.result items _ c.push_reserved-2.new.self.items c.output_of-output.result c.output_of-output.ensures.trace
    whole c.push_reserved-2.ensures.items (search rules) sound c.output_of-output.ensures.traces
