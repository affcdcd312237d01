use Rattle.effects.specs.Taking.{Meaning}
use Rattle.ike.specs.Steps.{input_view}
use Rattle.std.proofs.Common.{◌∙◌, ap, sym}
use Rattle.sadb.specs.Database.{Database}
use Rattle.ike.specs.declared.output.Trace.{Trace}
use Rattle.gateway.proofs.FlowLemmas.{none_comes, right_after, same_pairs}
use Rattle.gateway.proofs.stepping.step_ike.Goals as goal

pub returns-in-Ok-clause-reservations : goal.returns-in-Ok-clause-reservations
returns-in-Ok-clause-reservations g c =
    let meaning : Meaning = record {
      cipher = g.C.Sealer.cipher;
      body_of = g.C.Sealer.body_of;
      plain_of = g.C.Sealer.plain_of;
      group = g.C.Agreement.group_number;
      public_value = g.C.Agreement.public_value;
      shared_secret = g.C.Agreement.shared_secret;
      own_method = g.C.Proof.own_method c.args.caller.now;
      proof_of = g.C.Proof.proof_of c.args.caller.now;
      accepts = g.C.Proof.accepts c.args.caller.now;
    } in
    c.no_spi_is_lost.ensures.stepped meaning c.args.policy.now (input_view c.args.input.now) c.args.ike.now c.args.table.now c.in-Ok.stepped c.step.new.self c.step.new.table c.requires.sound c.in-Ok.ensures.stepped
    c.requires.reservations

pub returns-in-Ok-clause-timely : goal.returns-in-Ok-clause-timely
returns-in-Ok-clause-timely g c =
    let meaning : Meaning = record {
      cipher = g.C.Sealer.cipher;
      body_of = g.C.Sealer.body_of;
      plain_of = g.C.Sealer.plain_of;
      group = g.C.Agreement.group_number;
      public_value = g.C.Agreement.public_value;
      shared_secret = g.C.Agreement.shared_secret;
      own_method = g.C.Proof.own_method c.args.caller.now;
      proof_of = g.C.Proof.proof_of c.args.caller.now;
      accepts = g.C.Proof.accepts c.args.caller.now;
    } in
    c.what_is_due_comes_in_time.ensures.timely meaning c.args.policy.now (input_view c.args.input.now) c.args.ike.now c.args.table.now c.in-Ok.stepped c.step.new.self c.step.new.table c.requires.timely c.in-Ok.ensures.stepped

pub returns-in-Ok-clause-right : goal.returns-in-Ok-clause-right
returns-in-Ok-clause-right g c =
    let meaning : Meaning = record {
      cipher = g.C.Sealer.cipher;
      body_of = g.C.Sealer.body_of;
      plain_of = g.C.Sealer.plain_of;
      group = g.C.Agreement.group_number;
      public_value = g.C.Agreement.public_value;
      shared_secret = g.C.Agreement.shared_secret;
      own_method = g.C.Proof.own_method c.args.caller.now;
      proof_of = g.C.Proof.proof_of c.args.caller.now;
      accepts = g.C.Proof.accepts c.args.caller.now;
    } in
    right_after c.args.policy.now c.args.table.now.pairs c.step.new.table.pairs c.args.flows.now c.forget_with.new.flows c.by_ike-traced.result.trace.child
    (c.answers_stay_right.ensures.stay c.args.policy.now c.args.table.now.pairs c.step.new.table.pairs c.args.flows.now)
    (c.answers_stay_right.ensures.none c.args.policy.now c.step.new.table.pairs c.forget_with.new.flows)
    (λ none.
    none_comes c.args.ike.now.held c.args.table.now c.in-Ok.stepped c.step.new.self.held c.step.new.table
    (c.traces_name_what_is_held.ensures.traced meaning c.args.policy.now (input_view c.args.input.now) c.args.ike.now c.args.table.now c.in-Ok.stepped c.step.new.self c.step.new.table c.invariants_hold.ensures
    c.requires.sound c.in-Ok.ensures.stepped)
    (ap (λ (t : Trace). t.child) (sym c.by_ike-traced.ensures.trace) ∙ none))
    c.forget_with.ensures c.requires.right

pub returns-in-Err-clause-right : goal.returns-in-Err-clause-right
returns-in-Err-clause-right g c =
    c.answers_stay_right.ensures.stay c.args.policy.now c.args.table.now.pairs c.step.new.table.pairs c.args.flows.now
    (same_pairs c.args.table.now.pairs c.step.new.table.pairs (ap (λ (d : Database). d.pairs) c.in-Err.ensures.refused.2.content)) c.requires.right
