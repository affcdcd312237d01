use Rattle.std.proofs.Common.{rules, sym}
use Rattle.effects.specs.Taking.{Meaning}
use Rattle.gateway.specs.Inputs.{input_view}
use Rattle.gateway.specs.Outputs.{output_view}
use Rattle.gateway.specs.Steps.{Steps}
use Rattle.gateway.proofs.machine.Gateway.step.Goals as goal

pub returns-clause-determined : goal.returns-clause-determined
returns-clause-determined g c =
    let old = c.args.self.now in
    let meaning : Meaning = record {
      cipher = g.C.Sealer.cipher;
      body_of = g.C.Sealer.body_of;
      plain_of = g.C.Sealer.plain_of;
      group = g.C.Agreement.group_number;
      public_value = g.C.Agreement.public_value;
      shared_secret = g.C.Agreement.shared_secret;
      own_method = g.C.Proof.own_method old.caller;
      proof_of = g.C.Proof.proof_of old.caller;
      accepts = g.C.Proof.accepts old.caller;
    } in
    let given = input_view c.args.input.now in
    let said = output_view c.traced_step.result.output in
    let stepped : Steps meaning given old said c.traced_step.new.self = search rules in
    let whole = c.keys_stay_whole.ensures.sound old.machine old.table c.invariants_hold.ensures.machine in
    λ other after also same quiet another steps.
    let one = c.steps_are_determined.ensures.steps meaning given old other c.traced_step.new.self after said also c.tells_its_lengths.ensures whole (sym same) quiet another stepped steps in (sym one.0, sym one.1)
