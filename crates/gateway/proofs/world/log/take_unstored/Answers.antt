use Rattle.effects.specs.Taking.{Meaning}
use Rattle.gateway.specs.Inputs.{input_view}
use Rattle.gateway.specs.Outputs.{output_view}
use Rattle.gateway.proofs.StoringLemmas.{takes_unstored}
use Rattle.gateway.proofs.world.log.take_unstored.Goals as goal

pub returns : goal.returns
returns g c =
    let meaning : Meaning = record {
      cipher = g.C.Sealer.cipher;
      body_of = g.C.Sealer.body_of;
      plain_of = g.C.Sealer.plain_of;
      group = g.C.Agreement.group_number;
      public_value = g.C.Agreement.public_value;
      shared_secret = g.C.Agreement.shared_secret;
      own_method = g.C.Proof.own_method c.args.gateway.now.caller;
      proof_of = g.C.Proof.proof_of c.args.gateway.now.caller;
      accepts = g.C.Proof.accepts c.args.gateway.now.caller;
    } in
    takes_unstored meaning (input_view c.args.input.now) c.args.gateway.now (output_view c.traced_step-output.result.output) c.traced_step-output.result.trace c.traced_step-output.new.self c.requires c.traced_step-output.ensures
