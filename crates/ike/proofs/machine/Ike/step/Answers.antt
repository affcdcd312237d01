use Rattle.effects.specs.Taking.{Meaning}
use Rattle.ike.specs.Steps.{input_view}
use Rattle.ike.proofs.LawfulLemmas.{result_lawful}
use Rattle.ike.proofs.OnceLemmas.{refused_alike, taken_alike}
use Rattle.ike.proofs.StepLemmas.{result_sound}
use Rattle.ike.proofs.machine.Ike.step.Goals as goal

pub returns-clause-sound : goal.returns-clause-sound
returns-clause-sound g c =
    let meaning : Meaning = record {
      cipher = g.C.Sealer.cipher;
      body_of = g.C.Sealer.body_of;
      plain_of = g.C.Sealer.plain_of;
      group = g.C.Agreement.group_number;
      public_value = g.C.Agreement.public_value;
      shared_secret = g.C.Agreement.shared_secret;
      own_method = g.C.Proof.own_method c.args.caller.now;
      proof_of = g.C.Proof.proof_of c.args.caller.now;
      accepts = g.C.Proof.accepts c.args.caller.now;
    } in
    result_sound c.args.policy.now meaning (input_view c.args.input.now) c.args.self.now c.args.table.now c.take.result c.take.new.self c.take.new.table
    (λ stepped is. c.soundness_stays.ensures meaning c.args.policy.now (input_view c.args.input.now) c.args.self.now c.args.table.now stepped c.take.new.self c.take.new.table c.invariants_hold.ensures c.requires.sound is)
    c.requires.sound c.take.ensures.stepped c.take.ensures.refused

pub returns-clause-laws : goal.returns-clause-laws
returns-clause-laws g c =
    let meaning : Meaning = record {
      cipher = g.C.Sealer.cipher;
      body_of = g.C.Sealer.body_of;
      plain_of = g.C.Sealer.plain_of;
      group = g.C.Agreement.group_number;
      public_value = g.C.Agreement.public_value;
      shared_secret = g.C.Agreement.shared_secret;
      own_method = g.C.Proof.own_method c.args.caller.now;
      proof_of = g.C.Proof.proof_of c.args.caller.now;
      accepts = g.C.Proof.accepts c.args.caller.now;
    } in
    result_lawful c.steps_keep_their_laws.ensures meaning c.args.policy.now (input_view c.args.input.now) c.args.self.now c.args.table.now c.take.result c.take.new.self c.take.new.table
    c.invariants_hold.ensures c.requires.sound c.take.ensures.stepped

pub returns-clause-determined : goal.returns-clause-determined
returns-clause-determined g c =
    let meaning : Meaning = record {
      cipher = g.C.Sealer.cipher;
      body_of = g.C.Sealer.body_of;
      plain_of = g.C.Sealer.plain_of;
      group = g.C.Agreement.group_number;
      public_value = g.C.Agreement.public_value;
      shared_secret = g.C.Agreement.shared_secret;
      own_method = g.C.Proof.own_method c.args.caller.now;
      proof_of = g.C.Proof.proof_of c.args.caller.now;
      accepts = g.C.Proof.accepts c.args.caller.now;
    } in
    taken_alike c.steps_are_determined.ensures.steps c.steps_are_determined.ensures.steps_or_refusals meaning c.args.policy.now (input_view c.args.input.now) c.args.self.now c.args.table.now c.take.result c.take.new.self c.take.new.table
    c.inputs_tell_their_lengths.ensures (c.keys_stay_whole.ensures.sound c.args.self.now c.args.table.now c.requires.sound) c.take.ensures.stepped

pub returns-clause-refused_alike : goal.returns-clause-refused_alike
returns-clause-refused_alike g c =
    let meaning : Meaning = record {
      cipher = g.C.Sealer.cipher;
      body_of = g.C.Sealer.body_of;
      plain_of = g.C.Sealer.plain_of;
      group = g.C.Agreement.group_number;
      public_value = g.C.Agreement.public_value;
      shared_secret = g.C.Agreement.shared_secret;
      own_method = g.C.Proof.own_method c.args.caller.now;
      proof_of = g.C.Proof.proof_of c.args.caller.now;
      accepts = g.C.Proof.accepts c.args.caller.now;
    } in
    refused_alike c.steps_are_determined.ensures.refusals c.steps_are_determined.ensures.steps_or_refusals meaning c.args.policy.now (input_view c.args.input.now) c.args.self.now c.args.table.now c.take.result c.take.new.self c.take.new.table
    c.take.ensures.refused
