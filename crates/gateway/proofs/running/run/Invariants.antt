use Rattle.std.proofs.Common.{◌≡◌, ◌+◌, ◌*◌, ◌≤◌, length, map, min}
use Rattle.std.specs.Prelude.{vec_len}
use Rattle.std.specs.Vec.{vec_capacity}
use Rattle.gateway.specs.Groups.{TakesFirst}
use Rattle.gateway.specs.Inputs.{input_view}
use Rattle.gateway.proofs.running.run.Given as goal

-- the groups so far were taken, and their outputs appended
abbrev pub invariant-loop-group : goal.invariant-loop-group
invariant-loop-group g l = record {
  first : TakesFirst
      (λ caller. record {
        cipher = g.C.Sealer.cipher;
        body_of = g.C.Sealer.body_of;
        plain_of = g.C.Sealer.plain_of;
        group = g.C.Agreement.group_number;
        public_value = g.C.Agreement.public_value;
        shared_secret = g.C.Agreement.shared_secret;
        own_method = g.C.Proof.own_method caller;
        proof_of = g.C.Proof.proof_of caller;
        accepts = g.C.Proof.accepts caller;
      })
      (min (64 * l.group) (length l.inputs)) (map input_view l.inputs) l.fn.gateway l.fn.outputs.items l.gateway l.outputs.items;
  length_now : vec_len l.outputs ≡ vec_len l.fn.outputs + min (64 * l.group) (length l.inputs);
  capacity : vec_capacity l.fn.outputs ≤ vec_capacity l.outputs;
}
