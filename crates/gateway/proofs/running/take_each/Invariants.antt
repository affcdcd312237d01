use Rattle.std.proofs.Common.{◌≡◌, ◌++◌, ◌+◌, ◌≤◌, List, map, take}
use Rattle.std.specs.Prelude.{vec_len}
use Rattle.std.specs.Vec.{vec_capacity}
use Rattle.gateway.specs.Inputs.{input_view}
use Rattle.gateway.specs.Laying.{finished_from}
use Rattle.gateway.specs.Runs.{Runs, StepsAs}
use Rattle.gateway.specs.declared.output.Output.{Output}
use Rattle.gateway.proofs.running.take_each.Given as goal

-- what came so far was taken, and its outputs appended, once they are finished
abbrev pub invariant-loop-done : goal.invariant-loop-done
invariant-loop-done g l = record {
  answers : List Output;
  appended : finished_from l.start l.gateway.table.pairs l.outputs.items ≡ l.fn.outputs.items ++ answers;
  runs : Runs
      (StepsAs (λ caller. record {
        cipher = g.C.Sealer.cipher;
        body_of = g.C.Sealer.body_of;
        plain_of = g.C.Sealer.plain_of;
        group = g.C.Agreement.group_number;
        public_value = g.C.Agreement.public_value;
        shared_secret = g.C.Agreement.shared_secret;
        own_method = g.C.Proof.own_method caller;
        proof_of = g.C.Proof.proof_of caller;
        accepts = g.C.Proof.accepts caller;
      }))
      (take l.done (map input_view l.inputs)) answers l.fn.gateway l.gateway;
  length_now : vec_len l.outputs ≡ vec_len l.fn.outputs + l.done;
  capacity : vec_capacity l.fn.outputs ≤ vec_capacity l.outputs;
  begins : vec_len l.fn.outputs ≤ l.start;
  within : l.start ≤ vec_len l.outputs;
}
