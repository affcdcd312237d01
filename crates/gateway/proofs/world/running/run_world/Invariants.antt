use Rattle.std.proofs.Common.{◌≡◌, ◌++◌, ◌+◌, ◌≤◌, List, map, take}
use Rattle.std.specs.Prelude.{vec_len}
use Rattle.std.specs.Vec.{vec_capacity}
use Rattle.gateway.specs.Inputs.{event_view}
use Rattle.gateway.specs.Runs.{Runs}
use Rattle.gateway.specs.WorldRuns.{HappensAs}
use Rattle.gateway.specs.declared.output.Output.{Output}
use Rattle.gateway.proofs.world.running.run_world.Given as goal

-- what came so far was taken, and its outputs appended
abbrev pub invariant-loop-done : goal.invariant-loop-done
invariant-loop-done g l = record {
  answers : List Output;
  appended : l.outputs.items ≡ l.fn.outputs.items ++ answers;
  runs : Runs
      (HappensAs (λ caller. record {
        cipher = g.C.Sealer.cipher;
        body_of = g.C.Sealer.body_of;
        plain_of = g.C.Sealer.plain_of;
        group = g.C.Agreement.group_number;
        public_value = g.C.Agreement.public_value;
        shared_secret = g.C.Agreement.shared_secret;
        own_method = g.C.Proof.own_method caller;
        proof_of = g.C.Proof.proof_of caller;
        accepts = g.C.Proof.accepts caller;
      }))
      (take l.done (map event_view l.events)) answers l.fn.world l.world;
  length_now : vec_len l.outputs ≡ vec_len l.fn.outputs + l.done;
  capacity : vec_capacity l.fn.outputs ≤ vec_capacity l.outputs;
}
