use Rattle.std.proofs.Common.{◌≡◌, length, map}
use Rattle.esp.specs.Precomputed.{AreQuestions}
use Rattle.gateway.specs.Groups.{packets_in}
use Rattle.gateway.specs.Inputs.{input_view}
use Rattle.gateway.proofs.ahead.set_questions.Given as goal

-- the questions so far are about the packets at their places
abbrev pub invariant-loop-place : goal.invariant-loop-place
invariant-loop-place l = record {
  questions : AreQuestions (packets_in (map input_view l.inputs)) l.fn.questions → AreQuestions (packets_in (map input_view l.inputs)) l.questions;
  long : length l.questions ≡ length l.fn.questions;
}
