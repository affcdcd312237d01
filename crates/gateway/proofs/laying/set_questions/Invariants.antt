use Rattle.std.proofs.Common.{◌≡◌, length}
use Rattle.esp.specs.Precomputed.{AreQuestions}
use Rattle.gateway.specs.Laying.{laid_at}
use Rattle.gateway.proofs.laying.set_questions.Given as goal

-- the questions so far are about the packets at their places
abbrev pub invariant-loop-place : goal.invariant-loop-place
invariant-loop-place l = record {
  questions : AreQuestions (laid_at l.laid) l.fn.questions → AreQuestions (laid_at l.laid) l.questions;
  long : length l.questions ≡ length l.fn.questions;
}
