use Rattle.std.proofs.Common.{◌≡◌, ℕ, List, Option, length}
use Rattle.std.specs.Prelude.{All}
use Rattle.esp.specs.declared.precomputed.Question.{Question}
use Rattle.esp.specs.Precomputed.{ArePrecomputed, AreQuestions, IsAskedIn}
use Rattle.esp.proofs.precomputed.set_answers.Given as goal

-- the values so far are those of the packets at their places
abbrev pub invariant-loop-turn : goal.invariant-loop-turn
invariant-loop-turn l = record {
  right : (packets : ℕ → List ℕ) (questions : List (Option Question)) → AreQuestions packets questions → All (IsAskedIn questions) l.asked → ArePrecomputed packets l.fn.answers → ArePrecomputed packets l.answers;
  long : length l.answers ≡ length l.fn.answers;
}
