use Rattle.std.proofs.Common.{◌≡◌, ◌≤◌, length, take}
use Rattle.std.specs.Prelude.{All}
use Rattle.esp.specs.Precomputed.{IsAskedIn}
use Rattle.esp.proofs.precomputed.set_asked.Given as goal

-- the questions so far stand one behind the other
abbrev pub invariant-loop-place : goal.invariant-loop-place
invariant-loop-place l = record {
  asked : All (IsAskedIn l.questions) (take l.count l.asked);
  few : l.count ≤ l.place;
  long : length l.asked ≡ length l.fn.asked;
}
