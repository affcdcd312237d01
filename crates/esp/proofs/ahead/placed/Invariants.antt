use Rattle.std.proofs.Common.{◌≡◌, ℕ, List, length, map, take}
use Rattle.std.specs.Prelude.{All}
use Rattle.esp.specs.declared.sa.Sa.{Sa}
use Rattle.esp.specs.Ahead.{AreAhead, HasAhead, value_asked}
use Rattle.esp.proofs.ahead.placed.Given as goal

-- the values so far are those of the packets at their places, and each of them is there
abbrev pub invariant-loop-turn : goal.invariant-loop-turn
invariant-loop-turn g l = record {
  ahead : (a : Sa) (packets : List (List ℕ)) → l.values ≡ map (value_asked a packets) l.asked → AreAhead a packets l.ahead;
  all : All (HasAhead l.ahead) (take l.turn l.asked);
  long : length l.ahead ≡ g.row.N;
}
