use Rattle.std.specs.Prelude.{None}
use Rattle.std.proofs.lemmas.List.{length-replicate}
use Rattle.std.proofs.lemmas.List.Elements.{All-nil}
use Rattle.esp.proofs.AheadLemmas.{none_ahead, none_in}
use Rattle.esp.proofs.ahead.placed.Goals as goal

pub loop-turn-init : goal.loop-turn-init
loop-turn-init g c = record { ahead = λ a packets is. none_ahead a packets _ (none_in g.row.N); all = All-nil _; long = length-replicate g.row.N None }
