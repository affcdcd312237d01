use Rattle.gw_engine.proofs.SayingLemmas.{HasSaid}
use Rattle.gw_engine.proofs.playing.print_lines.Given as goal

abbrev pub invariant-loop-line : goal.invariant-loop-line
invariant-loop-line g l = HasSaid g.P.Player.says l.initial.player l.lines l.line-index l.player (g.W.Write.contents l.initial.writer) (g.W.Write.contents l.writer)
