use Rattle.std.proofs.Common.{inr, ap, subst, ◌∙◌, Err}
use Rattle.gw_console.specs.Status.{exit_code}
use Rattle.gw_engine.specs.Ends.{EndsWith}
use Rattle.gw_engine.proofs.playing.play_by.Goals as goal

pub returns-in-Err-clause-plays : goal.returns-in-Err-clause-plays
returns-in-Err-clause-plays g c =
    inr (
      record {
        why = c.in-Err.stop;
        because = c.in-Err.ensures.because;
        code_is = c.code-in-Err.ensures ∙ ap exit_code c.end.ensures.status;
        ends = subst (λ w. EndsWith (Err c.in-Err.stop) (g.W.Write.contents w) (g.W.Write.contents c.end.new.writer)) c.in-Err.ensures.unwritten c.end.ensures.ends;
      },
      c.in-Err.ensures.unplayed.0,
      c.in-Err.ensures.unplayed.1,
    )
