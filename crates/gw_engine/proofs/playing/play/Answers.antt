use Rattle.gw_engine.proofs.ScriptLemmas.{whatever}
use Rattle.gw_engine.proofs.playing.play.Goals as goal

pub returns-clause-plays : goal.returns-clause-plays
returns-clause-plays g c = whatever _ _ _ _ _ _ _ _ _ _ _ _ c.play_by.ensures.plays
