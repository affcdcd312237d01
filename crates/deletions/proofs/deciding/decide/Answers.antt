use Rattle.deletions.proofs.LimitLemmas.{sound_result}
use Rattle.deletions.proofs.deciding.decide.Goals as goal

pub returns-in-Some-clause-sound : goal.returns-in-Some-clause-sound
returns-in-Some-clause-sound c = sound_result c.args.table.now.pairs c.args.ike c.as_slice.result.now c.judge.result c.judge.ensures
