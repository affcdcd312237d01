use Rattle.deletions.proofs.MirrorLemmas.{crossing_answered, crossing_named, mirror_answered, mirror_named}
use Rattle.deletions.proofs.laws.peers_understand_deletions.Goals as goal

pub returns-clause-child : goal.returns-clause-child
returns-clause-child c = mirror_named

pub returns-clause-answer : goal.returns-clause-answer
returns-clause-answer c = mirror_answered

pub returns-clause-crossing : goal.returns-clause-crossing
returns-clause-crossing c = crossing_named

pub returns-clause-crossing_answer : goal.returns-clause-crossing_answer
returns-clause-crossing_answer c = crossing_answered
