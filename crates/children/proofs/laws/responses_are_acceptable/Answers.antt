use Rattle.children.proofs.ChildLemmas.{reply_accepted}
use Rattle.children.proofs.laws.responses_are_acceptable.Goals as goal

pub returns : goal.returns
returns c = reply_accepted c.ends_agree.ensures.answers c.ends_agree.ensures.numbers c.answers_lie_inside.ensures.offer
