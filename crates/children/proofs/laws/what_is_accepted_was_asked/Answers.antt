use Rattle.children.proofs.ChildLemmas.{request_kept}
use Rattle.children.proofs.laws.what_is_accepted_was_asked.Goals as goal

pub returns : goal.returns
returns c = request_kept
