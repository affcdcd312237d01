use Rattle.policy.proofs.LawLemmas.{answers_sendable}
use Rattle.policy.proofs.laws.answers_can_be_sent.Goals as goal

pub returns : goal.returns
returns c = answers_sendable
