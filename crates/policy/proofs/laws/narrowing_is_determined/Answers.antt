use Rattle.policy.proofs.LawLemmas.{one_narrowing, narrowed_or_refused}
use Rattle.policy.proofs.laws.narrowing_is_determined.Goals as goal

pub returns-clause-narrowed : goal.returns-clause-narrowed
returns-clause-narrowed c = one_narrowing

pub returns-clause-apart : goal.returns-clause-apart
returns-clause-apart c = narrowed_or_refused
