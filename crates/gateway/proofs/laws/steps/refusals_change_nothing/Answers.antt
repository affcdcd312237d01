use Rattle.gateway.proofs.LawLemmas.{refused_keeps, steps_keep}
use Rattle.gateway.proofs.laws.steps.refusals_change_nothing.Goals as goal

pub returns-clause-kept : goal.returns-clause-kept
returns-clause-kept g c = λ meaning given said old new s. steps_keep meaning given said old new s

pub returns-clause-refused : goal.returns-clause-refused
returns-clause-refused g c = λ meaning given reason old new s. refused_keeps meaning given reason old new s
