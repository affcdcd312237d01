use Rattle.association.proofs.HeldLemmas.{counted_awaited, issued_awaited, prepared_awaited, replaced_awaited, withdrawn_awaited}
use Rattle.association.proofs.laws.children_are_asked_for.Goals as goal

pub returns-clause-preparing : goal.returns-clause-preparing
returns-clause-preparing c = prepared_awaited

pub returns-clause-issuing : goal.returns-clause-issuing
returns-clause-issuing c = issued_awaited

pub returns-clause-counting : goal.returns-clause-counting
returns-clause-counting c = counted_awaited

pub returns-clause-withdrawing : goal.returns-clause-withdrawing
returns-clause-withdrawing c = withdrawn_awaited

pub returns-clause-replacing : goal.returns-clause-replacing
returns-clause-replacing c = replaced_awaited
