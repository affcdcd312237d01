use Rattle.effects.proofs.WaitLemmas.{begun_waits, message_closes, message_until, message_waits, requested_keeps, requested_next, requested_waits}
use Rattle.effects.proofs.laws.waiting.requests_wait_on.Goals as goal

pub returns-clause-taken : goal.returns-clause-taken
returns-clause-taken c = message_waits

pub returns-clause-until : goal.returns-clause-until
returns-clause-until c = message_until

pub returns-clause-closed : goal.returns-clause-closed
returns-clause-closed c = message_closes

pub returns-clause-begun : goal.returns-clause-begun
returns-clause-begun c = begun_waits

pub returns-clause-requested : goal.returns-clause-requested
returns-clause-requested c = requested_waits

pub returns-clause-beside : goal.returns-clause-beside
returns-clause-beside c = requested_keeps

pub returns-clause-next : goal.returns-clause-next
returns-clause-next c = requested_next
