use Rattle.effects.proofs.ReleasedLemmas.{given_was, message_keeps, request_keeps, who_is_over_holds_none}
use Rattle.effects.proofs.laws.spis.what_is_given_up_is_released.Goals as goal

pub returns-clause-message : goal.returns-clause-message
returns-clause-message c = message_keeps

pub returns-clause-request : goal.returns-clause-request
returns-clause-request c = request_keeps

pub returns-clause-given : goal.returns-clause-given
returns-clause-given c = given_was

pub returns-clause-over : goal.returns-clause-over
returns-clause-over c = who_is_over_holds_none
