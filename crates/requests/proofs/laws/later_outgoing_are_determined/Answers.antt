use Rattle.requests.proofs.DeterminedNumbers.{same_own_after_preparing, same_after_issuing, same_after_counting, same_after_replacing, same_after_withdrawing, same_after_giving_up}
use Rattle.requests.proofs.laws.later_outgoing_are_determined.Goals as goal

pub returns-clause-prepared : goal.returns-clause-prepared
returns-clause-prepared g c = same_own_after_preparing

pub returns-clause-issued : goal.returns-clause-issued
returns-clause-issued g c = same_after_issuing

pub returns-clause-counted : goal.returns-clause-counted
returns-clause-counted g c = same_after_counting

pub returns-clause-replaced : goal.returns-clause-replaced
returns-clause-replaced g c = same_after_replacing

pub returns-clause-withdrawn : goal.returns-clause-withdrawn
returns-clause-withdrawn g c = same_after_withdrawing

pub returns-clause-given_up : goal.returns-clause-given_up
returns-clause-given_up g c = same_after_giving_up
