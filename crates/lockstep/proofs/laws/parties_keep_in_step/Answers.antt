use Rattle.lockstep.proofs.PartyLemmas.{in_step_under, issued_under, windows_under}
use Rattle.lockstep.proofs.laws.parties_keep_in_step.Goals as goal

pub returns-clause-issued : goal.returns-clause-issued
returns-clause-issued c = issued_under

pub returns-clause-windows : goal.returns-clause-windows
returns-clause-windows c = windows_under

pub returns-clause-steps : goal.returns-clause-steps
returns-clause-steps c = in_step_under
