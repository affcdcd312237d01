use Rattle.children.proofs.FitLemmas.{request_fits, response_fits}
use Rattle.children.proofs.laws.payloads_fit.Goals as goal

pub returns-clause-asked : goal.returns-clause-asked
returns-clause-asked c = request_fits

pub returns-clause-answered : goal.returns-clause-answered
returns-clause-answered c = response_fits c.answers_can_be_sent.ensures
