use Rattle.traffic.proofs.ContentLemmas.{received_by_content, sent_by_content}
use Rattle.traffic.proofs.laws.outcomes_go_by_content.Goals as goal

pub returns-clause-received : goal.returns-clause-received
returns-clause-received c = received_by_content

pub returns-clause-sent : goal.returns-clause-sent
returns-clause-sent c = sent_by_content
