use Rattle.deletions.proofs.NamingLemmas.{all_distinct, all_live, all_receive, all_sent, as_many, each_goes, few_go}
use Rattle.deletions.proofs.laws.what_is_named_goes.Goals as goal

pub returns-clause-meant : goal.returns-clause-meant
returns-clause-meant c = λ pairs ike. all_sent ike pairs

pub returns-clause-live : goal.returns-clause-live
returns-clause-live c = λ pairs ike. all_live ike pairs

pub returns-clause-each : goal.returns-clause-each
returns-clause-each c = λ pairs ike. each_goes ike pairs

pub returns-clause-once : goal.returns-clause-once
returns-clause-once c = λ pairs ike spis. all_distinct ike spis pairs

pub returns-clause-inbound : goal.returns-clause-inbound
returns-clause-inbound c = λ pairs ike. all_receive ike pairs

pub returns-clause-as_many : goal.returns-clause-as_many
returns-clause-as_many c = λ pairs ike. as_many ike pairs

pub returns-clause-few : goal.returns-clause-few
returns-clause-few c = λ pairs ike. few_go ike pairs
