use Rattle.gateway.proofs.ToldLemmas.{again_stored, child_stored, keyed_stored, message_stored, TraceLaw}
use Rattle.gateway.proofs.laws.outputs.what_is_told_is_stored.Goals as goal

pub returns-clause-message : goal.returns-clause-message
returns-clause-message g c =
    let law : TraceLaw = record { traced = c.traces_name_what_is_held.ensures.traced } in
    λ meaning given said trace mark old new. message_stored law meaning given said trace mark old new

pub returns-clause-keyed : goal.returns-clause-keyed
returns-clause-keyed g c =
    let law : TraceLaw = record { traced = c.traces_name_what_is_held.ensures.traced } in
    λ meaning given said trace end ike old new. keyed_stored law meaning given said trace end ike old new

pub returns-clause-child : goal.returns-clause-child
returns-clause-child g c =
    let law : TraceLaw = record { traced = c.traces_name_what_is_held.ensures.traced } in
    λ meaning given said trace end made old new. child_stored law meaning given said trace end made old new

pub returns-clause-again : goal.returns-clause-again
returns-clause-again g c = λ meaning given said trace requests closed request old new. again_stored c.traces_name_what_is_held.ensures.again meaning given said trace requests closed request old new
