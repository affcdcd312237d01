use Rattle.std.specs.Prelude.{List, flat_map}
use Rattle.gateway.specs.Inputs.{Input}
use Rattle.gateway.proofs.RunLemmas.{calls_joined, histories_joined, runs_joined}
use Rattle.gateway.specs.Runs.{StepsAs}
use Rattle.gateway.specs.declared.output.Output.{Output}
use Rattle.gateway.proofs.laws.runs.runs_in_a_row_are_one_run.Goals as goal

pub returns-clause-both : goal.returns-clause-both
returns-clause-both g c = λ meaning_of first second outputs others old between new one two. runs_joined (StepsAs meaning_of) first outputs second others old between new one two

pub returns-clause-histories : goal.returns-clause-histories
returns-clause-histories g c = λ meaning_of first second outputs others old between new earlier later one two.
    histories_joined meaning_of first second outputs others old between new earlier later one two

pub returns-clause-calls : goal.returns-clause-calls
returns-clause-calls g c = λ meaning_of lists outputs old new calls. calls_joined meaning_of lists outputs old new calls

pub returns-clause-promises : goal.returns-clause-promises
returns-clause-promises g c = λ meaning_of lists outputs old new calls.
    c.every_run_keeps_its_promises.ensures meaning_of (flat_map (λ (inputs : List Input). inputs) lists) (flat_map (λ (list : List Output). list) outputs) old new (calls_joined meaning_of lists outputs old new calls)
