-- What is remembered stays right from flow to flow.
use Rattle.flows.specs.Memory.{AllRight}
use Rattle.tool_costs.proofs.spread.one_of_each.Given as goal

abbrev pub invariant-loop-flow : goal.invariant-loop-flow
invariant-loop-flow l = AllRight l.policy l.table.pairs l.memory
