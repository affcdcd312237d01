-- What is remembered stays right from turn to turn.
use Rattle.flows.specs.Memory.{AllRight}
use Rattle.tool_costs.proofs.spread.turns.Given as goal

abbrev pub invariant-loop : goal.invariant-loop
invariant-loop l = AllRight l.policy l.table.pairs l.memory
