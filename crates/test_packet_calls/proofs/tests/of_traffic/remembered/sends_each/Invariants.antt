use Rattle.flows.specs.Memory.{AllRight}
use Rattle.test_packet_calls.proofs.tests.of_traffic.remembered.sends_each.Given as goal

abbrev pub invariant-loop-source : goal.invariant-loop-source
invariant-loop-source g l = AllRight l.policy l.table.pairs l.memory
