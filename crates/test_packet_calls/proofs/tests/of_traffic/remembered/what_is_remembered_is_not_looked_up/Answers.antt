use Rattle.test_packet_calls.proofs.tests.of_traffic.remembered.what_is_remembered_is_not_looked_up.Goals as goal

pub sends_each-requires : goal.sends_each-requires
sends_each-requires g c = c.no_memory-memory.ensures c.expect-policy.result c.table-table.result.pairs
