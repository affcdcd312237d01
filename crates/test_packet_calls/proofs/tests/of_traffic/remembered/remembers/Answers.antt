use Rattle.test_packet_calls.proofs.tests.of_traffic.remembered.remembers.Goals as goal

pub sends-requires : goal.sends-requires
sends-requires g c = c.no_memory-memory.ensures c.expect-policy.result c.table-table.result.pairs
