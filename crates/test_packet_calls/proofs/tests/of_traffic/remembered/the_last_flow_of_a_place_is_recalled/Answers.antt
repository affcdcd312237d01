use Rattle.test_packet_calls.proofs.tests.of_traffic.remembered.the_last_flow_of_a_place_is_recalled.Goals as goal

pub sends_each-requires : goal.sends_each-requires
sends_each-requires g c = c.no_memory-memory.ensures c.expect-policy.result c.table-table.result.pairs
