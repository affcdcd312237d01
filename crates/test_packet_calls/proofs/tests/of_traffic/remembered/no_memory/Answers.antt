use Rattle.test_packet_calls.proofs.tests.of_traffic.remembered.no_memory.Goals as goal

pub returns : goal.returns
returns c = λ policy pairs. c.answers_stay_right.ensures.none policy pairs c.new.result c.new.ensures
