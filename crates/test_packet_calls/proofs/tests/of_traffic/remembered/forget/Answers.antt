use Rattle.test_packet_calls.proofs.tests.of_traffic.remembered.forget.Goals as goal

pub returns : goal.returns
returns c = λ policy pairs. c.answers_stay_right.ensures.none policy pairs c.forget.new.self c.forget.ensures.none
