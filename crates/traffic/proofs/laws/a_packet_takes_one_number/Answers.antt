use Rattle.traffic.proofs.ReceptionLemmas.{carrying_takes_one, dummies_take_one, refused_after, refused_before}
use Rattle.traffic.proofs.laws.a_packet_takes_one_number.Goals as goal

pub returns-clause-up : goal.returns-clause-up
returns-clause-up c = λ old new packet inner child number is. carrying_takes_one old packet child number inner new is

pub returns-clause-dummy : goal.returns-clause-dummy
returns-clause-dummy c = λ old new packet child number is. dummies_take_one old packet child number new is

pub returns-clause-refused_after_judging : goal.returns-clause-refused_after_judging
returns-clause-refused_after_judging c = λ old new packet fault is after. refused_after old packet fault new is after

pub returns-clause-refused_before : goal.returns-clause-refused_before
returns-clause-refused_before c = λ old new packet fault is before. refused_before old packet fault new is before
