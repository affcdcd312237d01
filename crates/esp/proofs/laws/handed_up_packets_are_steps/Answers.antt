use Rattle.esp.proofs.laws.handed_up_packets_are_steps.Goals as goal

pub returns : goal.returns
returns g c = λ r s b o h. h
