use Rattle.std.proofs.Common.{arith}
use Rattle.laws_two_ends.proofs.laws.no_more_waits_than_the_other_end_takes.Goals as goal

pub returns : goal.returns
returns g c keys world whole end asking answering both =
    let agree = c.ends_of_a_sound_world_agree.ensures keys world whole.sound in
    let few = (agree.windows end asking answering both).few in
    let fits = c.windows_are_those_told.ensures.fit keys world whole.windows end asking both.asks in
    omega (arith, few, fits)
