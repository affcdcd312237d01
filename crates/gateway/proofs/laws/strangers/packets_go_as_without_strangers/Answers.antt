use Rattle.std.proofs.Common.{ap}
use Rattle.gateway.proofs.EffectLemmas.{facts_of, ground_of, leaves_ground, one_packet, same_ground, still_of, Ground}
use Rattle.gateway.proofs.LeavingLemmas.{answered_alike, each_is}
use Rattle.gateway.proofs.laws.strangers.packets_go_as_without_strangers.Goals as goal
use Rattle.gateway.specs.LeavingOut.{GivesPacket}

pub returns : goal.returns
returns g c meaning_of marks also passages others old other new after are entries table out also_out =
    let facts = facts_of c.steps_are_determined.ensures.steps c.keys_stay_whole.ensures.sound in
    let still =
    still_of c.later_tables_are_determined.ensures.prepared c.strangers_change_nothing.ensures.strange c.strangers_change_nothing.ensures.first
    c.strangers_change_nothing.ensures.answer in
    let end = answered_alike meaning_of ground_of GivesPacket (one_packet facts meaning_of) marks also passages others old other new after are (same_ground other old entries table)
    (λ place p marked there. leaves_ground still meaning_of p (each_is meaning_of passages old new are.first place p there) (out place p marked there))
    (λ place p marked there. leaves_ground still meaning_of p (each_is meaning_of others other after are.second place p there) (also_out place p marked there)) in
    (end.0, ap (λ (ground : Ground). ground.1) end.1)
