use Rattle.std.proofs.Common.{refl}
use Rattle.effects.specs.Taking.{asker_of, meaning_of}
use Rattle.laws_two_ends.proofs.WorldRecordLemmas.{world_record}
use Rattle.laws_two_ends.proofs.laws.the_ends_of_a_world_make_one_record.Goals as goal

pub returns : goal.returns
returns g c =
    let meant = meaning_of g.C.Sealer g.C.Agreement g.C.Proof in
    world_record c.keys_come_by_what_is_read.ensures.initiator c.keys_come_by_what_is_read.ensures.responder meant g.C.Agreement.public_value (λ caller. refl)
    (λ caller answerer. c.both_ends_make_one_record.ensures (asker_of (meant caller)) (meant answerer).cipher (meant answerer).group)
