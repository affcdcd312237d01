use Rattle.sadb.specs.Database.{Database, IsSoundTable}
use Rattle.sadb.specs.Following.{Follows}
use Rattle.traffic.proofs.FollowingLemmas.{as_before, received, sent}
use Rattle.traffic.proofs.laws.later_tables_follow.Goals as goal

pub returns-clause-received : goal.returns-clause-received
returns-clause-received c = λ old new packet outcome sound is.
    received (λ (a b : Database). IsSoundTable a → Follows a b) (record {
      same = λ old sound. c.later_tables_follow.ensures.preparing old old sound (as_before old);
      opening = λ old new serial packet number next payload is sound. c.later_tables_follow.ensures.opening old new serial packet number next payload sound is;
      refusing = λ old new serial packet fault is sound. c.later_tables_follow.ensures.refusing old new serial packet fault sound is;
      sealing = λ old new serial next payload before number after is sound. c.later_tables_follow.ensures.sealing old new serial next payload before number after sound is;
    }) old new packet outcome is sound

pub returns-clause-sent : goal.returns-clause-sent
returns-clause-sent c = λ old new policy packet outcome sound is.
    sent (λ (a b : Database). IsSoundTable a → Follows a b) (record {
      same = λ old sound. c.later_tables_follow.ensures.preparing old old sound (as_before old);
      opening = λ old new serial packet number next payload is sound. c.later_tables_follow.ensures.opening old new serial packet number next payload sound is;
      refusing = λ old new serial packet fault is sound. c.later_tables_follow.ensures.refusing old new serial packet fault sound is;
      sealing = λ old new serial next payload before number after is sound. c.later_tables_follow.ensures.sealing old new serial next payload before number after sound is;
    }) old new policy packet outcome is sound
