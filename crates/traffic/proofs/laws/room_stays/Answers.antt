use Rattle.sadb.specs.Database.{Database, IsReady}
use Rattle.traffic.proofs.FollowingLemmas.{received, sent}
use Rattle.traffic.proofs.laws.room_stays.Goals as goal

pub returns-clause-received : goal.returns-clause-received
returns-clause-received c = λ old new packet outcome ready is.
    received (λ (a b : Database). IsReady a → IsReady b) (record {
      same = λ old ready. ready;
      opening = λ old new serial packet number next payload is ready. c.room_stays.ensures.opening old new serial packet number next payload ready is;
      refusing = λ old new serial packet fault is ready. c.room_stays.ensures.refusing old new serial packet fault ready is;
      sealing = λ old new serial next payload before number after is ready. c.room_stays.ensures.sealing old new serial next payload before number after ready is;
    }) old new packet outcome is ready

pub returns-clause-sent : goal.returns-clause-sent
returns-clause-sent c = λ old new policy packet outcome ready is.
    sent (λ (a b : Database). IsReady a → IsReady b) (record {
      same = λ old ready. ready;
      opening = λ old new serial packet number next payload is ready. c.room_stays.ensures.opening old new serial packet number next payload ready is;
      refusing = λ old new serial packet fault is ready. c.room_stays.ensures.refusing old new serial packet fault ready is;
      sealing = λ old new serial next payload before number after is ready. c.room_stays.ensures.sealing old new serial next payload before number after ready is;
    }) old new policy packet outcome is ready
