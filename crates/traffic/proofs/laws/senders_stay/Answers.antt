use Rattle.std.proofs.Common.{refl}
use Rattle.sadb.specs.Database.{Database}
use Rattle.sadb.specs.Laying.{KeepsSenders}
use Rattle.traffic.proofs.FollowingLemmas.{received, sent}
use Rattle.traffic.proofs.laws.senders_stay.Goals as goal

pub returns-clause-received : goal.returns-clause-received
returns-clause-received c =
    received (λ (a b : Database). KeepsSenders a.pairs b.pairs) (record {
      same = λ old. record { each = λ serial. refl };
      opening = c.senders_stay.ensures.opening;
      refusing = c.senders_stay.ensures.refusing;
      sealing = c.senders_stay.ensures.sealing;
    })

pub returns-clause-sent : goal.returns-clause-sent
returns-clause-sent c =
    sent (λ (a b : Database). KeepsSenders a.pairs b.pairs) (record {
      same = λ old. record { each = λ serial. refl };
      opening = c.senders_stay.ensures.opening;
      refusing = c.senders_stay.ensures.refusing;
      sealing = c.senders_stay.ensures.sealing;
    })
