use Rattle.sadb.specs.Database.{Database}
use Rattle.flows.specs.Staying.{NoneComes}
use Rattle.traffic.proofs.FollowingLemmas.{received, sent}
use Rattle.traffic.proofs.laws.no_pair_comes.Goals as goal

pub returns-clause-received : goal.returns-clause-received
returns-clause-received c =
    received (λ (a b : Database). NoneComes a.pairs b.pairs) (record {
      same = λ old. c.no_pair_comes.ensures.same old.pairs;
      opening = c.no_pair_comes.ensures.opening;
      refusing = c.no_pair_comes.ensures.refusing;
      sealing = c.no_pair_comes.ensures.sealing;
    })

pub returns-clause-sent : goal.returns-clause-sent
returns-clause-sent c =
    sent (λ (a b : Database). NoneComes a.pairs b.pairs) (record {
      same = λ old. c.no_pair_comes.ensures.same old.pairs;
      opening = c.no_pair_comes.ensures.opening;
      refusing = c.no_pair_comes.ensures.refusing;
      sealing = c.no_pair_comes.ensures.sealing;
    })
