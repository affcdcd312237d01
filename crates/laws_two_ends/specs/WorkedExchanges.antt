-- A worked exchange of IKE_SA_INIT between two new gateways, in the run that brings up their first child.
use Rattle.std.specs.Prelude.{List}
use Rattle.gateway.specs.WorldHistories.{Happening, IsWorldTrail}
use Rattle.gateway.specs.Worlds.{WorldState}
use Rattle.gateway.specs.declared.world.stored.End.TheVariants.{A, B}
use Rattle.laws_two_ends.specs.WorkedRecords.{worked_record}
use Rattle.laws_two_ends.specs.WorkedRuns.{new_ends, run_meaning}
use Rattle.gateway.specs.Exchanges.{HaveExchanged, HaveIntroduced, HoldsWith}

-- Both begin new. In this history A's first IKE SA asks, B's first one is made of that and answers, and A's
-- reads the answer: of the very octets, so by what they tell. After it both are held, under the record of
-- keys that both came to.
pub record IsWorkedExchange {C : Type 0} (a b : C) : Type 0 where
  pub happenings : List (Happening C)
  pub last : WorldState C
  pub trail : IsWorldTrail (λ _. run_meaning) (new_ends a b) happenings last
  pub exchanged : HaveExchanged happenings A 1 1
  pub introduced : HaveIntroduced happenings A 1 1
  pub asking : HoldsWith last A 1 worked_record
  pub answering : HoldsWith last B 1 worked_record
