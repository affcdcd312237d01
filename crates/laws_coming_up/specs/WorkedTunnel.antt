-- A worked tunnel between two new gateways, for which all that is presumed of one is shown to hold.
use Rattle.base.specs.Octets.{Octets}
use Rattle.effects.specs.Taking.{asker_of}
use Rattle.gateway.specs.Histories.{Passage}
use Rattle.gateway.specs.declared.world.stored.End.TheVariants.{A, B}
use Rattle.laws_two_ends.specs.WorkedRecords.{fresh_of, CanBeMeant}
use Rattle.laws_two_ends.specs.WorkedRuns.{run_meaning}
use Rattle.laws_opening.specs.Worked.{first_entry, worked_side}
use Rattle.laws_opening.specs.Opening.{CanOpen}
use Rattle.laws_coming_up.specs.ComingUp.{PoliciesMeet}
use Rattle.laws_coming_up.specs.ComingUpBeside.{HasPlace}
use Rattle.laws_coming_up.specs.BringingUp.{AreSetUp, CanProveItself}
use Rattle.laws_coming_up.specs.BringingUpBeside.{AreSetUpBeside}

-- There is such a tunnel, whatever the callers' values, for a caller that there can be.
pub record IsWorkedTunnel {C : Type 0} (a b : C) : Type 0 where
  pub p : Passage C
  pub q : Passage C
  pub r : Passage C
  pub s : Passage C
  pub t : Passage C
  pub shared : Octets
  pub can_be : CanBeMeant (asker_of run_meaning) run_meaning.plain_of
  pub can : CanOpen run_meaning (worked_side A) 0 first_entry (fresh_of 1) (fresh_of 2) shared
  pub one_proves : CanProveItself (worked_side A) (worked_side B) run_meaning run_meaning
  pub other_proves : CanProveItself (worked_side B) (worked_side A) run_meaning run_meaning
  pub set_up : AreSetUp (λ _. run_meaning) (worked_side A) (worked_side B) a b 0 (fresh_of 1) (fresh_of 2) (fresh_of 3) p q r s t
  pub meet : PoliciesMeet (worked_side B).entries first_entry
  -- It also meets the premises on gateways that may hold other IKE SAs and pairs. These two hold none, and
  -- nothing comes to either in between.
  pub beside : AreSetUpBeside (λ _. run_meaning) 0 first_entry (fresh_of 1) (fresh_of 2) (fresh_of 3) shared p q r s t
  pub place : HasPlace s.before.table
