-- A worked exchange of two new gateways, for which all that is asked of IKE_SA_INIT is shown to hold.
use Rattle.base.specs.Octets.{Octets}
use Rattle.base.specs.declared.address.Range.TheVariants.{V4}
use Rattle.policy.specs.declared.entry.Action.TheVariants.{Protect}
use Rattle.policy.specs.declared.entry.Entry.{Entry}
use Rattle.effects.specs.Taking.{asker_of}
use Rattle.gateway.specs.Histories.{Passage}
use Rattle.gateway.specs.declared.world.stored.End.{End}
use Rattle.gateway.specs.declared.world.stored.End.TheVariants.{A, B}
use Rattle.laws_two_ends.specs.WorkedRecords.{fresh_of, CanBeMeant}
use Rattle.laws_two_ends.specs.WorkedRuns.{all_protected, config_at, run_meaning, spi_at}
use Rattle.laws_opening.specs.Beside.{IsExchangeBeside}
use Rattle.laws_opening.specs.Opened.{Side}
use Rattle.laws_opening.specs.Opening.{CanOpen, IsExchange}

-- how the ends of the worked run are made: each is the other's peer, and protects all traffic of IPv4
abbrev pub worked_side : End → Side
worked_side end = record { config = config_at end; entries = all_protected; start = spi_at end }

-- the entry by which the one end is told to begin
abbrev pub first_entry : Entry
first_entry = record {
  protocol = 0;
  local = V4 0 4294967295;
  remote = V4 0 4294967295;
  local_ports = (0, 65535);
  remote_ports = (0, 65535);
  action = Protect;
}

-- There is such an exchange, whatever the callers' values, for a caller that there can be.
pub record IsWorkedOpening {C : Type 0} (a b : C) : Type 0 where
  pub p : Passage C
  pub q : Passage C
  pub r : Passage C
  pub shared : Octets
  pub can_be : CanBeMeant (asker_of run_meaning) run_meaning.plain_of
  pub can : CanOpen run_meaning (worked_side A) 0 first_entry (fresh_of 1) (fresh_of 2) shared
  pub exchange : IsExchange (λ _. run_meaning) (worked_side A) (worked_side B) a b 0 (fresh_of 1) (fresh_of 2) (fresh_of 3) p q r
  -- It also meets the premises on gateways that may hold other IKE SAs. These two hold none, and nothing
  -- comes to either in between.
  pub beside : IsExchangeBeside (λ _. run_meaning) 0 first_entry (fresh_of 1) (fresh_of 2) (fresh_of 3) p q r
