use Rattle.laws_recovery.proofs.WorldLemmas as world
use Rattle.laws_recovery.proofs.laws.each_end_of_a_world_has_its_history.Goals as goal

pub returns-clause-step : goal.returns-clause-step
returns-clause-step g c = λ meaning_of h takes. (world.step_of meaning_of h takes, takes.fresh)

pub returns-clause-history : goal.returns-clause-history
returns-clause-history g c = λ meaning_of end old new happenings trail. world.history_at meaning_of end happenings old new trail
