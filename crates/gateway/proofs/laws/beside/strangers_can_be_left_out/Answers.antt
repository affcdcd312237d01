use Rattle.gateway.proofs.CarryingLemmas as carrying
use Rattle.gateway.proofs.EffectLemmas.{facts_of, still_of}
use Rattle.gateway.proofs.StandingLemmas.{StepFacts}
use Rattle.gateway.proofs.BegunLemmas as begun
use Rattle.gateway.proofs.BesideLemmas.{beside, steps_of}
use Rattle.gateway.proofs.DatagramRemoval.{RemovalLaws}
use Rattle.gateway.proofs.PairRenaming.{pair_laws}
use Rattle.gateway.proofs.laws.beside.strangers_can_be_left_out.Goals as goal
use Rattle.gateway.specs.Beside.{itself}

pub returns-clause-begun : goal.returns-clause-begun
returns-clause-begun g c = λ old other same. begun.begun (pair_laws itself) old other same

pub returns-clause-beside : goal.returns-clause-beside
returns-clause-beside g c =
    let facts : StepFacts = record {
      laws = c.steps_keep_their_laws.ensures;
      waits = c.children_are_made_of_their_messages.ensures.waits;
      half_open = c.requests_are_remembered.ensures.half_open;
      stay = c.traces_name_what_is_held.ensures.keys;
      held = c.what_is_held_was_held.ensures;
      go = c.pairs_go_with_their_associations.ensures;
    } in
    let removal : RemovalLaws = record { itself = c.associations_stay_themselves.ensures } in
    let steps = facts_of c.steps_are_determined.ensures.steps c.keys_stay_whole.ensures.sound in
    let still = still_of c.later_tables_are_determined.ensures.prepared c.strangers_change_nothing.ensures.strange c.strangers_change_nothing.ensures.first c.strangers_change_nothing.ensures.answer in
    λ meaning_of marks r strange passages others old new other after trail also holds standing also_standing given.
    beside (steps_of steps still removal c.each_association_was_there_or_came.ensures.rising (λ meaning_of p is all. carrying.stepped facts meaning_of p is all))
    meaning_of marks r strange passages others old new other after trail also (record { holds = holds; standing = standing; also = also_standing }) given
