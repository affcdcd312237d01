use Rattle.gateway.specs.Contents.{state_content}
use Rattle.gateway.proofs.EffectLemmas.{facts_of, one_step, still_of, without_effect}
use Rattle.gateway.proofs.LeavingLemmas.{answered_alike, each_is}
use Rattle.gateway.proofs.laws.strangers.what_has_no_effect_can_be_left_out.Goals as goal
use Rattle.gateway.specs.LeavingOut.{IsRightlyGiven}

pub returns : goal.returns
returns g c meaning_of marks also passages others old other new after are same out also_out =
    let facts = facts_of c.steps_are_determined.ensures.steps c.keys_stay_whole.ensures.sound in
    let still =
    still_of c.later_tables_are_determined.ensures.prepared c.strangers_change_nothing.ensures.strange c.strangers_change_nothing.ensures.first
    c.strangers_change_nothing.ensures.answer in
    answered_alike meaning_of state_content (IsRightlyGiven meaning_of) (one_step facts meaning_of) marks also passages others old other new after are same
    (λ place p marked there. without_effect still c.refusals_change_nothing.ensures.refused meaning_of p (each_is meaning_of passages old new are.first place p there) (out place p marked there))
    (λ place p marked there. without_effect still c.refusals_change_nothing.ensures.refused meaning_of p (each_is meaning_of others other after are.second place p there) (also_out place p marked there))
