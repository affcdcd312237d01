use Rattle.std.proofs.Common.{refl}
use Rattle.effects.specs.Taking.{meaning_of}
use Rattle.ike.specs.Orders.{Probe}
use Rattle.ike.specs.Steps.{Order}
use Rattle.laws_recovery.proofs.CopyLemmas as copies
use Rattle.laws_recovery.proofs.CopyLemmas.{MomentFacts}
use Rattle.laws_recovery.proofs.TakingLemmas.{TakingFacts}
use Rattle.laws_recovery.proofs.TakingLemmas as taking
use Rattle.laws_recovery.proofs.laws.a_lost_request_is_answered_by_a_later_copy.Goals as goal

pub returns-clause-same : goal.returns-clause-same
returns-clause-same g c =
    let moments : MomentFacts = record {
      comes = c.what_is_due_comes_in_time.ensures.comes;
      unrefused = c.what_is_due_comes_in_time.ensures.unrefused;
      still = c.what_is_due_comes_in_time.ensures.stays;
    } in
    let facts : TakingFacts = record {
      steps = record {
        follows = c.requests_are_remembered.ensures.follows;
        concluded = c.requests_are_remembered.ensures.concluded;
        opened = c.requests_are_remembered.ensures.half_open;
        begun = c.requests_are_remembered.ensures.begun;
        rises = c.requests_are_remembered.ensures.rises;
        given = c.requests_are_remembered.ensures.given;
        reflexive = c.later_incoming_follow.ensures.reflexive;
        transitive = c.later_incoming_follow.ensures.transitive;
      };
      alone = c.requests_take_effect.ensures.alone;
      always = c.requests_take_effect.ensures.always;
      unrefused = c.repeats_are_answered.ensures.unrefused;
      repeated = c.repeats_are_answered.ensures.repeated;
      soundly = c.requests_are_remembered.ensures.soundly;
    } in
    λ serial number a octets asking between repeating history.
    copies.as_first moments facts _ (λ one other fresh seal. c.fresh_octets_open.ensures (meaning_of g.C.Sealer g.C.Agreement g.C.Proof one) (Order (Probe 0) fresh) refl refl seal) serial number a octets asking between repeating history.until

pub returns-clause-processed : goal.returns-clause-processed
returns-clause-processed g c =
    let moments : MomentFacts = record {
      comes = c.what_is_due_comes_in_time.ensures.comes;
      unrefused = c.what_is_due_comes_in_time.ensures.unrefused;
      still = c.what_is_due_comes_in_time.ensures.stays;
    } in
    let facts : TakingFacts = record {
      steps = record {
        follows = c.requests_are_remembered.ensures.follows;
        concluded = c.requests_are_remembered.ensures.concluded;
        opened = c.requests_are_remembered.ensures.half_open;
        begun = c.requests_are_remembered.ensures.begun;
        rises = c.requests_are_remembered.ensures.rises;
        given = c.requests_are_remembered.ensures.given;
        reflexive = c.later_incoming_follow.ensures.reflexive;
        transitive = c.later_incoming_follow.ensures.transitive;
      };
      alone = c.requests_take_effect.ensures.alone;
      always = c.requests_take_effect.ensures.always;
      unrefused = c.repeats_are_answered.ensures.unrefused;
      repeated = c.repeats_are_answered.ensures.repeated;
      soundly = c.requests_are_remembered.ensures.soundly;
    } in
    λ serial other number a b octets asking between repeating arriving history is arrives ends established.
    copies.processed moments facts _ (λ one other fresh seal. c.fresh_octets_open.ensures (meaning_of g.C.Sealer g.C.Agreement g.C.Proof one) (Order (Probe 0) fresh) refl refl seal) serial number a octets asking between repeating history.until
    other b arriving is arrives ends established

pub returns-clause-answered : goal.returns-clause-answered
returns-clause-answered g c =
    let facts : TakingFacts = record {
      steps = record {
        follows = c.requests_are_remembered.ensures.follows;
        concluded = c.requests_are_remembered.ensures.concluded;
        opened = c.requests_are_remembered.ensures.half_open;
        begun = c.requests_are_remembered.ensures.begun;
        rises = c.requests_are_remembered.ensures.rises;
        given = c.requests_are_remembered.ensures.given;
        reflexive = c.later_incoming_follow.ensures.reflexive;
        transitive = c.later_incoming_follow.ensures.transitive;
      };
      alone = c.requests_take_effect.ensures.alone;
      always = c.requests_take_effect.ensures.always;
      unrefused = c.repeats_are_answered.ensures.unrefused;
      repeated = c.repeats_are_answered.ensures.repeated;
      soundly = c.requests_are_remembered.ensures.soundly;
    } in
    λ other number arriving is takes. taking.replied facts _ arriving is other number takes
