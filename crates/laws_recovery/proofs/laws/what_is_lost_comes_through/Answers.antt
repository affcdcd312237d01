use Rattle.std.proofs.Common.{refl}
use Rattle.effects.specs.Taking.{meaning_of}
use Rattle.ike.specs.Orders.{Probe}
use Rattle.ike.specs.Steps.{Order}
use Rattle.laws_recovery.proofs.CopyLemmas.{MomentFacts}
use Rattle.laws_recovery.proofs.ResponseLemmas.{MessageLaws}
use Rattle.laws_recovery.proofs.TakingLemmas.{TakingFacts}
use Rattle.laws_recovery.proofs.WorldCopyLemmas as world
use Rattle.laws_recovery.proofs.laws.what_is_lost_comes_through.Goals as goal

pub returns-clause-processed : goal.returns-clause-processed
returns-clause-processed g c =
    let moments : MomentFacts = record {
      comes = c.what_is_due_comes_in_time.ensures.comes;
      unrefused = c.what_is_due_comes_in_time.ensures.unrefused;
      still = c.what_is_due_comes_in_time.ensures.stays;
    } in
    let facts : TakingFacts = record {
      steps = record {
        follows = c.requests_are_remembered.ensures.follows;
        concluded = c.requests_are_remembered.ensures.concluded;
        opened = c.requests_are_remembered.ensures.half_open;
        begun = c.requests_are_remembered.ensures.begun;
        rises = c.requests_are_remembered.ensures.rises;
        given = c.requests_are_remembered.ensures.given;
        reflexive = c.later_incoming_follow.ensures.reflexive;
        transitive = c.later_incoming_follow.ensures.transitive;
      };
      alone = c.requests_take_effect.ensures.alone;
      always = c.requests_take_effect.ensures.always;
      unrefused = c.repeats_are_answered.ensures.unrefused;
      repeated = c.repeats_are_answered.ensures.repeated;
      soundly = c.requests_are_remembered.ensures.soundly;
    } in
    λ old new happenings end serial other number b arriving trail comes established.
    world.processed_there moments facts _ (λ one other fresh seal. c.fresh_octets_open.ensures (meaning_of g.C.Sealer g.C.Agreement g.C.Proof one) (Order (Probe 0) fresh) refl refl seal) old new happenings trail end serial other number b arriving comes established

pub returns-clause-again : goal.returns-clause-again
returns-clause-again g c =
    let moments : MomentFacts = record {
      comes = c.what_is_due_comes_in_time.ensures.comes;
      unrefused = c.what_is_due_comes_in_time.ensures.unrefused;
      still = c.what_is_due_comes_in_time.ensures.stays;
    } in
    let facts : TakingFacts = record {
      steps = record {
        follows = c.requests_are_remembered.ensures.follows;
        concluded = c.requests_are_remembered.ensures.concluded;
        opened = c.requests_are_remembered.ensures.half_open;
        begun = c.requests_are_remembered.ensures.begun;
        rises = c.requests_are_remembered.ensures.rises;
        given = c.requests_are_remembered.ensures.given;
        reflexive = c.later_incoming_follow.ensures.reflexive;
        transitive = c.later_incoming_follow.ensures.transitive;
      };
      alone = c.requests_take_effect.ensures.alone;
      always = c.requests_take_effect.ensures.always;
      unrefused = c.repeats_are_answered.ensures.unrefused;
      repeated = c.repeats_are_answered.ensures.repeated;
      soundly = c.requests_are_remembered.ensures.soundly;
    } in
    λ old new happenings end serial other number b arriving reply trail comes taken near memory.
    world.answered_again moments facts _ (λ one other fresh seal. c.fresh_octets_open.ensures (meaning_of g.C.Sealer g.C.Agreement g.C.Proof one) (Order (Probe 0) fresh) refl refl seal) old new happenings trail end serial other number b arriving comes reply taken near memory

pub returns-clause-matched : goal.returns-clause-matched
returns-clause-matched g c =
    let moments : MomentFacts = record {
      comes = c.what_is_due_comes_in_time.ensures.comes;
      unrefused = c.what_is_due_comes_in_time.ensures.unrefused;
      still = c.what_is_due_comes_in_time.ensures.stays;
    } in
    let facts : TakingFacts = record {
      steps = record {
        follows = c.requests_are_remembered.ensures.follows;
        concluded = c.requests_are_remembered.ensures.concluded;
        opened = c.requests_are_remembered.ensures.half_open;
        begun = c.requests_are_remembered.ensures.begun;
        rises = c.requests_are_remembered.ensures.rises;
        given = c.requests_are_remembered.ensures.given;
        reflexive = c.later_incoming_follow.ensures.reflexive;
        transitive = c.later_incoming_follow.ensures.transitive;
      };
      alone = c.requests_take_effect.ensures.alone;
      always = c.requests_take_effect.ensures.always;
      unrefused = c.repeats_are_answered.ensures.unrefused;
      repeated = c.repeats_are_answered.ensures.repeated;
      soundly = c.requests_are_remembered.ensures.soundly;
    } in
    let laws : MessageLaws = record {
      plainly = c.plain_spellings_are_spellings.ensures.message;
      one_message = c.octets_spell_one_message.ensures.message;
      no_fault = c.what_is_spelled_has_no_fault.ensures;
      replies = c.messages_open.ensures.reply;
    } in
    λ old new happenings end serial number arriving trail comes memory.
    world.matched_there moments facts laws _ (λ one other fresh seal. c.fresh_octets_open.ensures (meaning_of g.C.Sealer g.C.Agreement g.C.Proof one) (Order (Probe 0) fresh) refl refl seal) (λ one other. refl) old new happenings trail end serial number arriving comes memory
