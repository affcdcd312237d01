use Rattle.std.proofs.Common.{refl}
use Rattle.effects.specs.Taking.{meaning_of}
use Rattle.ike.specs.Orders.{Probe}
use Rattle.ike.specs.Steps.{Order}
use Rattle.laws_recovery.proofs.CopyLemmas as copies
use Rattle.laws_recovery.proofs.CopyLemmas.{MomentFacts}
use Rattle.laws_recovery.proofs.MatchingLemmas as matching
use Rattle.laws_recovery.proofs.ResponseLemmas.{MessageLaws}
use Rattle.laws_recovery.proofs.TakingLemmas.{TakingFacts}
use Rattle.laws_recovery.proofs.laws.a_lost_response_comes_again.Goals as goal

pub returns-clause-again : goal.returns-clause-again
returns-clause-again g c =
    let moments : MomentFacts = record {
      comes = c.what_is_due_comes_in_time.ensures.comes;
      unrefused = c.what_is_due_comes_in_time.ensures.unrefused;
      still = c.what_is_due_comes_in_time.ensures.stays;
    } in
    let facts : TakingFacts = record {
      steps = record {
        follows = c.requests_are_remembered.ensures.follows;
        concluded = c.requests_are_remembered.ensures.concluded;
        opened = c.requests_are_remembered.ensures.half_open;
        begun = c.requests_are_remembered.ensures.begun;
        rises = c.requests_are_remembered.ensures.rises;
        given = c.requests_are_remembered.ensures.given;
        reflexive = c.later_incoming_follow.ensures.reflexive;
        transitive = c.later_incoming_follow.ensures.transitive;
      };
      alone = c.requests_take_effect.ensures.alone;
      always = c.requests_take_effect.ensures.always;
      unrefused = c.repeats_are_answered.ensures.unrefused;
      repeated = c.repeats_are_answered.ensures.repeated;
      soundly = c.requests_are_remembered.ensures.soundly;
    } in
    λ serial other number a b octets reply asking between repeating taking since arriving history took takes answers trail is arrives ends near memory.
    copies.comes_again moments facts _ (λ one other fresh seal. c.fresh_octets_open.ensures (meaning_of g.C.Sealer g.C.Agreement g.C.Proof one) (Order (Probe 0) fresh) refl refl seal) serial number a octets asking between repeating history.until
    other b reply taking since arriving took takes answers trail is arrives ends near memory

pub returns-clause-matched : goal.returns-clause-matched
returns-clause-matched g c =
    let moments : MomentFacts = record {
      comes = c.what_is_due_comes_in_time.ensures.comes;
      unrefused = c.what_is_due_comes_in_time.ensures.unrefused;
      still = c.what_is_due_comes_in_time.ensures.stays;
    } in
    let facts : TakingFacts = record {
      steps = record {
        follows = c.requests_are_remembered.ensures.follows;
        concluded = c.requests_are_remembered.ensures.concluded;
        opened = c.requests_are_remembered.ensures.half_open;
        begun = c.requests_are_remembered.ensures.begun;
        rises = c.requests_are_remembered.ensures.rises;
        given = c.requests_are_remembered.ensures.given;
        reflexive = c.later_incoming_follow.ensures.reflexive;
        transitive = c.later_incoming_follow.ensures.transitive;
      };
      alone = c.requests_take_effect.ensures.alone;
      always = c.requests_take_effect.ensures.always;
      unrefused = c.repeats_are_answered.ensures.unrefused;
      repeated = c.repeats_are_answered.ensures.repeated;
      soundly = c.requests_are_remembered.ensures.soundly;
    } in
    let laws : MessageLaws = record {
      plainly = c.plain_spellings_are_spellings.ensures.message;
      one_message = c.octets_spell_one_message.ensures.message;
      no_fault = c.what_is_spelled_has_no_fault.ensures;
      replies = c.messages_open.ensures.reply;
    } in
    λ serial other number a b d octets reply asking between taking matched history took seal arrives ends established by comes ends_then memory.
    matching.comes_back moments facts laws _ (λ one other fresh seal. c.fresh_octets_open.ensures (meaning_of g.C.Sealer g.C.Agreement g.C.Proof one) (Order (Probe 0) fresh) refl refl seal) (λ one other. refl) serial number a octets asking between matched history
    other b d reply taking took seal arrives ends established by comes ends_then memory
