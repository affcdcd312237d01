use Rattle.gateway.specs.WorldHistories.{passages_at}
use Rattle.gateway.specs.Worlds.{gateway_at}
use Rattle.gateway.proofs.ClosingLemmas.{new_carries_nothing, nothing_is_carried, SerialFacts}
use Rattle.laws_authenticated.proofs.laws.a_closed_association_carries_nothing_more.Goals as goal

pub returns : goal.returns
returns g c =
    let facts : SerialFacts = record {
      steps = record {
        laws = c.steps_keep_their_laws.ensures;
        waits = c.children_are_made_of_their_messages.ensures.waits;
        half_open = c.requests_are_remembered.ensures.half_open;
        stay = c.traces_name_what_is_held.ensures.keys;
        held = c.what_is_held_was_held.ensures;
        go = c.pairs_go_with_their_associations.ensures;
      };
      concluded = c.requests_are_remembered.ensures.concluded;
      begun = c.requests_are_remembered.ensures.begun;
      given = c.requests_are_remembered.ensures.given;
      rises = c.requests_are_remembered.ensures.rises;
      fewer = c.some_are_held_on.ensures.pairs;
      received = c.later_tables_follow.ensures.received;
      sent = c.later_tables_follow.ensures.sent;
    } in
    record {
      closed = λ meaning_of inputs outputs old new passages place serial history all is. nothing_is_carried facts meaning_of old new passages history.trail all place serial is;
      begun = λ meaning_of config entries start caller inputs outputs new passages place serial history is.
          new_carries_nothing facts meaning_of config entries start caller new passages history.trail place serial is;
      at_each_end = λ meaning_of end events outputs old new happenings place serial history all is.
          nothing_is_carried facts meaning_of (gateway_at end old) (gateway_at end new) (passages_at end happenings)
          (c.each_end_has_its_events.ensures.history meaning_of end events outputs old new happenings history).trail all place serial is;
    }
