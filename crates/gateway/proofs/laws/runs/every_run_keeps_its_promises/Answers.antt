use Rattle.gateway.proofs.AuthenticationLemmas.{AuthenticationFacts}
use Rattle.gateway.proofs.DeliveryLemmas.{DeliveryFacts}
use Rattle.gateway.proofs.KnownLemmas.{KnownFacts}
use Rattle.gateway.proofs.MomentLemmas.{MomentFacts}
use Rattle.gateway.proofs.PromiseLemmas.{keeps_promises}
use Rattle.gateway.proofs.RequestLemmas.{RequestFacts}
use Rattle.gateway.proofs.SpiLemmas.{SpiFacts}
use Rattle.gateway.proofs.laws.runs.every_run_keeps_its_promises.Goals as goal

pub returns : goal.returns
returns g c =
    let facts : RequestFacts = record {
      steps = record {
        follows = c.requests_are_remembered.ensures.follows;
        concluded = c.requests_are_remembered.ensures.concluded;
        opened = c.requests_are_remembered.ensures.half_open;
        begun = c.requests_are_remembered.ensures.begun;
        rises = c.requests_are_remembered.ensures.rises;
        given = c.requests_are_remembered.ensures.given;
        reflexive = c.later_incoming_follow.ensures.reflexive;
        transitive = c.later_incoming_follow.ensures.transitive;
      };
      alone = c.requests_take_effect.ensures.alone;
      always = c.requests_take_effect.ensures.always;
      repeated = c.repeats_are_answered.ensures.repeated;
      forgotten = c.repeats_are_answered.ensures.forgotten;
      first = c.repeats_are_answered.ensures.first;
      admitted = c.requests_are_remembered.ensures.admitted;
      unrefused = c.repeats_are_answered.ensures.unrefused;
      unrefused_first = c.repeats_are_answered.ensures.unrefused_first;
      otherwise = c.requests_take_effect.ensures.otherwise;
      replied = c.requests_take_effect.ensures.replied;
      only = c.repeats_are_answered.ensures.only;
      window = c.requests_are_remembered.ensures.window;
      gone = c.requests_are_remembered.ensures.gone;
      still = c.what_is_quiet_changes_nothing.ensures;
      soundly = c.requests_are_remembered.ensures.soundly;
    } in
    let moments : MomentFacts = record {
      timely = c.what_is_due_comes_in_time.ensures.timely;
      comes = c.what_is_due_comes_in_time.ensures.comes;
      unrefused = c.what_is_due_comes_in_time.ensures.unrefused;
      needed = c.what_is_due_comes_in_time.ensures.needed;
      stays = c.what_is_due_comes_in_time.ensures.stays;
    } in
    let packets : DeliveryFacts = record {
      changed = c.one_association_is_changed.ensures;
      fewer = c.some_are_held_on.ensures.pairs;
      judged = c.every_list_of_packets_is_judged.ensures;
      unchanged = c.other_changes_leave_windows.ensures.unchanged;
      bringing = c.other_changes_leave_windows.ensures.bringing;
      preparing = c.other_changes_leave_windows.ensures.preparing;
      marking = c.other_changes_leave_windows.ensures.marking;
      sending = c.other_changes_leave_windows.ensures.sending;
      up = c.a_packet_takes_one_number.ensures.up;
      dummy = c.a_packet_takes_one_number.ensures.dummy;
    } in
    let proved : AuthenticationFacts = record { proved = c.the_established_proved_themselves.ensures; keys = c.traces_name_what_is_held.ensures.keys } in
    let known : KnownFacts = record {
      serials = record {
        steps = record {
          laws = c.steps_keep_their_laws.ensures;
          waits = c.children_are_made_of_their_messages.ensures.waits;
          half_open = c.requests_are_remembered.ensures.half_open;
          stay = c.traces_name_what_is_held.ensures.keys;
          held = c.what_is_held_was_held.ensures;
          go = c.pairs_go_with_their_associations.ensures;
        };
        concluded = c.requests_are_remembered.ensures.concluded;
        begun = c.requests_are_remembered.ensures.begun;
        given = c.requests_are_remembered.ensures.given;
        rises = c.requests_are_remembered.ensures.rises;
        fewer = c.some_are_held_on.ensures.pairs;
        received = c.later_tables_follow.ensures.received;
        sent = c.later_tables_follow.ensures.sent;
      };
      inside = record {
        first = c.children_are_made_of_their_messages-2.ensures.asked_first;
        further = c.children_are_made_of_their_messages-2.ensures.waits_further;
        ordered = c.children_are_made_of_their_messages-2.ensures.ordered_further;
        held = c.some_are_held_on.ensures.held;
      };
      strangers = record {
        effective = c.receptions_say_why.ensures.effective;
        answering = c.receptions_say_why.ensures.answering;
        initial = c.receptions_say_why.ensures.initial;
        quiet = c.what_is_quiet_changes_nothing.ensures;
        itself = c.associations_stay_themselves.ensures;
      };
      one = c.octets_spell_one_message.ensures.message;
    } in
    let spis : SpiFacts = record {
      one = c.an_spi_names_one_pair.ensures;
      transitive = c.later_tables_follow-2.ensures.transitive;
      preparing = c.later_tables_follow-2.ensures.preparing;
      marking = c.later_tables_follow-2.ensures.marking;
      received = c.later_tables_follow.ensures.received;
      sent = c.later_tables_follow.ensures.sent;
      changed = c.one_association_is_changed.ensures;
      fewer = c.some_are_held_on.ensures.pairs;
    } in
    λ meaning_of inputs outputs old new run. keeps_promises facts c.refusals_change_nothing.ensures.refused moments packets proved known spis meaning_of inputs outputs old new run
