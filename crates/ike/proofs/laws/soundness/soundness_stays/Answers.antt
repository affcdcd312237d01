use Rattle.ike.proofs.AllowedLemmas.{step_sound}
use Rattle.ike.proofs.laws.soundness.soundness_stays.Goals as goal

pub returns : goal.returns
returns c =
    step_sound (record {
      stays = c.spis_stay_reserved.ensures;
      others = c.what_others_hold_stays.ensures;
      none = c.no_spi_comes.ensures;
      itself = c.associations_stay_themselves.ensures;
      short = c.what_is_kept_is_short.ensures.stays;
      begins = c.what_is_kept_is_short.ensures.begun;
      admits = c.what_is_kept_is_short.ensures.admitted;
      soundly = c.requests_are_remembered.ensures.sound;
      opened = c.requests_are_remembered.ensures.half_open;
      begins_soundly = c.requests_are_remembered.ensures.begun;
      admits_soundly = c.requests_are_remembered.ensures.admitted;
      whole = c.keys_stay_whole.ensures.taken;
      admits_whole = c.keys_stay_whole.ensures.admitted;
      begins_one = c.spis_come_by_orders.ensures.begun;
      begins_held = c.spis_come_by_orders.ensures.first;
      admits_none = c.spis_come_by_orders.ensures.admitted;
      room = c.acceptance_is_limited.ensures.room;
    }) (record {
      requested = c.orders_are_short_and_determined.ensures.kept;
      requested_soundly = c.requests_are_remembered.ensures.requested;
      asked = c.spis_come_by_orders.ensures.asked;
      asking = c.spis_come_by_orders.ensures.asking;
      further_held = c.a_further_spi_is_held.ensures.held;
      further_reserved = c.a_further_spi_is_held.ensures.reserved;
      further_others = c.a_further_spi_is_held.ensures.others;
      held = c.some_are_held_on.ensures.held;
      reserved = c.some_are_held_on.ensures.reserved;
    }) (record {
      further = record {
        itself = c.associations_stay_themselves.ensures;
        waits = c.children_are_made_of_their_messages.ensures.waits_further;
        ordered = c.children_are_made_of_their_messages.ensures.ordered_further;
        asked = c.children_are_made_of_their_messages.ensures.asked_further;
        next = c.requests_wait_on.ensures.next;
        begun_soundly = c.requests_are_remembered.ensures.begun;
      };
      hold = c.some_are_held_on.ensures.held;
      before = c.children_are_made_of_their_messages.ensures.asked_first;
    })
