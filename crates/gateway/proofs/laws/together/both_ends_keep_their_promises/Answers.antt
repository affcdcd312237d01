use Rattle.std.proofs.Common.{refl}
use Rattle.gateway.proofs.CarryLemmas.{both_ends_promises, CarryLaws}
use Rattle.gateway.proofs.ChildLemmas.{ChildLaws}
use Rattle.gateway.proofs.MirrorLemmas.{MirrorLaws}
use Rattle.gateway.proofs.MoveLemmas.{TurnLaws}
use Rattle.ike.specs.Payloads.{OpensToItself}
use Rattle.gateway.proofs.PairLemmas.{PairLaws}
use Rattle.gateway.proofs.laws.together.both_ends_keep_their_promises.Goals as goal

pub returns : goal.returns
returns g c =
    let body_of = g.C.Sealer.body_of in
    let plain_of = g.C.Sealer.plain_of in
    let turns : TurnLaws = record {
      moves = c.steps_are_moves.ensures;
      traces = record { traced = c.traces_name_what_is_held.ensures.traced };
      again = c.traces_name_what_is_held.ensures.again;
      keys = c.traces_name_what_is_held.ensures.keys;
    } in
    let kin : ChildLaws = record {
      made = c.children_are_made_of_their_messages.ensures.made;
      asked = c.children_are_made_of_their_messages.ensures.asked;
      waits = c.children_are_made_of_their_messages.ensures.waits;
      asked_further = c.children_are_made_of_their_messages.ensures.asked_further;
      waits_further = c.children_are_made_of_their_messages.ensures.waits_further;
      sound = c.keys_stay_whole.ensures.sound;
      whole = c.keys_stay_whole.ensures.stepped;
      one_message = c.octets_spell_one_message.ensures.message;
      first = c.what_goes_out_under_keys_is_sealed.ensures.first;
      each_sound = c.each_association_is_sound.ensures.sound;
      each_whole = c.each_association_is_sound.ensures.whole;
    } in
    let mirrors : MirrorLaws = record { first = c.children_mirror.ensures; further = c.further_children_mirror.ensures.children } in
    let pairs : PairLaws = record {
      traces = record { traced = c.traces_name_what_is_held.ensures.traced };
      deliveries = record {
        changed = c.one_association_is_changed.ensures;
        fewer = c.some_are_held_on.ensures.pairs;
        judged = c.every_list_of_packets_is_judged.ensures;
        unchanged = c.other_changes_leave_windows.ensures.unchanged;
        bringing = c.other_changes_leave_windows.ensures.bringing;
        preparing = c.other_changes_leave_windows.ensures.preparing;
        marking = c.other_changes_leave_windows.ensures.marking;
        sending = c.other_changes_leave_windows.ensures.sending;
        up = c.a_packet_takes_one_number.ensures.up;
        dummy = c.a_packet_takes_one_number.ensures.dummy;
      };
      received = c.later_tables_follow.ensures.received;
      sent = c.later_tables_follow.ensures.sent;
      none_received = c.no_pair_comes.ensures.received;
      none_sent = c.no_pair_comes.ensures.sent;
    } in
    let carry : CarryLaws = record { up = c.a_packet_takes_one_number.ensures.up; handed = c.what_one_end_seals_the_other_hands_up.ensures } in
    let opens : OpensToItself body_of plain_of = c.what_is_sealed_opens_to_itself.ensures in
    λ happenings old new trail. both_ends_promises turns kin mirrors pairs carry _ body_of plain_of (record { body = λ caller. refl; plain = λ caller. refl }) opens happenings old new trail (c.every_world_stays_sound.ensures.trail _ happenings old new trail)
    (λ keys sound known unforged once. c.windows_are_those_told.ensures.stays keys happenings old new trail sound known unforged once) (λ keys known. c.windows_are_those_told.ensures.fit keys new known) (c.both_ends_hold_one_record.ensures happenings old new trail)
