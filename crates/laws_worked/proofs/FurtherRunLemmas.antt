-- The run with an additional Child SA meets the premises on both ends: what comes under the keys had been
-- sent.
use Rattle.std.proofs.Common.{◌∷◌, ℕ, Bool, false, true, List, [], refl}
use Rattle.std.proofs.lemmas.List.Elements.{Contains-append_left, Contains-push}
use Rattle.base.specs.Octets.{Octets}
use Rattle.replay.specs.Window.{unused_window}
use Rattle.exchange.specs.declared.headers.Role.TheVariants.{Initiator, Responder}
use Rattle.gateway.specs.Origin.{IsUnforgedUpTo}
use Rattle.laws_two_ends.specs.WorkedRequests.{worked_request}
use Rattle.gateway.specs.WorldHistories.{Happening}
use Rattle.gateway.specs.WorldParties.{AreBothHeld, HasSent, IsNeverMadeTwice}
use Rattle.gateway.specs.WorldPromises.{ComesUnder, IsUnforgedByThen}
use Rattle.gateway.specs.Worlds.{other_end}
use Rattle.gateway.specs.declared.world.stored.Datagram.{Datagram}
use Rattle.gateway.specs.declared.world.stored.End.TheVariants.{A, B}
use Rattle.laws_two_ends.proofs.WorkedRequestLemmas.{asked as first_asked, asked_spelled as first_asked_spelled}
use Rattle.laws_two_ends.proofs.SoundnessLemmas.{OneMessage, OneTime}
use Rattle.laws_two_ends.specs.WorkedMessages.{alive_octets, probe_octets}
use Rattle.laws_two_ends.specs.WorkedRecords.{worked_record}
use Rattle.laws_two_ends.specs.WorkedRuns.{run_meaning}
use Rattle.laws_two_ends.proofs.ArrivalLemmas.{was_sent}
use Rattle.laws_worked.specs.FurtherChildren.{IsRunWithFurtherChild}
use Rattle.laws_two_ends.proofs.AcceptingLemmas.{auth_request_was_sent}
use Rattle.laws_two_ends.proofs.ConcludingLemmas.{auth_response_was_sent}
use Rattle.laws_worked.proofs.FurtherLemmas.{answered_there, asked_there, delivered_first, delivered_second, further_run_is, mirrored, of_one, sealed_first, sealed_second}
use Rattle.laws_worked.proofs.FreshLemmas.{is_fresh}
use Rattle.laws_worked.proofs.FurtherMessageLemmas.{answered as further_answered_message, answering_octets, answering_spelled, asked as further_asked_message, asking_octets, asking_spelled, plain_octets}
use Rattle.laws_worked.proofs.FurtherSenderLemmas.{alone, alone_back, packet_comes, sent_before, unforged_back, unforged_to}
use Rattle.laws_worked.proofs.FurtherStages.{answered_thrice, asks_further, counted_thrice, counts_child, delivered_world, further_answered, further_asked, further_pair, further_steps, furthering, furthering_world, hands_up_further, made_world, makes_child, more, seals_further, sent_answering, sent_asking}
use Rattle.laws_two_ends.proofs.KeyedLemmas.{none_comes_answering, none_comes_beginning, none_comes_telling}
use Rattle.laws_two_ends.proofs.LastLemmas.{all_at, answer_was_sent, none_comes_handing_up, none_comes_probing, none_comes_sealing, once_in, probe_was_sent}
use Rattle.laws_two_ends.proofs.NewEndLemmas.{new_ends_are_sound, NewWorldsAreSound}
use Rattle.laws_worked.proofs.RecoveryLemmas.{SoundLaws}
use Rattle.laws_worked.proofs.RecoveryMessageLemmas.{answer_spelled, answered, asked, asked_spelled}
use Rattle.laws_worked.proofs.RecoveryStages.{again, answered_twice, asks_again, goes_again, matches, replied_world, replies, second_alive, second_sent, ticked_world}
use Rattle.laws_worked.proofs.RetransmissionLemmas.{answers_again}
use Rattle.laws_two_ends.proofs.ResponseLemmas.{response_octets}
use Rattle.laws_worked.proofs.ReplayRunLemmas.{comes_again, exchanged, last}
use Rattle.laws_two_ends.proofs.Stages.{one_taken, pair_of, sent_alive, sent_answer, sent_auth, sent_packet, sent_probe, sent_request, sent_response}

-- what was sent in the first run, up to A's probe
abbrev before_probe : List Datagram
before_probe = sent_request ∷ sent_answer ∷ sent_auth ∷ sent_response response_octets ∷ sent_packet ∷ []

module _ {C : Type 0} (a b : C) where
  abbrev ComesIn : Happening C → Type 0
  ComesIn h = (response : Bool) (number : ℕ) (octets : Octets) → ComesUnder (λ _. run_meaning) worked_record response number octets h → ⊥

  -- what came under the keys at this step had been sent
  abbrev WasSent : Happening C → Type 0
  WasSent h = (response : Bool) (number : ℕ) (octets : Octets) → ComesUnder (λ _. run_meaning) worked_record response number octets h
      → HasSent (other_end h.event.end) worked_record response number octets h.before.stored

  none_comes : (h : Happening C) → ComesIn h → WasSent h
  none_comes h none response number octets comes = absurd (none response number octets comes)

  module _ (one_message : OneMessage) where
    probe_again : WasSent (answers_again a b)
    probe_again =
        was_sent one_message (λ _. run_meaning) worked_record (answers_again a b) first_asked worked_request first_asked_spelled (λ octets same. same) A
        (last a b).stored (Contains-append_left (sent_request ∷ sent_answer ∷ sent_auth ∷ sent_response response_octets ∷ sent_packet ∷ sent_probe ∷ [])
        (sent_alive ∷ []) sent_probe (Contains-push before_probe sent_probe))

    second_probe : WasSent (replies a b)
    second_probe =
        was_sent one_message (λ _. run_meaning) worked_record (replies a b) asked probe_octets asked_spelled (λ octets same. same) A (ticked_world a b).stored
        (Contains-push (sent_request ∷ sent_answer ∷ sent_auth ∷ sent_response response_octets ∷ sent_packet ∷ sent_probe ∷ sent_alive ∷ sent_alive ∷ second_sent ∷ [])
        second_sent)

    second_response : WasSent (matches a b)
    second_response =
        was_sent one_message (λ _. run_meaning) worked_record (matches a b) answered alive_octets answer_spelled (λ octets same. same) B (replied_world a b).stored
        (Contains-push (sent_request ∷ sent_answer ∷ sent_auth ∷ sent_response response_octets ∷ sent_packet ∷ sent_probe ∷ sent_alive ∷ sent_alive
        ∷ second_sent ∷ second_sent ∷ []) second_alive)

    further_request : WasSent (makes_child a b)
    further_request =
        was_sent one_message (λ _. run_meaning) worked_record (makes_child a b) further_asked_message asking_octets asking_spelled (λ octets same. same) A
        (furthering_world a b).stored
        (Contains-push (sent_request ∷ sent_answer ∷ sent_auth ∷ sent_response response_octets ∷ sent_packet ∷ sent_probe ∷ sent_alive ∷ sent_alive
        ∷ second_sent ∷ second_sent ∷ second_alive ∷ []) sent_asking)

    further_response : WasSent (counts_child a b)
    further_response =
        was_sent one_message (λ _. run_meaning) worked_record (counts_child a b) further_answered_message answering_octets answering_spelled (λ octets same. same) B
        (made_world a b).stored
        (Contains-push (sent_request ∷ sent_answer ∷ sent_auth ∷ sent_response response_octets ∷ sent_packet ∷ sent_probe ∷ sent_alive ∷ sent_alive
        ∷ second_sent ∷ second_sent ∷ second_alive ∷ sent_asking ∷ []) sent_answering)

    unforged_run : IsUnforgedByThen (λ _. run_meaning) worked_record (further_steps a b)
    unforged_run place h response number octets there =
        all_at WasSent (further_steps a b) (
          none_comes _ (none_comes_beginning a b),
          (
            none_comes _ (none_comes_answering a b),
            (
              none_comes _ (none_comes_telling a b),
              (
                auth_request_was_sent a b one_message,
                (
                  auth_response_was_sent a b one_message,
                  (
                    none_comes _ (none_comes_sealing a b response_octets),
                    (
                      none_comes _ (none_comes_handing_up a b response_octets),
                      (
                        none_comes _ (none_comes_probing a b response_octets),
                        (
                          probe_was_sent a b response_octets one_message,
                          (
                            answer_was_sent a b response_octets one_message,
                            (
                              none_comes (comes_again a b) (λ r n o comes. comes.datagram),
                              (
                                probe_again,
                                (
                                  none_comes (asks_again a b) (λ r n o comes. comes.datagram),
                                  (
                                    none_comes (goes_again a b) (λ r n o comes. comes.datagram),
                                    (
                                      second_probe,
                                      (
                                        second_response,
                                        (
                                          none_comes (asks_further a b) (λ r n o comes. comes.datagram),
                                          (
                                            further_request,
                                            (
                                              further_response,
                                              (
                                                none_comes (seals_further a b) (λ r n o comes. comes.datagram),
                                                (none_comes (hands_up_further a b) (λ r n o comes. comes.datagram), tt),
                                              ),
                                            ),
                                          ),
                                        ),
                                      ),
                                    ),
                                  ),
                                ),
                              ),
                            ),
                          ),
                        ),
                      ),
                    ),
                  ),
                ),
              ),
            ),
          ),
        ) place h there response number octets

  never_made_twice : OneTime → IsNeverMadeTwice worked_record (delivered_world a b).stored
  never_made_twice one_time A = once_in one_time worked_record _ refl
  never_made_twice one_time B = once_in one_time worked_record _ refl

  both_held : AreBothHeld worked_record A (delivered_world a b) counted_thrice answered_thrice
  both_held = record {
    asks = record { serial = 1; there = refl; keyed = refl };
    answers = record { serial = 1; there = refl; keyed = refl };
    roles = refl;
  }

  both_held_back : AreBothHeld worked_record B (delivered_world a b) answered_thrice counted_thrice
  both_held_back = record {
    asks = record { serial = 1; there = refl; keyed = refl };
    answers = record { serial = 1; there = refl; keyed = refl };
    roles = refl;
  }

  request_comes : ComesUnder (λ _. run_meaning) worked_record false 4 asking_octets (makes_child a b)
  request_comes = record {
    association = answered_twice;
    held = record { serial = 1; there = refl; keyed = refl };
    datagram = refl;
    opens = record {
      message = further_asked_message;
      spelled = asking_spelled;
      spis = refl;
      from_sender = refl;
      is_response = refl;
      number_is = refl;
      keys = worked_record;
      keyed = refl;
      plain = record { first = 33; octets = plain_octets 1 13 };
      opened = refl;
    };
    delivered = refl;
  }

  response_comes : ComesUnder (λ _. run_meaning) worked_record true 4 answering_octets (counts_child a b)
  response_comes = record {
    association = furthering;
    held = record { serial = 1; there = refl; keyed = refl };
    datagram = refl;
    opens = record {
      message = further_answered_message;
      spelled = answering_spelled;
      spis = refl;
      from_sender = refl;
      is_response = refl;
      number_is = refl;
      keys = worked_record;
      keyed = refl;
      plain = record { first = 33; octets = plain_octets 2 14 };
      opened = refl;
    };
    delivered = refl;
  }

  unforged_by_then : OneMessage → OneTime → IsUnforgedUpTo (λ _. run_meaning) worked_record further_answered (further_steps a b) 20 (hands_up_further a b)
  unforged_by_then one_message one_time = record {
    messages = λ early g response number octets least there. unforged_run one_message early g response number octets there;
    packets = sent_before a b;
    made = answered_there a b;
    keyed = refl;
    once = never_made_twice one_time;
    one_sender = alone (delivered_world a b).stored refl;
  }

  pub further_child_is : SoundLaws → OneMessage → OneTime → NewWorldsAreSound C → IsRunWithFurtherChild a b
  further_child_is laws one_message one_time are_sound = record {
    exchanged = exchanged;
    again = again;
    more = more;
    happenings = further_steps a b;
    last = delivered_world a b;
    takes = refl;
    says = refl;
    trail = further_run_is a b laws;
    fresh = is_fresh;
    sound = new_ends_are_sound are_sound a b;
    unforged = unforged_run one_message;
    once = never_made_twice one_time;
    asking = counted_thrice;
    answering = answered_thrice;
    held = both_held;
    held_back = both_held_back;
    request_step = makes_child a b;
    requests = refl;
    request_comes = request_comes;
    response_step = counts_child a b;
    reads = refl;
    response_comes = response_comes;
    asked = further_asked;
    answered = further_answered;
    asked_there = asked_there a b;
    answered_there = answered_there a b;
    keyed = refl;
    of_one = of_one;
    number_is = refl;
    asked_end = refl;
    asked_serial = refl;
    answered_end = refl;
    answered_serial = refl;
    asked_pair = further_pair Initiator 1 (unused_window 2);
    answered_pair = further_pair Responder 0 one_taken;
    asked_held = sealed_second;
    answered_held = delivered_second;
    mirror = mirrored;
    first_pair = pair_of Initiator 1 (unused_window 2);
    other_first_pair = pair_of Responder 0 one_taken;
    first_held = sealed_first;
    other_first_held = delivered_first;
    packet_step = hands_up_further a b;
    packet_there = refl;
    packet_comes = packet_comes a b;
    unforged_to = unforged_to a b;
    one_sender = alone (delivered_world a b).stored refl;
    unforged_back = unforged_back a b;
    one_sender_back = alone_back (delivered_world a b).stored refl;
    by_then = unforged_by_then one_message one_time;
  }
