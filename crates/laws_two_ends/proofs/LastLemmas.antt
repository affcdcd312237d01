-- The last five steps of the worked run take place: a packet is carried, and a probe is answered and its
-- response matched. What comes under the keys had been sent, both ends hold the IKE SA, and of the
-- Child SA they hold what the premises on packets ask for.
use Rattle.std.proofs.Common.{◌≡◌, ◌≤◌, ◌∷◌, inl, ℕ, zero, suc, Bool, true, false, List, [], Option, Some, Contains, ap, arith, refl, subst, sym, ◌∙◌}
use Rattle.std.specs.FinMap as map
use Rattle.std.specs.Prelude.{replicate, slice_get}
use Rattle.std.proofs.lemmas.Bool.{true≢false}
use Rattle.std.proofs.lemmas.List.Elements.{Contains-append_left, Contains-push}
use Rattle.std.specs.List.{AllByRecursion}
use Rattle.base.specs.Octets.{Octets}
use Rattle.replay.specs.Window.{unused_window}
use Rattle.esp.specs.Worked.{worked_payload}
use Rattle.suite.specs.Keys.{child_material, key_at}
use Rattle.suite.specs.declared.key_record.KeyRecord.{KeyRecord}
use Rattle.exchange.specs.declared.headers.Role.TheVariants.{Initiator, Responder}
use Rattle.sadb.specs.Database.{IsSoundTable}
use Rattle.sadb.specs.declared.pair.Pair.{Pair}
use Rattle.association.specs.declared.phase.Association.{Association}
use Rattle.effects.specs.declared.taking.Effect.TheVariants as effect
use Rattle.ike.specs.Machines.{new_machine}
use Rattle.ike.specs.Outputs.{asking_step, no_trace, stepped_of}
use Rattle.ike.specs.Steps as ike
use Rattle.ike.specs.Orders as orders
use Rattle.lockstep.specs.Parties.{times}
use Rattle.traffic.specs.Outcomes as traffic
use Rattle.gateway.specs.Inputs.{Input}
use Rattle.gateway.specs.Inputs as input
use Rattle.gateway.specs.States.{IsSoundState}
use Rattle.gateway.specs.WorldChildren.{AreOfOneRequest}
use Rattle.gateway.specs.WorldHistories.{Happening, IsWorldTrail}
use Rattle.gateway.specs.WorldPackets.{HasOneSender, HasSentPacket, HoldsSomePairOf, IsJudgedAt, IsUnforgedTo}
use Rattle.gateway.specs.WorldParties.{AreBothHeld, HasSent, IsNeverMadeTwice}
use Rattle.gateway.specs.WorldPromises.{ComesUnder}
use Rattle.laws_two_ends.specs.WorkedRequests.{worked_reply, worked_request}
use Rattle.gateway.specs.Worlds.{datagram_of, mark_by, other_end, Stored, TakesEvent, WorldState}
use Rattle.gateway.specs.declared.world.stored.Child.{Child}
use Rattle.gateway.specs.declared.world.stored.End.{End}
use Rattle.gateway.specs.declared.world.stored.End.TheVariants.{A, B}
use Rattle.gateway.proofs.PartyLemmas.{at_head, further_on, some_is}
use Rattle.laws_two_ends.proofs.WorkedRequestLemmas.{answer_spelled, answered, asked, asked_spelled}
use Rattle.laws_two_ends.specs.WorkedRecords.{fresh_of, worked_record}
use Rattle.laws_two_ends.proofs.ArrivalLemmas.{takes_alone, was_sent}
use Rattle.laws_two_ends.proofs.CarriedLemmas.{addressed, it_is_received, it_is_sealed, judged, packet_was_sent}
use Rattle.laws_two_ends.proofs.InformationalLemmas.{nothing_ended, reply_by}
use Rattle.laws_two_ends.proofs.MapLemmas.{put_again}
use Rattle.laws_two_ends.proofs.SenderLemmas.{one_of_two, one_sender, one_sender_back}
use Rattle.laws_two_ends.proofs.TableLemmas.{lone_in}
use Rattle.laws_two_ends.specs.WorkedRuns.{all_protected, config_at, run_meaning}
use Rattle.laws_two_ends.proofs.AskingLemmas.{probe_asks, probe_opens, probe_takes, reply_opens, reply_takes}
use Rattle.laws_two_ends.proofs.HeldLemmas.{asking_table_is_sound, later_table_is_sound, probing_in_time}
use Rattle.laws_two_ends.proofs.NewEndLemmas.{sealing}
use Rattle.laws_two_ends.proofs.SoundnessLemmas.{sound_next, timely_alone, NoSpiIsLost, OneMessage, OneTime, SoundnessStays}
use Rattle.laws_two_ends.proofs.Stages.{accepts, all_keyed, all_steps, answered_child, answering, answering_table, answers, asked_child, asking, asking_table, begins, both_children, carried_octets, child_world, concludes, counted, counts, delivered_world, end_with, hands_up, is_there, last_world, later_table, one_taken, pair_of, probed, probed_world, probes, probing, probing_world, sealed_world, seals, sent_alive, sent_answer, sent_auth, sent_packet, sent_probe, sent_request, sent_response, stored_of, table_with, tells}

-- the key of what A sends, and of what B sends
abbrev pub asking_key : Octets
asking_key = key_at 0 (child_material worked_record.sk_d worked_record.nonce_i worked_record.nonce_r)

abbrev pub answering_key : Octets
answering_key = key_at 1 (child_material worked_record.sk_d worked_record.nonce_i worked_record.nonce_r)

pub once_in : OneTime → (keys : KeyRecord) (made : List KeyRecord) → made ≡ keys ∷ [] → times keys made ≤ 1
once_in one_time keys made is =
    let one : times keys (keys ∷ []) ≡ 1 = (one_time keys keys).1 refl in
    let same : times keys made ≡ times keys (keys ∷ []) = ap (times keys) is in
    omega (arith, one, same)

-- the table may hold another pair, since the same SPIs are reserved then
pub other_pair : {C : Type 0} (end : End) (caller : C) (a : Association) (spi : ℕ) (one other : Pair) → IsSoundTable (table_with spi other)
    → IsSoundState (end_with end caller a (table_with spi one)) → IsSoundState (end_with end caller a (table_with spi other))
other_pair {C} end caller a spi one other table sound = record {
  machine = record {
    held = record {
      first = sound.machine.held.first;
      serials = sound.machine.held.serials;
      few = sound.machine.held.few;
      few_half_open = sound.machine.held.few_half_open;
      each = λ place b there.
          let was = sound.machine.held.each place b there in
          record {
            serial_least = was.serial_least;
            serial_given = was.serial_given;
            own = was.own;
            initiator = was.initiator;
            responder = was.responder;
            reserved = record { reserved = was.reserved.reserved; first = was.reserved.first; one = was.reserved.one };
            short = was.short;
            soundly = was.soundly;
            asked = was.asked;
            whole = was.whole;
          };
      apart = sound.machine.held.apart;
    };
    config = sound.machine.config;
    asks = sound.machine.asks;
  };
  table = table;
  timely = sound.timely;
  reservations = sound.reservations;
}

pub all_at : {X : Type 0} (P : X → Type 0) (xs : List X) → AllByRecursion P xs → (place : ℕ) (x : X) → slice_get xs place ≡ Some x → P x
all_at {X} P [] all place x there = absurd cc
all_at {X} P (y ∷ ys) all zero x there = subst P (some_is y x there) all.0
all_at {X} P (y ∷ ys) all (suc place) x there = all_at P ys all.1 place x there

abbrev is_packet : Input → Bool
is_packet (input.Esp octets) = true
is_packet _ = false

same_end : A ≡ B → ⊥
same_end is = cc

module _ {C : Type 0} (a b : C) (response : Octets) where
  -- ---- the steps

  -- the world after the packet was sealed, by what pair stands under its serial
  abbrev by_pair : Option Pair → WorldState C
  by_pair found = record (sealed_world a b response) {
    stored = stored_of
        (sent_request ∷ sent_answer ∷ sent_auth ∷ sent_response response ∷ datagram_of A (mark_by 1 found) carried_octets ∷ [])
        (all_keyed a b response) (both_children a b response);
  }

  seals_it : IsSoundState (child_world a b response).a
      → TakesEvent (λ _. run_meaning) (seals a b response).event (seals a b response).before (seals a b response).said (seals a b response).after
  seals_it sound = record {
    sound = sound;
    fresh = tt;
    trace = no_trace;
    gateway = end_with A a asking (asking_table 1);
    traces = record {
      kept = refl;
      does = (
        record { machine = refl; traced = refl },
        inl (record {
          outcome = traffic.Sealed 1 1 carried_octets;
          sends = it_is_sealed 512 256 (omega arith) asking_key answering_key (asking_table 0) (asking_table 1).pairs
              (sym (put_again map.empty 1 (pair_of Initiator 0 (unused_window 2)) (pair_of Initiator 1 (unused_window 2))));
          output = refl;
        }),
      );
    };
    content = ap by_pair (sym (lone_in (pair_of Initiator 1 (unused_window 2))).there);
  }

  hands_it_up : IsSoundState (child_world a b response).b
      → TakesEvent (λ _. run_meaning) (hands_up a b response).event (hands_up a b response).before (hands_up a b response).said (hands_up a b response).after
  hands_it_up sound = record {
    sound = sound;
    fresh = tt;
    trace = no_trace;
    gateway = end_with B b (answering response) later_table;
    traces = record {
      kept = refl;
      does = (
        record { machine = refl; traced = refl },
        record {
          outcome = traffic.Up 1 1 worked_payload;
          receives = it_is_received 512 256 (omega arith) asking_key answering_key answering_table later_table.pairs
              (sym (put_again map.empty 1 (pair_of Responder 0 (unused_window 2)) (pair_of Responder 0 one_taken)));
          output = refl;
        },
      );
    };
    content = refl;
  }

  -- A after the packet was sealed, and B after it came
  pub sound_sealed : IsSoundState (child_world a b response).a → IsSoundState (sealed_world a b response).a
  sound_sealed sound =
      other_pair A a asking 256 (pair_of Initiator 0 (unused_window 2)) (pair_of Initiator 1 (unused_window 2)) (asking_table_is_sound 1) sound

  pub sound_delivered : IsSoundState (child_world a b response).b → IsSoundState (delivered_world a b response).b
  sound_delivered sound =
      other_pair B b (answering response) 512 (pair_of Responder 0 (unused_window 2)) (pair_of Responder 0 one_taken) later_table_is_sound sound

  pub probe_steps : ike.Steps run_meaning all_protected (ike.Order (orders.Probe 1) (fresh_of 6)) (end_with A a asking (asking_table 1)).machine (asking_table 1)
      (asking_step 1 2 worked_request) (end_with A a probing (asking_table 1)).machine (asking_table 1)
  probe_steps = (refl, probe_asks (config_at A) all_protected (fresh_of 6) (asking_table 1))

  probes_it : IsSoundState (child_world a b response).a
      → TakesEvent (λ _. run_meaning) (probes a b response).event (probes a b response).before (probes a b response).said (probes a b response).after
  probes_it sound = record {
    sound = sound_sealed sound;
    fresh = sealing 6 (omega arith);
    trace = (asking_step 1 2 worked_request).trace;
    gateway = end_with A a probing (asking_table 1);
    traces = record { kept = refl; does = inl (record { stepped = asking_step 1 2 worked_request; steps = probe_steps; output = refl; traced = refl }) };
    content = refl;
  }

  answers_it : IsSoundState (child_world a b response).b
      → TakesEvent (λ _. run_meaning) (is_there a b response).event (is_there a b response).before (is_there a b response).said (is_there a b response).after
  answers_it sound = record {
    sound = sound_delivered sound;
    fresh = sealing 7 (omega arith);
    trace = (stepped_of 1 2 (effect.Replied (reply_by worked_reply))).trace;
    gateway = end_with B b probed later_table;
    traces = record {
      kept = refl;
      does = inl (record {
        stepped = stepped_of 1 2 (effect.Replied (reply_by worked_reply));
        steps = takes_alone (new_machine (config_at B)) all_protected (replicate 4 1) (fresh_of 7) asked_spelled refl refl (probe_takes response _ _);
        output = refl;
        traced = refl;
      });
    };
    content = refl;
  }

  -- A after it sent the probe
  pub sound_probing : SoundnessStays → NoSpiIsLost → IsSoundState (child_world a b response).a → IsSoundState (probing_world a b response).a
  sound_probing stays none_lost sound =
      sound_next stays none_lost run_meaning (ike.Order (orders.Probe 1) (fresh_of 6)) (asking_step 1 2 worked_request)
      (sealed_world a b response).a (probing_world a b response).a (sound_sealed sound) probe_steps (asking_table_is_sound 1)
      (timely_alone (config_at A) probing probing_in_time)

  counts_it : SoundnessStays → NoSpiIsLost → IsSoundState (child_world a b response).a
      → TakesEvent (λ _. run_meaning) (counts a b response).event (counts a b response).before (counts a b response).said (counts a b response).after
  counts_it stays none_lost sound = record {
    sound = sound_probing stays none_lost sound;
    fresh = sealing 8 (omega arith);
    trace = (stepped_of 1 2 (effect.Counted nothing_ended)).trace;
    gateway = end_with A a counted (asking_table 1);
    traces = record {
      kept = refl;
      does = inl (record {
        stepped = stepped_of 1 2 (effect.Counted nothing_ended);
        steps = takes_alone (new_machine (config_at A)) all_protected (replicate 4 2) (fresh_of 8) answer_spelled refl refl (reply_takes _ _);
        output = refl;
        traced = refl;
      });
    };
    content = refl;
  }

  pub last_steps_are : SoundnessStays → NoSpiIsLost → IsSoundState (child_world a b response).a → IsSoundState (child_world a b response).b
      → IsWorldTrail (λ _. run_meaning) (child_world a b response)
      (seals a b response ∷ hands_up a b response ∷ probes a b response ∷ is_there a b response ∷ counts a b response ∷ []) (last_world a b response)
  last_steps_are stays none_lost one other =
      (refl, seals_it one, (refl, hands_it_up other, (refl, probes_it one, (refl, answers_it other, (refl, counts_it stays none_lost one, refl)))))

  -- ---- what comes under the keys

  abbrev Comes : Bool → ℕ → Octets → Happening C → Type 0
  Comes is_response number octets h = ComesUnder (λ _. run_meaning) worked_record is_response number octets h

  pub none_comes_sealing : (is_response : Bool) (number : ℕ) (octets : Octets) → Comes is_response number octets (seals a b response) → ⊥
  none_comes_sealing is_response number octets comes = comes.datagram

  pub none_comes_handing_up : (is_response : Bool) (number : ℕ) (octets : Octets) → Comes is_response number octets (hands_up a b response) → ⊥
  none_comes_handing_up is_response number octets comes = comes.datagram

  pub none_comes_probing : (is_response : Bool) (number : ℕ) (octets : Octets) → Comes is_response number octets (probes a b response) → ⊥
  none_comes_probing is_response number octets comes = comes.datagram

  pub probe_was_sent : OneMessage → (is_response : Bool) (number : ℕ) (octets : Octets)
      → Comes is_response number octets (is_there a b response)
      → HasSent (other_end (is_there a b response).event.end) worked_record is_response number octets (is_there a b response).before.stored
  probe_was_sent one_message =
      was_sent one_message (λ _. run_meaning) worked_record (is_there a b response) asked worked_request asked_spelled (λ octets same. same) A
      (probing_world a b response).stored (Contains-push (sent_request ∷ sent_answer ∷ sent_auth ∷ sent_response response ∷ sent_packet ∷ []) sent_probe)

  pub answer_was_sent : OneMessage → (is_response : Bool) (number : ℕ) (octets : Octets)
      → Comes is_response number octets (counts a b response)
      → HasSent (other_end (counts a b response).event.end) worked_record is_response number octets (counts a b response).before.stored
  answer_was_sent one_message =
      was_sent one_message (λ _. run_meaning) worked_record (counts a b response) answered worked_reply answer_spelled (λ octets same. same) B
      (probed_world a b response).stored (Contains-push (sent_request ∷ sent_answer ∷ sent_auth ∷ sent_response response ∷ sent_packet ∷ sent_probe ∷ []) sent_alive)

  pub probe_comes : ComesUnder (λ _. run_meaning) worked_record false 2 worked_request (is_there a b response)
  probe_comes = record {
    association = answering response;
    held = record { serial = 1; there = refl; keyed = refl };
    datagram = refl;
    opens = probe_opens response;
    delivered = refl;
  }

  pub answer_comes : ComesUnder (λ _. run_meaning) worked_record true 2 worked_reply (counts a b response)
  answer_comes = record {
    association = probing;
    held = record { serial = 1; there = refl; keyed = refl };
    datagram = refl;
    opens = reply_opens;
    delivered = refl;
  }

  -- ---- both ends afterwards

  pub both_are_held : AreBothHeld worked_record A (last_world a b response) counted probed
  both_are_held = record {
    asks = record { serial = 1; there = refl; keyed = refl };
    answers = record { serial = 1; there = refl; keyed = refl };
    roles = refl;
  }

  pub both_are_held_back : AreBothHeld worked_record B (last_world a b response) probed counted
  both_are_held_back = record {
    asks = record { serial = 1; there = refl; keyed = refl };
    answers = record { serial = 1; there = refl; keyed = refl };
    roles = refl;
  }

  pub never_made_twice : OneTime → IsNeverMadeTwice worked_record (last_world a b response).stored
  never_made_twice one_time A = once_in one_time worked_record _ refl
  never_made_twice one_time B = once_in one_time worked_record _ refl

  -- ---- the Child SA

  abbrev last : Stored
  last = (last_world a b response).stored

  pub answered_there : Contains last.children answered_child
  answered_there = at_head answered_child (asked_child ∷ [])

  pub asked_there : Contains last.children asked_child
  asked_there = further_on answered_child (asked_child ∷ []) asked_child (at_head asked_child [])

  pub of_one : AreOfOneRequest asked_child answered_child
  of_one = record { keys = refl; ends = refl; asked_is = refl; answered_is = refl; number = refl }

  pub asked_held : HoldsSomePairOf asked_child (last_world a b response)
  asked_held = record { pair = pair_of Initiator 1 (unused_window 2); held = (lone_in (pair_of Initiator 1 (unused_window 2))).there }

  pub answered_held : HoldsSomePairOf answered_child (last_world a b response)
  answered_held = record { pair = pair_of Responder 0 one_taken; held = (lone_in (pair_of Responder 0 one_taken)).there }

  -- no other Child SA of A's sends to B, and none of B's to A
  pub alone : HasOneSender answered_child last
  alone = one_sender asked_child answered_child of_one last (one_of_two answered_child asked_child)

  pub alone_back : HasOneSender asked_child last
  alone_back = one_sender_back asked_child answered_child of_one last (one_of_two answered_child asked_child)

  no_packet : (h : Happening C) → is_packet h.event.input ≡ false → (child : Child) (number : ℕ) (octets : Octets) → IsJudgedAt child number octets h → ⊥
  no_packet h none child number octets judged = true≢false (sym (ap is_packet judged.given) ∙ none)

  -- the one packet is judged as number 1 at B, and it was sent
  pub packet_comes : IsJudgedAt answered_child 1 carried_octets (hands_up a b response)
  packet_comes = record {
    end_is = refl;
    given = refl;
    pair = pair_of Responder 0 (unused_window 2);
    addressed = addressed 512 256 (omega arith) asking_key answering_key answering_table;
    own = refl;
    judged = judged 512 256 (omega arith) asking_key answering_key;
  }

  judged_is_sent : (number : ℕ) (octets : Octets) → IsJudgedAt answered_child number octets (hands_up a b response)
      → HasSentPacket A answered_child.inbound.spi answered_child.inbound.key number octets last
  judged_is_sent number octets judged =
      packet_was_sent 512 256 (omega arith) asking_key answering_key answering_table last
      (Contains-append_left (sent_request ∷ sent_answer ∷ sent_auth ∷ sent_response response ∷ sent_packet ∷ []) (sent_probe ∷ sent_alive ∷ []) sent_packet
      (Contains-push (sent_request ∷ sent_answer ∷ sent_auth ∷ sent_response response ∷ []) sent_packet))
      judged.pair number octets judged.given judged.addressed judged.judged

  -- only one step takes an ESP packet
  each_step : (P : Happening C → Type 0) → ((h : Happening C) → is_packet h.event.input ≡ false → P h) → P (hands_up a b response)
      → (place : ℕ) (h : Happening C) → slice_get (all_steps a b response) place ≡ Some h → P h
  each_step P none one =
      all_at P (all_steps a b response) (
        none (begins a b) refl,
        (
          none (answers a b) refl,
          (
            none (tells a b) refl,
            (
              none (accepts a b response) refl,
              (
                none (concludes a b response) refl,
                (none (seals a b response) refl, (one, (none (probes a b response) refl, (none (is_there a b response) refl, (none (counts a b response) refl, tt))))),
              ),
            ),
          ),
        ),
      )

  pub unforged_to : IsUnforgedTo answered_child (all_steps a b response) last
  unforged_to place number octets =
      each_step
      (λ (h : Happening C). IsJudgedAt answered_child number octets h → HasSentPacket A answered_child.inbound.spi answered_child.inbound.key number octets last)
      (λ h none judged. absurd (no_packet h none answered_child number octets judged)) (judged_is_sent number octets) place

  -- no packet came to A
  pub unforged_back : IsUnforgedTo asked_child (all_steps a b response) last
  unforged_back place number octets =
      each_step
      (λ (h : Happening C). IsJudgedAt asked_child number octets h → HasSentPacket B asked_child.inbound.spi asked_child.inbound.key number octets last)
      (λ h none judged. absurd (no_packet h none asked_child number octets judged)) (λ judged. absurd (same_end (sym judged.end_is))) place
