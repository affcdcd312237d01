-- The run with extended sequence numbers takes place, step by step.
use Rattle.std.proofs.Common.{◌≡◌, ◌+◌, ◌≤◌, ◌^◌, ◌∷◌, inl, ℕ, true, false, [], Option, Some, None, ap, arith, refl, subst, sym}
use Rattle.std.specs.FinMap as map
use Rattle.std.specs.Option.{option_to_list}
use Rattle.std.specs.Prelude.{replicate}
use Rattle.replay.specs.Window.{unused_window}
use Rattle.esp.specs.Worked.{worked_payload}
use Rattle.sadb.specs.Database.{empty_table, pair_at, Database, IsSoundTable}
use Rattle.sadb.specs.declared.pair.Pair.{Pair}
use Rattle.exchange.specs.declared.headers.Role.TheVariants.{Initiator, Responder}
use Rattle.setup.specs.Configs.{IsConfig}
use Rattle.ike.specs.Outputs.{no_trace}
use Rattle.ike.specs.Steps as ike
use Rattle.ike.specs.declared.output.MadeChild.{MadeChild}
use Rattle.traffic.specs.Outcomes as traffic
use Rattle.gateway.specs.Packets.{JudgesPacket}
use Rattle.gateway.specs.States.{IsSoundState}
use Rattle.gateway.specs.WorldHistories.{passage_at, IsWorldTrail}
use Rattle.gateway.specs.WorldPackets.{IsJudgedAt}
use Rattle.gateway.specs.Worlds.{child_with, datagram_of, gateway_at, mark_by, HoldsNothing, TakesEvent}
use Rattle.gateway.specs.declared.world.stored.End.{End}
use Rattle.gateway.specs.declared.world.stored.End.TheVariants.{A, B}
use Rattle.gateway.proofs.PartyLemmas.{at_head, further_on}
use Rattle.laws_two_ends.proofs.WorkedRequestLemmas.{none_there}
use Rattle.laws_two_ends.specs.WorkedRecords.{fresh_of, worked_record}
use Rattle.laws_two_ends.specs.WorkedChildren.{lone_pair}
use Rattle.laws_two_ends.specs.WorkedRuns.{run_meaning, spi_at, IsTyped}
use Rattle.laws_two_ends.proofs.InitLemmas.{answer_octets, request_octets}
use Rattle.laws_two_ends.proofs.MapLemmas.{put_again, put_there}
use Rattle.laws_two_ends.proofs.TableLemmas.{few_pairs, lone_in, sound_table, unused_sound, IsFit}
use Rattle.laws_worked.specs.ExtendedRuns.{extended_config, extended_end, extended_ends, extended_numbers_of_it, IsRunWithExtendedNumbers}
use Rattle.laws_worked.proofs.ExtendedArrivalLemmas.{is_unforged, numbers_are}
use Rattle.laws_worked.proofs.ExtendedCarriedLemmas.{addressed, is_taken, it_is_received, it_is_sealed, judged}
use Rattle.laws_worked.proofs.ExtendedMessageLemmas.{request_octets as auth_octets, response_octets}
use Rattle.laws_worked.proofs.ExtendedStages.{accepted_world, accepts, all_steps, answered_child, answered_world, answering_table, answers, asked_child, asking_table, begins, begun_world, both_keyed, carried_octets, child_world, concludes, delivered_world, exchanged, hands_up, later_table, pair_of, sealed_world, seals, sent_auth, sent_response, tells, told_world}
use Rattle.laws_worked.proofs.ExtendedTakingLemmas.{accept_steps, accepted_step, answer_steps, answered_step, begin_steps, begun_step, conclude_steps, concluded_step, tell_steps, told_step}
use Rattle.laws_worked.proofs.FurtherLemmas.{stays_sound_with}
use Rattle.laws_two_ends.proofs.HeldLemmas.{unreserved}
use Rattle.laws_two_ends.proofs.LastLemmas.{answering_key, asking_key}
use Rattle.laws_two_ends.proofs.NewEndLemmas.{can_be, empty_is_sound, is_fresh, new_machine_is_sound, policy_is_sound, reserved_is_sound, sealing, set_up, starts, typed}
use Rattle.laws_worked.proofs.RecoveryLemmas.{SoundLaws}
use Rattle.laws_two_ends.proofs.Stages.{one_taken, sent_answer, sent_request, stored_of, table_with}

-- ---- the new ends

pub configs : (end : End) → IsConfig (extended_config end)
configs A = let is = set_up A in record { own = is.own; peer = is.peer; blocks = is.blocks; window = is.window }
configs B = let is = set_up B in record { own = is.own; peer = is.peer; blocks = is.blocks; window = is.window }

new_is_sound : {C : Type 0} (end : End) (caller : C) → IsSoundState (extended_end end caller)
new_is_sound {C} end caller = record {
  machine = new_machine_is_sound (extended_config end) (empty_table (spi_at end)) (configs end);
  table = empty_is_sound (spi_at end) (starts end);
  timely = λ place d less. absurd (omega (arith, less));
  reservations = λ spi there. absurd (none_there spi there);
}

typed_so : (end : End) → IsTyped (extended_config end)
typed_so A = let is = typed A in record { own = is.own; peer = is.peer; cookie_secret = is.cookie_secret }
typed_so B = let is = typed B in record { own = is.own; peer = is.peer; cookie_secret = is.cookie_secret }

-- ---- the tables

sound_with : (spi : ℕ) (pair : Pair) → IsFit pair spi → 256 ≤ spi → spi + 65536 ≤ 2 ^ 32 → IsSoundTable (table_with spi pair)
sound_with spi pair fit least most =
    subst (λ (d : Database). IsSoundTable d)
    (sym (λ i. record { start = spi; given = 1; reserved = unreserved spi i; next = 2; pairs = lone_pair pair; room = 0 }))
    (sound_table pair (lone_pair pair) spi (lone_in pair) (few_pairs pair) fit least most)

asking_is_sound : IsSoundTable (asking_table 0)
asking_is_sound = sound_with 256 (pair_of Initiator 0 (unused_window 2)) (record { serial = refl; inbound = refl; window = unused_sound }) (omega arith) (omega arith)

answering_is_sound : IsSoundTable answering_table
answering_is_sound =
    sound_with 512 (pair_of Responder 0 (unused_window 2)) (record { serial = refl; inbound = refl; window = unused_sound }) (omega arith) (omega arith)

asking_there : pair_at (asking_table 0).pairs 1 ≡ Some (pair_of Initiator 0 (unused_window 2))
asking_there = put_there map.empty 1 1 (pair_of Initiator 0 (unused_window 2)) refl

answering_there : pair_at answering_table.pairs 1 ≡ Some (pair_of Responder 0 (unused_window 2))
answering_there = put_there map.empty 1 1 (pair_of Responder 0 (unused_window 2)) refl

sealed_pair : pair_at (asking_table 1).pairs 1 ≡ Some (pair_of Initiator 1 (unused_window 2))
sealed_pair = put_there map.empty 1 1 (pair_of Initiator 1 (unused_window 2)) refl

delivered_pair : pair_at later_table.pairs 1 ≡ Some (pair_of Responder 0 one_taken)
delivered_pair = put_there map.empty 1 1 (pair_of Responder 0 one_taken) refl

abbrev child_of_a : MadeChild
child_of_a = record { serial = 1; ike = 1; number = 1; asked = true }

abbrev child_of_b : MadeChild
child_of_b = record { serial = 1; ike = 1; number = 1; asked = false }

-- ---- the steps

module _ {C : Type 0} (a b : C) where
  holds_nothing : (end : End) → HoldsNothing (gateway_at end (extended_ends a b))
  holds_nothing A = record { associations = refl; moment = refl; given = refl }
  holds_nothing B = record { associations = refl; moment = refl; given = refl }

module _ {C : Type 0} (a b : C) (laws : SoundLaws) where
  sound_begun : IsSoundState (begun_world a b).a
  sound_begun =
      stays_sound_with laws (ike.Start None 0 (fresh_of 1)) begun_step (extended_end A a) (begun_world a b).a (new_is_sound A a) (reserved_is_sound (spi_at A) (starts A)) begin_steps

  sound_answered : IsSoundState (answered_world a b).b
  sound_answered =
      stays_sound_with laws (ike.Message (replicate 4 1) request_octets (fresh_of 2)) answered_step (extended_end B b) (answered_world a b).b (new_is_sound B b)
      (empty_is_sound (spi_at B) (starts B)) answer_steps

  sound_told : IsSoundState (told_world a b).a
  sound_told =
      stays_sound_with laws (ike.Message (replicate 4 2) answer_octets (fresh_of 3)) told_step (begun_world a b).a (told_world a b).a sound_begun
      (reserved_is_sound (spi_at A) (starts A)) tell_steps

  sound_accepted : IsSoundState (accepted_world a b).b
  sound_accepted =
      stays_sound_with laws (ike.Message (replicate 4 1) auth_octets (fresh_of 4)) accepted_step (answered_world a b).b (accepted_world a b).b sound_answered
      answering_is_sound accept_steps

  sound_child : IsSoundState (child_world a b).a
  sound_child =
      stays_sound_with laws (ike.Message (replicate 4 2) response_octets (fresh_of 5)) concluded_step (told_world a b).a (child_world a b).a sound_told
      asking_is_sound conclude_steps

  begins_is : TakesEvent (λ _. run_meaning) (begins a b).event (begins a b).before (begins a b).said (begins a b).after
  begins_is = record {
    sound = new_is_sound A a;
    fresh = sealing 1 (omega arith);
    trace = begun_step.trace;
    gateway = (begun_world a b).a;
    traces = record { kept = refl; does = inl (record { stepped = begun_step; steps = begin_steps; output = refl; traced = refl }) };
    content = refl;
  }

  answers_is : TakesEvent (λ _. run_meaning) (answers a b).event (answers a b).before (answers a b).said (answers a b).after
  answers_is = record {
    sound = new_is_sound B b;
    fresh = sealing 2 (omega arith);
    trace = answered_step.trace;
    gateway = (answered_world a b).b;
    traces = record { kept = refl; does = inl (record { stepped = answered_step; steps = answer_steps; output = refl; traced = refl }) };
    content = refl;
  }

  tells_is : TakesEvent (λ _. run_meaning) (tells a b).event (tells a b).before (tells a b).said (tells a b).after
  tells_is = record {
    sound = sound_begun;
    fresh = sealing 3 (omega arith);
    trace = told_step.trace;
    gateway = (told_world a b).a;
    traces = record { kept = refl; does = inl (record { stepped = told_step; steps = tell_steps; output = refl; traced = refl }) };
    content = refl;
  }

  accepts_is : TakesEvent (λ _. run_meaning) (accepts a b).event (accepts a b).before (accepts a b).said (accepts a b).after
  accepts_is = record {
    sound = sound_answered;
    fresh = sealing 4 (omega arith);
    trace = accepted_step.trace;
    gateway = (accepted_world a b).b;
    traces = record { kept = refl; does = inl (record { stepped = accepted_step; steps = accept_steps; output = refl; traced = refl }) };
    content = ap (λ (o : Option Pair). record (accepted_world a b) {
      stored = stored_of (sent_request ∷ sent_answer ∷ sent_auth ∷ sent_response ∷ []) both_keyed (option_to_list (child_with B child_of_b (Some worked_record) o));
    }) (sym answering_there);
  }

  concludes_is : TakesEvent (λ _. run_meaning) (concludes a b).event (concludes a b).before (concludes a b).said (concludes a b).after
  concludes_is = record {
    sound = sound_told;
    fresh = sealing 5 (omega arith);
    trace = concluded_step.trace;
    gateway = (child_world a b).a;
    traces = record { kept = refl; does = inl (record { stepped = concluded_step; steps = conclude_steps; output = refl; traced = refl }) };
    content = ap (λ (o : Option Pair). record (child_world a b) {
      stored = stored_of (sent_request ∷ sent_answer ∷ sent_auth ∷ sent_response ∷ []) both_keyed
          (answered_child ∷ option_to_list (child_with A child_of_a (Some worked_record) o));
    }) (sym asking_there);
  }

  seals_is : TakesEvent (λ _. run_meaning) (seals a b).event (seals a b).before (seals a b).said (seals a b).after
  seals_is = record {
    sound = sound_child;
    fresh = tt;
    trace = no_trace;
    gateway = (sealed_world a b).a;
    traces = record {
      kept = refl;
      does = (
        record { machine = refl; traced = refl },
        inl (record {
          outcome = traffic.Sealed 1 1 carried_octets;
          sends = it_is_sealed 512 256 (omega arith) asking_key answering_key (asking_table 0) (asking_table 1).pairs
              (sym (put_again map.empty 1 (pair_of Initiator 0 (unused_window 2)) (pair_of Initiator 1 (unused_window 2))));
          output = refl;
        }),
      );
    };
    content = ap (λ (o : Option Pair). record (sealed_world a b) {
      stored = stored_of (sent_request ∷ sent_answer ∷ sent_auth ∷ sent_response ∷ datagram_of A (mark_by 1 o) carried_octets ∷ []) both_keyed (answered_child ∷ asked_child ∷ []);
    }) (sym sealed_pair);
  }

  hands_up_is : TakesEvent (λ _. run_meaning) (hands_up a b).event (hands_up a b).before (hands_up a b).said (hands_up a b).after
  hands_up_is = record {
    sound = sound_accepted;
    fresh = tt;
    trace = no_trace;
    gateway = (delivered_world a b).b;
    traces = record {
      kept = refl;
      does = (
        record { machine = refl; traced = refl },
        record {
          outcome = traffic.Up 1 1 worked_payload;
          receives = it_is_received 512 256 (omega arith) asking_key answering_key answering_table later_table.pairs
              (sym (put_again map.empty 1 (pair_of Responder 0 (unused_window 2)) (pair_of Responder 0 one_taken)));
          output = refl;
        },
      );
    };
    content = refl;
  }

  run_is : IsWorldTrail (λ _. run_meaning) (extended_ends a b) (all_steps a b) (delivered_world a b)
  run_is =
      (refl, begins_is, (refl, answers_is, (refl, tells_is, (refl, accepts_is, (refl, concludes_is, (refl, seals_is, (refl, hands_up_is, refl)))))))

  packet_comes : IsJudgedAt answered_child 1 carried_octets (hands_up a b)
  packet_comes = record {
    end_is = refl;
    given = refl;
    pair = pair_of Responder 0 (unused_window 2);
    addressed = addressed 512 256 (omega arith) asking_key answering_key answering_table;
    own = refl;
    judged = judged 512 256 (omega arith) asking_key answering_key;
  }

  judges : JudgesPacket 1 1 carried_octets (passage_at B (hands_up a b))
  judges = record {
    given = refl;
    takes = is_taken 512 256 (omega arith) asking_key answering_key answering_table later_table.pairs
        (sym (put_again map.empty 1 (pair_of Responder 0 (unused_window 2)) (pair_of Responder 0 one_taken)));
    kept = refl;
  }

  -- the pair that judged it has extended sequence numbers
  esn_is : (of_it : JudgesPacket 1 1 carried_octets (passage_at B (hands_up a b))) → of_it.takes.pair.inbound.association.extended ≡ true
  esn_is of_it =
      let pair : Pair = of_it.takes.pair in
      ap (λ (p : Pair). p.inbound.association.extended)
      ((lone_in (pair_of Responder 0 (unused_window 2))).only pair.serial pair of_it.takes.addressed.inbound.there).content

  pub extended_is : IsRunWithExtendedNumbers a b
  extended_is = record {
    exchanged = exchanged;
    happenings = all_steps a b;
    last = delivered_world a b;
    takes = refl;
    says = refl;
    trail = run_is;
    can_be = can_be;
    configs = configs;
    typed = typed_so;
    policy = policy_is_sound;
    starts = starts;
    holds_nothing = holds_nothing a b;
    fresh = λ number least most. is_fresh number least (omega (arith, most));
    asked = asked_child;
    answered = answered_child;
    asked_there = further_on answered_child (asked_child ∷ []) asked_child (at_head asked_child []);
    answered_there = at_head answered_child (asked_child ∷ []);
    of_one = record { keys = refl; ends = refl; asked_is = refl; answered_is = refl; number = refl };
    number_is = refl;
    asked_end = refl;
    asked_serial = refl;
    answered_end = refl;
    answered_serial = refl;
    asked_extended = record { inward = refl; outward = refl };
    answered_extended = record { inward = refl; outward = refl };
    asked_pair = pair_of Initiator 1 (unused_window 2);
    answered_pair = pair_of Responder 0 one_taken;
    asked_held = sealed_pair;
    answered_held = delivered_pair;
    mirror = record { inward = refl; outward = refl; extension = refl; local = refl; remote = refl };
    packet_step = hands_up a b;
    packet_there = refl;
    passage_there = refl;
    packet_comes = packet_comes;
    judges = judges;
    esn = esn_is judges;
    numbers = numbers_are a b;
    unforged = is_unforged a b extended_numbers_of_it (numbers_are a b);
  }
