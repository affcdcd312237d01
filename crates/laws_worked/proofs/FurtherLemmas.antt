-- In the run that begins with two new gateways an additional Child SA is made: the steps take place, and both
-- ends hold a second pair.
use Rattle.std.proofs.Common.{◌≡◌, ◌∷◌, inl, ℕ, false, true, [], Option, Some, Contains, ap, arith, refl, sym, ◌∙◌}
use Rattle.std.specs.Option.{option_to_list}
use Rattle.std.specs.Prelude.{replicate}
use Rattle.base.specs.Octets.{Octets}
use Rattle.replay.specs.Window.{unused_window, Seen}
use Rattle.esp.specs.Worked.{worked_payload}
use Rattle.sadb.specs.Database.{pair_at, IsSoundTable}
use Rattle.sadb.specs.Mirrors.{Mirrors}
use Rattle.sadb.specs.declared.pair.Pair.{Pair}
use Rattle.suite.specs.Keys.{child_material, key_at}
use Rattle.exchange.specs.declared.headers.Role.TheVariants.{Initiator, Responder}
use Rattle.effects.specs.declared.taking.Effect.TheVariants as effect
use Rattle.ike.specs.Machines.{new_machine}
use Rattle.ike.specs.Outputs.{asking_step, no_trace, stepped_of}
use Rattle.ike.specs.Steps as ike
use Rattle.ike.specs.declared.output.MadeChild.{MadeChild}
use Rattle.ike.specs.declared.output.Stepped.{Stepped}
use Rattle.traffic.specs.Outcomes as traffic
use Rattle.gateway.specs.States.{IsSoundState, State}
use Rattle.gateway.specs.WorldChildren.{AreOfOneRequest}
use Rattle.gateway.specs.WorldHistories.{IsWorldTrail}
use Rattle.gateway.specs.Worlds.{child_with, datagram_of, mark_by, TakesEvent, WorldState}
use Rattle.gateway.specs.declared.world.stored.End.TheVariants.{A, B}
use Rattle.gateway.proofs.PartyLemmas.{at_head, further_on}
use Rattle.laws_two_ends.specs.WorkedRecords.{fresh_of, worked_record}
use Rattle.laws_two_ends.specs.WorkedRuns.{all_protected, config_at, new_ends, run_meaning}
use Rattle.laws_two_ends.proofs.ArrivalLemmas.{takes_alone}
use Rattle.laws_two_ends.proofs.MapLemmas.{put_beside, put_there}
use Rattle.laws_worked.proofs.FurtherMessageLemmas.{answering_octets, answering_spelled, asking_octets, asking_spelled, nonce_of}
use Rattle.laws_worked.proofs.FurtherStages.{answered_thrice, answering_two, asked_table, asking_two, asks_further, counted_thrice, counts_child, delivered_two, delivered_world, further_answered, further_asked, further_carried, further_pair, further_steps, further_world, furthering, furthering_world, hands_up_further, made_world, makes_child, sealed_two, sealed_world, seals_further, sent_answering, sent_asking, stored_then}
use Rattle.laws_worked.proofs.FurtherTableLemmas.{answering_two_is_sound, asked_table_is_sound, asking_two_is_sound}
use Rattle.laws_worked.proofs.FurtherTakingLemmas as taking
use Rattle.laws_worked.proofs.FurtherTakingLemmas.{child_made, reply_said, request_takes, response_takes}
use Rattle.laws_two_ends.proofs.NewEndLemmas.{sealing}
use Rattle.laws_worked.proofs.RecoveryLemmas.{later_machine, recovery_run_is, sound_matched, sound_replied, SoundLaws}
use Rattle.laws_worked.proofs.RecoveryStages.{end_then, matched_world, recovery_steps}
use Rattle.laws_two_ends.proofs.Stages.{answered_child, asked_child, asking_table, end_with, one_taken, pair_of, world_of}
use Rattle.laws_worked.proofs.TwoPairLemmas.{first_there, it_is_received, it_is_sealed, second_there}
use Rattle.laws_two_ends.proofs.WorkedRunLemmas.{followed_by}

-- a gateway stays sound over a step of the machine of IKE, where its table then is sound
pub stays_sound_with : {C : Type 0} → SoundLaws → (given : ike.InputView) (stepped : Stepped) (old new : State C) → IsSoundState old → IsSoundTable new.table
    → ike.Steps run_meaning old.entries given old.machine old.table stepped new.machine new.table → IsSoundState new
stays_sound_with {C} laws given stepped old new sound table steps = record {
  machine = laws.stays run_meaning old.entries given old.machine old.table stepped new.machine new.table sound.table sound.machine steps;
  table = table;
  timely = laws.timely run_meaning old.entries given old.machine old.table stepped new.machine new.table sound.timely steps;
  reservations = laws.lost run_meaning old.entries given old.machine old.table stepped new.machine new.table sound.machine steps sound.reservations;
}

-- ---- the pairs

abbrev pub first_of_a : Pair
first_of_a = pair_of Initiator 1 (unused_window 2)

abbrev pub first_of_b : Pair
first_of_b = pair_of Responder 0 one_taken

-- A's second pair, which sealed under so many numbers, and B's, by what came
abbrev second_of_a : ℕ → Pair
second_of_a last = further_pair Initiator last (unused_window 2)

abbrev second_of_b : Seen → Pair
second_of_b window = further_pair Responder 0 window

asking_second : pair_at asking_two.pairs 2 ≡ Some (second_of_a 0)
asking_second = second_there first_of_a (second_of_a 0)

answering_second : pair_at answering_two.pairs 2 ≡ Some (second_of_b (unused_window 2))
answering_second = second_there first_of_b (second_of_b (unused_window 2))

-- at the end
pub sealed_second : pair_at sealed_two.pairs 2 ≡ Some (second_of_a 1)
sealed_second = put_there asking_two.pairs 2 2 (second_of_a 1) refl

pub delivered_second : pair_at delivered_two.pairs 2 ≡ Some (second_of_b one_taken)
delivered_second = put_there answering_two.pairs 2 2 (second_of_b one_taken) refl

pub sealed_first : pair_at sealed_two.pairs 1 ≡ Some first_of_a
sealed_first = put_beside asking_two.pairs 2 1 (second_of_a 1) (λ is. absurd (omega (arith, is))) ∙ first_there first_of_a (second_of_a 0)

pub delivered_first : pair_at delivered_two.pairs 1 ≡ Some first_of_b
delivered_first =
    put_beside answering_two.pairs 2 1 (second_of_b one_taken) (λ is. absurd (omega (arith, is))) ∙ first_there first_of_b (second_of_b (unused_window 2))

-- ---- the keys of what A sends by the second, and of what B sends

abbrev pub asking_key : Octets
asking_key = key_at 0 (child_material worked_record.sk_d (nonce_of 13) (nonce_of 14))

abbrev pub answering_key : Octets
answering_key = key_at 1 (child_material worked_record.sk_d (nonce_of 13) (nonce_of 14))

-- B's first pair has another SPI
pub apart : first_of_b.inbound.association.spi ≡ 513 → ⊥
apart is = absurd (omega (arith, is))

-- ---- the steps

abbrev asks_step : Stepped
asks_step = asking_step 1 4 asking_octets

abbrev makes_step : Stepped
makes_step = stepped_of 1 4 (effect.Replied reply_said)

abbrev counts_step : Stepped
counts_step = stepped_of 1 4 (effect.Counted child_made)

abbrev child_of_a : MadeChild
child_of_a = record { serial = 2; ike = 1; number = 4; asked = true }

abbrev child_of_b : MadeChild
child_of_b = record { serial = 2; ike = 1; number = 4; asked = false }

module _ {C : Type 0} (a b : C) where
  asks_so : ike.Steps run_meaning all_protected (ike.Start (Some 1) 0 (fresh_of 13)) (matched_world a b).a.machine (asking_table 1)
      asks_step (furthering_world a b).a.machine asked_table
  asks_so = (refl, record { entry = _; protects = refl; asks = taking.asks_further })

  module _ (laws : SoundLaws) where
    sound_furthering : IsSoundState (furthering_world a b).a
    sound_furthering =
        stays_sound_with laws (ike.Start (Some 1) 0 (fresh_of 13)) asks_step (matched_world a b).a (furthering_world a b).a (sound_matched a b laws)
        asked_table_is_sound asks_so

    asks_it : TakesEvent (λ _. run_meaning) (asks_further a b).event (asks_further a b).before (asks_further a b).said (asks_further a b).after
    asks_it = record {
      sound = sound_matched a b laws;
      fresh = sealing 13 (omega arith);
      trace = asks_step.trace;
      gateway = (furthering_world a b).a;
      traces = record { kept = refl; does = inl (record { stepped = asks_step; steps = asks_so; output = refl; traced = refl }) };
      content = refl;
    }

    makes_it : TakesEvent (λ _. run_meaning) (makes_child a b).event (makes_child a b).before (makes_child a b).said (makes_child a b).after
    makes_it = record {
      sound = sound_replied a b laws;
      fresh = sealing 14 (omega arith);
      trace = makes_step.trace;
      gateway = (made_world a b).b;
      traces = record {
        kept = refl;
        does = inl (record {
          stepped = makes_step;
          steps = takes_alone (new_machine (config_at B)) all_protected (replicate 4 1) (fresh_of 14) asking_spelled refl refl request_takes;
          output = refl;
          traced = refl;
        });
      };
      content = ap (λ (o : Option Pair).
          world_of a b (end_then A a 1000 furthering asked_table) (end_with B b answered_thrice answering_two)
          (stored_then a b (sent_asking ∷ sent_answering ∷ []) (option_to_list (child_with B child_of_b (Some worked_record) o)))) (sym answering_second);
    }

    counts_it : TakesEvent (λ _. run_meaning) (counts_child a b).event (counts_child a b).before (counts_child a b).said (counts_child a b).after
    counts_it = record {
      sound = sound_furthering;
      fresh = sealing 15 (omega arith);
      trace = counts_step.trace;
      gateway = (further_world a b).a;
      traces = record {
        kept = refl;
        does = inl (record {
          stepped = counts_step;
          steps = takes_alone later_machine all_protected (replicate 4 2) (fresh_of 15) answering_spelled refl refl response_takes;
          output = refl;
          traced = refl;
        });
      };
      content = ap (λ (o : Option Pair).
          world_of a b (end_then A a 1000 counted_thrice asking_two) (end_with B b answered_thrice answering_two)
          (stored_then a b (sent_asking ∷ sent_answering ∷ []) (further_answered ∷ option_to_list (child_with A child_of_a (Some worked_record) o)))) (sym asking_second);
    }

    sound_counted : IsSoundState (further_world a b).a
    sound_counted =
        stays_sound_with laws (ike.Message (replicate 4 2) answering_octets (fresh_of 15)) counts_step (made_world a b).a (further_world a b).a sound_furthering
        asking_two_is_sound (takes_alone later_machine all_protected (replicate 4 2) (fresh_of 15) answering_spelled refl refl response_takes)

    sound_made : IsSoundState (further_world a b).b
    sound_made =
        stays_sound_with laws (ike.Message (replicate 4 1) asking_octets (fresh_of 14)) makes_step (matched_world a b).b (further_world a b).b (sound_replied a b laws)
        answering_two_is_sound (takes_alone (new_machine (config_at B)) all_protected (replicate 4 1) (fresh_of 14) asking_spelled refl refl request_takes)

    -- the world after the packet was sealed, by what pair stands under its serial
    abbrev by_pair : Option Pair → WorldState C
    by_pair found = record (sealed_world a b) {
      stored = stored_then a b (sent_asking ∷ sent_answering ∷ datagram_of A (mark_by 1 found) further_carried ∷ []) (further_answered ∷ further_asked ∷ []);
    }

    seals_it : TakesEvent (λ _. run_meaning) (seals_further a b).event (seals_further a b).before (seals_further a b).said (seals_further a b).after
    seals_it = record {
      sound = sound_counted;
      fresh = tt;
      trace = no_trace;
      gateway = (sealed_world a b).a;
      traces = record {
        kept = refl;
        does = (
          record { machine = refl; traced = refl },
          inl (record {
            outcome = traffic.Sealed 2 1 further_carried;
            sends = it_is_sealed 513 257 (omega arith) asking_key answering_key asking_two first_of_a;
            output = refl;
          }),
        );
      };
      content = ap by_pair (sym sealed_second);
    }

    hands_it_up : TakesEvent (λ _. run_meaning) (hands_up_further a b).event (hands_up_further a b).before (hands_up_further a b).said (hands_up_further a b).after
    hands_it_up = record {
      sound = sound_made;
      fresh = tt;
      trace = no_trace;
      gateway = (delivered_world a b).b;
      traces = record {
        kept = refl;
        does = (
          record { machine = refl; traced = refl },
          record {
            outcome = traffic.Up 2 1 worked_payload;
            receives = it_is_received 513 257 (omega arith) asking_key answering_key answering_two first_of_b apart;
            output = refl;
          },
        );
      };
      content = refl;
    }

    pub further_run_is : IsWorldTrail (λ _. run_meaning) (new_ends a b) (further_steps a b) (delivered_world a b)
    further_run_is =
        followed_by (λ _. run_meaning) (recovery_steps a b)
        (asks_further a b ∷ makes_child a b ∷ counts_child a b ∷ seals_further a b ∷ hands_up_further a b ∷ []) (new_ends a b) (matched_world a b)
        (delivered_world a b) (recovery_run_is a b laws)
        (refl, asks_it, (refl, makes_it, (refl, counts_it, (refl, seals_it, (refl, hands_it_up, refl)))))

  -- ---- the Child SA

  pub answered_there : Contains (delivered_world a b).stored.children further_answered
  answered_there =
      further_on answered_child (asked_child ∷ further_answered ∷ further_asked ∷ []) further_answered
      (further_on asked_child (further_answered ∷ further_asked ∷ []) further_answered (at_head further_answered (further_asked ∷ [])))

  pub asked_there : Contains (delivered_world a b).stored.children further_asked
  asked_there =
      further_on answered_child (asked_child ∷ further_answered ∷ further_asked ∷ []) further_asked
      (further_on asked_child (further_answered ∷ further_asked ∷ []) further_asked
      (further_on further_answered (further_asked ∷ []) further_asked (at_head further_asked [])))

pub of_one : AreOfOneRequest further_asked further_answered
of_one = record { keys = refl; ends = refl; asked_is = refl; answered_is = refl; number = refl }

pub mirrored : Mirrors (second_of_a 1) (second_of_b one_taken)
mirrored = record { inward = refl; outward = refl; extension = refl; local = refl; remote = refl }
