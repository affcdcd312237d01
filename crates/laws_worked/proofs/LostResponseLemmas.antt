-- In the run that begins with two new gateways the response to a second probe is lost, and comes again with a
-- later copy of its request.
use Rattle.std.proofs.Common.{◌≡◌, ◌++◌, ◌∷◌, inl, inr, ℕ, Bool, true, false, List, [], Some, None, Option, map, ap, arith, refl, subst, sym, ◌∙◌}
use Rattle.std.proofs.lemmas.Bool.Decides.{eqb_tells}
use Rattle.std.proofs.lemmas.List.Elements.{Contains-push}
use Rattle.std.specs.FinMap as numbers
use Rattle.std.specs.List.{filter, list_any}
use Rattle.std.specs.Option.{option_map}
use Rattle.std.specs.Prelude.{replicate}
use Rattle.requests.specs.Incoming.{IsLeftBehind}
use Rattle.requests.specs.Timers.{IsDue}
use Rattle.requests.specs.declared.incoming.Judgement.TheVariants as judged
use Rattle.requests.specs.declared.timer.Due.TheVariants.{Again, Nothing}
use Rattle.sadb.specs.Database.{Database}
use Rattle.association.specs.Receiving as receiving
use Rattle.association.specs.Receiving.{reception_by}
use Rattle.association.specs.declared.phase.Association.{Association}
use Rattle.association.specs.declared.phase.Request.{Request}
use Rattle.setup.specs.Configs.{Setup}
use Rattle.moments.specs.Due.{after_sending, due_of, has_failed, is_due, is_unanswered, resent, SendsAgain}
use Rattle.moments.specs.Ticking.{PassAll, PassesBy}
use Rattle.effects.specs.Taking.{Meaning, TakesMessage}
use Rattle.effects.specs.declared.taking.Effect.TheVariants as effect
use Rattle.ike.specs.Machines.{new_machine, Machine}
use Rattle.ike.specs.Moments.{WaitsAt}
use Rattle.ike.specs.Outputs.{plain_step, stepped_of}
use Rattle.ike.specs.Steps as ike
use Rattle.ike.specs.declared.output.IkeOutput.TheVariants as ike_output
use Rattle.ike.specs.declared.output.Stepped.{Stepped}
use Rattle.gateway.specs.Histories.{IsPassage}
use Rattle.gateway.specs.Requests.{for_ike, AnswersBy}
use Rattle.gateway.specs.States.{IsSoundState}
use Rattle.gateway.specs.WorldHistories.{passage_at, Happening, IsWorldTrail}
use Rattle.gateway.specs.Worlds.{IsFreshlyGiven, TakesEvent}
use Rattle.gateway.specs.declared.world.stored.End.TheVariants.{A, B}
use Rattle.gateway.proofs.PartyLemmas.{some_is}
use Rattle.laws_two_ends.proofs.WorkedRequestLemmas.{first_three}
use Rattle.laws_two_ends.specs.WorkedMessages.{alive_octets, probe_octets}
use Rattle.laws_two_ends.specs.WorkedRecords.{fresh_of, worked_record}
use Rattle.laws_two_ends.specs.WorkedRuns.{all_protected, config_at, new_ends, run_meaning}
use Rattle.laws_two_ends.proofs.ArrivalLemmas.{takes_alone}
use Rattle.laws_two_ends.proofs.InformationalLemmas.{empty_plain, is_counted, nothing_ended}
use Rattle.laws_two_ends.proofs.MapLemmas.{none_found, put_beside, put_there, taken_out}
use Rattle.laws_two_ends.proofs.NewEndLemmas.{sealing}
use Rattle.laws_two_ends.proofs.Stages.{asking_table, counted, probed}
use Rattle.laws_two_ends.proofs.TakenLemmas.{one_more}
use Rattle.laws_two_ends.proofs.WorkedRunLemmas.{followed_by}
use Rattle.laws_recovery.specs.Copies.{AreEndsOfOne, GoesOutFirst, WaitsUntil}
use Rattle.laws_recovery.specs.Waiting.{GoesOutAgain}
use Rattle.laws_recovery.specs.WorldCopies.{CopyArrives, ResponseArrives, WasTaken}
use Rattle.laws_worked.specs.LostResponses.{IsRunWithLostResponse}
use Rattle.laws_worked.specs.Recoveries.{sent_again}
use Rattle.laws_worked.proofs.LostResponseStages.{counted_at_last, goes_third, lost_response_steps, matched_world, matches, repeated_world, repeats, third_request, third_world}
use Rattle.laws_worked.proofs.RecoveryLemmas.{asks_it, not_yet, replies_it, sound_replied, sound_ticked, stays_sound, takes_effect, ticks_it, SoundLaws}
use Rattle.laws_worked.proofs.RecoveryMessageLemmas.{answer_spelled, answered, asked, asked_spelled, counted_waits_for_none, fresh_three, in_effect, it_waits, none_at, one_entry}
use Rattle.laws_worked.proofs.RecoveryStages.{again, again_request, answered_twice, asks_again, goes_again, replied_world, replies, second_request, waiting_by}
use Rattle.laws_worked.proofs.ReplayRunLemmas.{exchanged}
use Rattle.laws_worked.proofs.RetransmissionLemmas.{answered_again, retransmission_run_is, retransmission_steps}

-- ---- the request goes out for the third time

abbrev before : Association
before = waiting_by again_request

abbrev later : Association
later = waiting_by third_request

not_failed : has_failed 3000 before ≡ false
not_failed = ap (list_any (λ (e : ℕ × Request). is_unanswered 3000 e.1)) (one_entry again_request)

sends : SendsAgain 3000 before later
sends = record {
  each = λ number. elim (eqb_tells number 3) [
    | inl (_, same) ↦
        put_there counted.outgoing.outstanding 3 number third_request same
        ∙ ap (option_map (after_sending 3000)) (sym (put_there counted.outgoing.outstanding 3 number again_request same))
    | inr (_, apart) ↦
        put_beside counted.outgoing.outstanding 3 number third_request apart
        ∙ none_at number
        ∙ ap (option_map (after_sending 3000)) (sym (put_beside counted.outgoing.outstanding 3 number again_request apart ∙ none_at number))
  ];
  content = refl;
}

goes : sent_again again ∷ [] ≡ due_of 3000 before
goes =
    sym (ap (λ (es : List (ℕ × Request)). map (resent before) (filter (λ e. is_due 3000 e.1) es)) (one_entry again_request))

passes : (table : Database) → PassesBy false (has_failed 3000 before) 3000 before table (sent_again again ∷ []) [] (later ∷ []) table
passes table =
    subst (λ (b : Bool). PassesBy false b 3000 before table (sent_again again ∷ []) [] (later ∷ []) table) (sym not_failed)
    (later, sends, goes, refl, refl, refl)

all_pass : (table : Database) → PassAll 3000 (before ∷ []) table (sent_again again ∷ []) [] (later ∷ []) table
all_pass table = record {
  sent_first = sent_again again ∷ [];
  sent_rest = [];
  closed_first = [];
  closed_rest = [];
  held_first = later ∷ [];
  held_rest = [];
  between = table;
  passes = record { done = passes table };
  others = (refl, refl, refl, refl);
  sent_all = refl;
  closed_all = refl;
  held_all = refl;
}

-- it is due then, when its second wait ends, and not before
not_due_yet : IsDue again_request.timer 2999 Nothing
not_due_yet = omega arith

is_due_then : IsDue again_request.timer 3000 Again
is_due_then = (omega arith, omega arith)

-- ---- it comes to B again, which keeps the response

reply_kept : numbers.get answered_twice.incoming.kept 3 ≡ Some alive_octets
reply_kept = put_there numbers.empty 3 3 alive_octets refl

near : ¬ IsLeftBehind answered_twice.incoming 3
near behind =
    let less = (one_more probed.incoming.in_effect 3 first_three).only behind.later behind.in_effect in
    let far = behind.far in
    absurd (omega (arith, less, far))

is_repeated : (setup : Setup) (table : Database)
    → TakesMessage run_meaning setup answered_twice table probe_octets asked (effect.Repeated alive_octets) answered_twice table
is_repeated setup table = record {
  reception = receiving.Repeat alive_octets;
  received = record {
    judgement = judged.Repeat (record { ref_ptr = (0, 0); now = alive_octets });
    number = (in_effect, reply_kept);
    whole = refl;
  };
  done = (refl, record { association = refl; pairs = refl });
}

-- ---- the response is matched

response_takes : (setup : Setup) (table : Database)
    → TakesMessage run_meaning setup later table alive_octets answered (effect.Counted nothing_ended) counted_at_last table
response_takes setup table = record {
  reception = receiving.Answers empty_plain;
  received = sym (ap (λ (o : Option Request). reception_by later.phase 37 o (Some empty_plain)) (it_waits third_request));
  done = is_counted setup later table 3 probe_octets third_request.timer (it_waits third_request);
}

-- its number is answered, and nothing waits
none_waits : (request : Request) → ¬ (numbers.get counted_at_last.outgoing.outstanding 3 ≡ Some request)
none_waits request there =
    none_found counted_at_last.outgoing.outstanding (taken_out counted.outgoing.outstanding counted_waits_for_none 3 third_request) 3 request there

-- ---- what waits, and the ends of the IKE SA

-- where A's IKE SA alone is held, that waits for the answer to this request
waits_by : (request : Request) → WaitsAt (record { next = 2; associations = waiting_by request ∷ [] }) 1 3 request
waits_by request = record { association = waiting_by request; there = refl; waits = it_waits request }

ends_first : AreEndsOfOne counted probed
ends_first = record { keys = worked_record; one_keyed = refl; other_keyed = refl; spi_i = refl; spi_r = refl; roles = refl }

ends_second : AreEndsOfOne counted answered_twice
ends_second = record { keys = worked_record; one_keyed = refl; other_keyed = refl; spi_i = refl; spi_r = refl; roles = refl }

ends_at_last : AreEndsOfOne later probed
ends_at_last = record { keys = worked_record; one_keyed = refl; other_keyed = refl; spi_i = refl; spi_r = refl; roles = refl }

-- ---- the steps of the machine

-- A's machine at 3000
abbrev last_machine : Machine
last_machine = record (new_machine (config_at A)) { moment = 3000 }

abbrev ticks_step : Stepped
ticks_step = plain_step (ike_output.Ticked (record { requests = sent_again again ∷ []; closed = [] }))

abbrev repeats_step : Stepped
repeats_step = stepped_of 1 3 (effect.Repeated alive_octets)

abbrev counts_step : Stepped
counts_step = stepped_of 1 3 (effect.Counted nothing_ended)

-- the clause `step` of `laws_recovery::laws::each_end_of_a_world_has_its_history`
abbrev pub StepsOfAWorld : Type 0 → Type 0
StepsOfAWorld C =
    (meaning_of : C → Meaning) (h : Happening C) → TakesEvent meaning_of h.event h.before h.said h.after
    → IsPassage meaning_of (passage_at h.event.end h) × IsFreshlyGiven (for_ike h.event.input)

module _ {C : Type 0} (a b : C) where
  third_so : ike.Steps run_meaning all_protected (ike.Tick 3000) (replied_world a b).a.machine (asking_table 1)
      ticks_step (third_world a b).a.machine (asking_table 1)
  third_so = record {
    takes = record {
      ticked = record { requests = sent_again again ∷ []; closed = [] };
      ticks = all_pass (asking_table 1);
      said = refl;
      next = refl;
    };
    content = refl;
  }

  module _ (laws : SoundLaws) where
    -- A, where it retransmitted the request once more
    sound_third : IsSoundState (third_world a b).a
    sound_third = stays_sound laws (ike.Tick 3000) ticks_step (replied_world a b).a (third_world a b).a (sound_ticked a b laws) refl third_so

    third_it : TakesEvent (λ _. run_meaning) (goes_third a b).event (goes_third a b).before (goes_third a b).said (goes_third a b).after
    third_it = record {
      sound = sound_ticked a b laws;
      fresh = tt;
      trace = ticks_step.trace;
      gateway = (third_world a b).a;
      traces = record { kept = refl; does = inl (record { stepped = ticks_step; steps = third_so; output = refl; traced = refl }) };
      content = refl;
    }

    repeats_it : TakesEvent (λ _. run_meaning) (repeats a b).event (repeats a b).before (repeats a b).said (repeats a b).after
    repeats_it = record {
      sound = sound_replied a b laws;
      fresh = sealing 12 (omega arith);
      trace = repeats_step.trace;
      gateway = (repeated_world a b).b;
      traces = record {
        kept = refl;
        does = inl (record {
          stepped = repeats_step;
          steps = takes_alone (new_machine (config_at B)) all_protected (replicate 4 1) (fresh_of 12) asked_spelled refl refl (is_repeated _ _);
          output = refl;
          traced = refl;
        });
      };
      content = refl;
    }

    matches_it : TakesEvent (λ _. run_meaning) (matches a b).event (matches a b).before (matches a b).said (matches a b).after
    matches_it = record {
      sound = sound_third;
      fresh = sealing 13 (omega arith);
      trace = counts_step.trace;
      gateway = (matched_world a b).a;
      traces = record {
        kept = refl;
        does = inl (record {
          stepped = counts_step;
          steps = takes_alone last_machine all_protected (replicate 4 2) (fresh_of 13) answer_spelled refl refl (response_takes _ _);
          output = refl;
          traced = refl;
        });
      };
      content = refl;
    }

    lost_response_run_is : IsWorldTrail (λ _. run_meaning) (new_ends a b) (lost_response_steps a b) (matched_world a b)
    lost_response_run_is =
        followed_by (λ _. run_meaning) (retransmission_steps a b)
        (asks_again a b ∷ goes_again a b ∷ replies a b ∷ goes_third a b ∷ repeats a b ∷ matches a b ∷ []) (new_ends a b) (answered_again a b)
        (matched_world a b) (retransmission_run_is a b laws.stays laws.lost) (
          refl,
          asks_it a b laws,
          (refl, ticks_it a b laws, (refl, replies_it a b laws, (refl, third_it, (refl, repeats_it, (refl, matches_it, refl))))),
        )

    -- ---- where the request goes out, and that it waits

    goes_out_first : GoesOutFirst 1 3 second_request (passage_at A (asks_again a b))
    goes_out_first = record { asked = refl; said = refl; waits = waits_by second_request; first = not_yet a b laws }

    goes_out_second : GoesOutAgain 1 3 second_request (passage_at A (goes_again a b))
    goes_out_second = record {
      requests = sent_again again ∷ [];
      closed = [];
      said = refl;
      encrypted = true;
      among = Contains-push [] (sent_again again);
    }

    goes_out_third : GoesOutAgain 1 3 again_request (passage_at A (goes_third a b))
    goes_out_third = record {
      requests = sent_again again ∷ [];
      closed = [];
      said = refl;
      encrypted = true;
      among = Contains-push [] (sent_again again);
    }

    no_more : (request : Request) → ¬ WaitsAt (matches a b).after.a.machine.held 1 3 request
    no_more request waits =
        none_waits request (ap (λ (x : Association). numbers.get x.outgoing.outstanding 3) (some_is counted_at_last waits.association waits.there) ∙ waits.waits)

    -- ---- the copies and the response, in the world of both

    first_comes : CopyArrives A 1 1 3 probed (lost_response_steps a b) (replies a b)
    first_comes = record {
      before = retransmission_steps a b;
      asking = asks_again a b;
      between = [];
      repeating = goes_again a b;
      since = [];
      after = goes_third a b ∷ repeats a b ∷ matches a b ∷ [];
      all = refl;
      asks_here = refl;
      repeats_here = refl;
      arrives_there = refl;
      request = second_request;
      first = goes_out_first;
      through = tt;
      waiting = second_request;
      waits = waits_by second_request;
      again = goes_out_second;
      datagram = refl;
      a = counted;
      its = refl;
      stands = refl;
      ends = ends_first;
    }

    second_comes : CopyArrives A 1 1 3 answered_twice (lost_response_steps a b) (repeats a b)
    second_comes = record {
      before = retransmission_steps a b;
      asking = asks_again a b;
      between = goes_again a b ∷ replies a b ∷ [];
      repeating = goes_third a b;
      since = [];
      after = matches a b ∷ [];
      all = refl;
      asks_here = refl;
      repeats_here = refl;
      arrives_there = refl;
      request = second_request;
      first = goes_out_first;
      through = ((second_request, waits_by second_request), tt);
      waiting = again_request;
      waits = waits_by again_request;
      again = goes_out_third;
      datagram = refl;
      a = counted;
      its = refl;
      stands = refl;
      ends = ends_second;
    }

    replied_so : AnswersBy (passage_at B (replies a b)) alive_octets
    replied_so = record { closed = None; said = refl }

    was_taken : WasTaken B 1 3 alive_octets (lost_response_steps a b) (repeats a b)
    was_taken = record {
      before = retransmission_steps a b ++ asks_again a b ∷ goes_again a b ∷ [];
      taking = replies a b;
      since = goes_third a b ∷ [];
      after = matches a b ∷ [];
      all = refl;
      takes_here = refl;
      takes = takes_effect a b laws;
      answers = replied_so;
    }

    response_comes : ResponseArrives A 1 3 (lost_response_steps a b) (matches a b)
    response_comes = record {
      before = retransmission_steps a b;
      asking = asks_again a b;
      between = goes_again a b ∷ replies a b ∷ goes_third a b ∷ repeats a b ∷ [];
      after = [];
      all = refl;
      asks_here = refl;
      arrives_here = refl;
      request = second_request;
      first = goes_out_first;
      through = ((second_request, waits_by second_request), ((again_request, waits_by again_request), tt));
      waiting = third_request;
      waits = waits_by third_request;
      a = counted;
      its = refl;
      place = 14;
      taking = replies a b;
      among = refl;
      takes_there = refl;
      other = 1;
      b = probed;
      stands = refl;
      ends = ends_first;
      established = record { keys = worked_record; is = refl };
      taken = refl;
      reply = alive_octets;
      answers = replied_so;
      datagram = refl;
      d = later;
      held = refl;
      ends_then = ends_at_last;
    }

    -- ---- and at each end

    module _ (steps : StepsOfAWorld C) where
      asking_is : IsPassage (λ _. run_meaning) (passage_at A (asks_again a b))
      asking_is = (steps (λ _. run_meaning) (asks_again a b) (asks_it a b laws)).0

      second_is : IsPassage (λ _. run_meaning) (passage_at A (goes_again a b))
      second_is = (steps (λ _. run_meaning) (goes_again a b) (ticks_it a b laws)).0

      third_is : IsPassage (λ _. run_meaning) (passage_at A (goes_third a b))
      third_is = (steps (λ _. run_meaning) (goes_third a b) third_it).0

      matching_is : IsPassage (λ _. run_meaning) (passage_at A (matches a b))
      matching_is = (steps (λ _. run_meaning) (matches a b) matches_it).0

      until_second : WaitsUntil (λ _. run_meaning) 1 3 counted probe_octets (passage_at A (asks_again a b)) [] (passage_at A (goes_again a b))
      until_second = record {
        asks = asking_is;
        fresh = sealing 10 (omega arith);
        its = refl;
        request = second_request;
        first = goes_out_first;
        trail = refl;
        through = tt;
        step = second_is;
        waiting = second_request;
        waits = waits_by second_request;
        octets_are = refl;
      }

      until_third : WaitsUntil (λ _. run_meaning) 1 3 counted probe_octets (passage_at A (asks_again a b)) (passage_at A (goes_again a b) ∷ []) (passage_at A (goes_third a b))
      until_third = record {
        asks = asking_is;
        fresh = sealing 10 (omega arith);
        its = refl;
        request = second_request;
        first = goes_out_first;
        trail = (refl, second_is, refl);
        through = ((second_request, waits_by second_request), tt);
        step = third_is;
        waiting = again_request;
        waits = waits_by again_request;
        octets_are = refl;
      }

      until_matched : WaitsUntil (λ _. run_meaning) 1 3 counted probe_octets (passage_at A (asks_again a b)) (passage_at A (goes_again a b) ∷ passage_at A (goes_third a b) ∷ [])
          (passage_at A (matches a b))
      until_matched = record {
        asks = asking_is;
        fresh = sealing 10 (omega arith);
        its = refl;
        request = second_request;
        first = goes_out_first;
        trail = (refl, second_is, (refl, third_is, refl));
        through = ((second_request, waits_by second_request), ((again_request, waits_by again_request), tt));
        step = matching_is;
        waiting = third_request;
        waits = waits_by third_request;
        octets_are = refl;
      }

      pub lost_response_is : IsRunWithLostResponse a b
      unfolding until_second until_third until_matched
      lost_response_is = record {
        exchanged = exchanged;
        again = again;
        happenings = lost_response_steps a b;
        last = matched_world a b;
        takes = refl;
        says = refl;
        trail = lost_response_run_is;
        asking = asks_again a b;
        asking_there = refl;
        asking_at = refl;
        first_copy = goes_again a b;
        first_there = refl;
        first_at = refl;
        arriving = replies a b;
        arriving_there = refl;
        arriving_at = refl;
        second_copy = goes_third a b;
        second_there = refl;
        second_at = refl;
        repeating = repeats a b;
        repeating_there = refl;
        repeating_at = refl;
        matching = matches a b;
        matching_there = refl;
        matching_at = refl;
        asker = counted;
        answerer = probed;
        ends = ends_first;
        established = record { keys = worked_record; is = refl };
        repeated = record { until = until_second; again = goes_out_second };
        step = (steps (λ _. run_meaning) (replies a b) (replies_it a b laws)).0;
        sealing = sealing 11 (omega arith);
        arrives = record { its = refl; datagram = refl };
        comes = first_comes;
        in_window = fresh_three;
        memory = refl;
        answerer_then = answered_twice;
        ends_then = ends_second;
        near = near;
        kept = reply_kept;
        repeated_again = record { until = until_third; again = goes_out_third };
        not_before = not_due_yet;
        due = is_due_then;
        follows = refl;
        step_again = (steps (λ _. run_meaning) (repeats a b) repeats_it).0;
        arrives_again = record { its = refl; datagram = refl };
        comes_again = second_comes;
        taken = was_taken;
        memory_again = refl;
        asker_then = later;
        ends_back = ends_at_last;
        waits = until_matched;
        timer = refl;
        arrives_back = record { its = refl; datagram = refl };
        response = response_comes;
        memory_at_last = refl;
        takes_effect = takes_effect a b laws;
        answers = replied_so;
        says_again = record { said = refl; unchanged = refl };
        matched = record { child = None; closed = None; said = refl; waits_no_more = no_more };
      }
