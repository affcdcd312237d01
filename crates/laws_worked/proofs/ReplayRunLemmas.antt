-- In the run that begins with two new gateways the packet comes to B again: the step takes place. As which
-- numbers packets are accepted in the run, and that no ICV is forged.
use Rattle.std.proofs.Common.{◌≡◌, ◌↔◌, ◌++◌, ◌∷◌, ℕ, false, List, [], Option, Some, None, ap, arith, refl, subst, sym, ◌∙◌}
use Rattle.std.specs.FinMap as map
use Rattle.std.specs.List.{AllByRecursion}
use Rattle.std.specs.Prelude.{length, replicate, slice_get}
use Rattle.base.specs.Octets.{Octets}
use Rattle.replay.specs.Window.{unused_window}
use Rattle.esp.specs.Judging.{low_half, IsJudgedLength, IsNumber}
use Rattle.esp.specs.Packet.{PassesIntegrity}
use Rattle.esp.specs.Worked.{worked_payload}
use Rattle.esp.specs.declared.fault.EspFault.TheVariants.{Replayed}
use Rattle.esp.specs.declared.sa.Sa as esp
use Rattle.exchange.specs.declared.headers.Role.TheVariants.{Responder}
use Rattle.sadb.specs.Database.{pair_at}
use Rattle.sadb.specs.declared.pair.Pair.{Pair}
use Rattle.children.specs.Pairs.{inbound_of}
use Rattle.effects.specs.declared.taking.Effect.TheVariants as effect
use Rattle.ike.specs.Machines.{new_machine}
use Rattle.ike.specs.Outputs.{no_trace, stepped_of}
use Rattle.ike.specs.Steps as ike
use Rattle.moments.specs.Held.{IsInTime}
use Rattle.traffic.specs.Outcomes as traffic
use Rattle.traffic.specs.declared.fault.PacketFault.TheVariants.{Esp}
use Rattle.deliveries.specs.Arrivals.{Unforged}
use Rattle.deliveries.specs.Numbers.{seen_before, AreNumbersOf, IsJudgedAs}
use Rattle.deliveries.specs.Passages as tables
use Rattle.gateway.specs.Inputs.{Input}
use Rattle.gateway.specs.Inputs as input
use Rattle.gateway.specs.Outputs.{Dropped}
use Rattle.gateway.specs.Packets.{table_passage, table_passages, JudgesOne, JudgesPacket}
use Rattle.gateway.specs.States.{IsSoundState}
use Rattle.laws_two_ends.specs.WorkedRequests.{worked_reply, worked_request}
use Rattle.gateway.specs.WorldHistories.{passage_at, passages_at, Happening, IsWorldTrail}
use Rattle.gateway.specs.Worlds.{TakesEvent, WorldState}
use Rattle.gateway.specs.declared.fault.Reason.TheVariants.{Packet}
use Rattle.gateway.specs.declared.world.stored.End.TheVariants.{B}
use Rattle.gateway.proofs.PartyLemmas.{some_is}
use Rattle.laws_two_ends.proofs.WorkedRequestLemmas.{asked_spelled}
use Rattle.laws_two_ends.specs.WorkedRecords.{fresh_of}
use Rattle.laws_two_ends.specs.WorkedRuns.{all_protected, config_at, new_ends, run_meaning, Exchanged}
use Rattle.laws_two_ends.proofs.ArrivalLemmas.{takes_alone}
use Rattle.laws_two_ends.proofs.AuthLemmas.{auth_octets}
use Rattle.laws_two_ends.proofs.CarriedLemmas.{judged}
use Rattle.laws_two_ends.proofs.InformationalLemmas.{reply_by}
use Rattle.laws_two_ends.proofs.InitLemmas.{answer_octets, request_octets}
use Rattle.laws_two_ends.proofs.MapLemmas.{none_found, only_there, put_again, put_there}
use Rattle.laws_two_ends.proofs.StateLemmas.{in_time_if}
use Rattle.laws_two_ends.proofs.TableLemmas.{lone_in}
use Rattle.laws_worked.specs.Replays.{numbers_of_it, sent_to_it, IsRunWithReplay}
use Rattle.laws_worked.proofs.JudgedNumberLemmas.{are_numbers, none_judged, nothing_came, packet_came}
use Rattle.laws_two_ends.proofs.AcceptingLemmas.{child_other_is_sound}
use Rattle.laws_two_ends.proofs.AskingLemmas.{probe_takes}
use Rattle.laws_two_ends.proofs.BeginningLemmas.{told_other_is_sound}
use Rattle.laws_two_ends.proofs.HeldLemmas.{answering_in_time, answering_table_is_sound, later_table_is_sound}
use Rattle.laws_two_ends.proofs.LastLemmas.{all_at, answering_key, asking_key, sound_delivered}
use Rattle.laws_worked.proofs.ReplayLemmas.{is_dropped, is_not_taken, is_taken, low_half_is, number_is_one, passes}
use Rattle.laws_two_ends.proofs.ResponseLemmas.{response_octets}
use Rattle.laws_two_ends.proofs.SoundnessLemmas.{sound_next, timely_alone, NoSpiIsLost, SoundnessStays}
use Rattle.laws_two_ends.proofs.Stages.{accepts, agreed_keys, agreed_terms, all_steps, answering_table, answers, carried_octets, delivered_world, hands_up, is_there, last_world, later_table, one_taken, pair_of, probed}
use Rattle.laws_two_ends.proofs.WorkedRunLemmas.{followed_by, run_is}

-- the datagrams of the run
abbrev pub exchanged : Exchanged
exchanged = record {
  init_request = request_octets;
  init_response = answer_octets;
  auth_request = auth_octets;
  auth_response = response_octets;
  packet = carried_octets;
  probe = worked_request;
  probe_response = worked_reply;
}

-- ---- B, after it answered the probe

pub probed_in_time : IsInTime 0 probed
probed_in_time = in_time_if probed refl (omega arith) (λ n r is. absurd (none_found map.empty refl n r is))

module _ {C : Type 0} (a b : C) where
  abbrev pub steps : List (Happening C)
  steps = all_steps a b response_octets

  abbrev pub last : WorldState C
  last = last_world a b response_octets

  pub last_other_is_sound : SoundnessStays → NoSpiIsLost → IsSoundState last.b
  last_other_is_sound stays lost =
      let child = child_other_is_sound a b stays lost answering_table_is_sound (answering_in_time response_octets) (told_other_is_sound stays lost a b) in
      sound_next stays lost run_meaning (ike.Message (replicate 4 1) worked_request (fresh_of 7)) (stepped_of 1 2 (effect.Replied (reply_by worked_reply)))
      (delivered_world a b response_octets).b last.b (sound_delivered a b response_octets child)
      (takes_alone (new_machine (config_at B)) all_protected (replicate 4 1) (fresh_of 7) asked_spelled refl refl (probe_takes response_octets _ _))
      later_table_is_sound (timely_alone (config_at B) probed probed_in_time)

  -- ---- the step

  abbrev pub comes_again : Happening C
  comes_again = record {
    before = last;
    event = record { end = B; input = input.Esp carried_octets };
    said = Dropped (Packet (Esp Replayed));
    after = last;
  }

  pub drops_it : SoundnessStays → NoSpiIsLost
      → TakesEvent (λ _. run_meaning) (comes_again).event (comes_again).before (comes_again).said (comes_again).after
  drops_it stays lost = record {
    sound = last_other_is_sound stays lost;
    fresh = tt;
    trace = no_trace;
    gateway = last.b;
    traces = record {
      kept = refl;
      does = (
        record { machine = refl; traced = refl },
        record {
          outcome = traffic.Dropped (Esp Replayed);
          receives = is_dropped 512 256 (omega arith) asking_key answering_key later_table;
          output = refl;
        },
      );
    };
    content = refl;
  }

  abbrev pub replay_steps : List (Happening C)
  replay_steps = steps ++ comes_again ∷ []

  pub replay_run_is : SoundnessStays → NoSpiIsLost → IsWorldTrail (λ _. run_meaning) (new_ends a b) replay_steps last
  replay_run_is stays lost =
      followed_by (λ _. run_meaning) steps (comes_again ∷ []) (new_ends a b) last last (run_is a b stays lost) (refl, drops_it stays lost, refl)

  -- ---- the two arrivals

  first_judges : JudgesPacket 1 1 carried_octets (passage_at B (hands_up a b response_octets))
  first_judges = record {
    given = refl;
    takes = is_taken 512 256 (omega arith) asking_key answering_key answering_table later_table.pairs
        (sym (put_again map.empty 1 (pair_of Responder 0 (unused_window 2)) (pair_of Responder 0 one_taken)));
    kept = refl;
  }

  abbrev esp_octets : Input → Octets
  esp_octets (input.Esp octets) = octets
  esp_octets _ = []

  second_judges_none : (child number : ℕ) → ¬ JudgesOne child number (passage_at B comes_again)
  second_judges_none child number judges =
      is_not_taken 512 256 (omega arith) asking_key answering_key later_table judges.octets child number later_table
      (ap esp_octets judges.judges.given) judges.judges.takes

  -- ---- no ICV is forged

  -- what B receives by
  abbrev by : esp.Sa
  by = inbound_of Responder agreed_keys agreed_terms

  abbrev arrivals : List tables.Passage
  arrivals = table_passages (passages_at B replay_steps)

  -- where the pair stands it receives so, and no packet comes but the one
  record IsOfOne (p : tables.Passage) : Type 0 where
    association : (pair : Pair) → pair_at p.before.pairs 1 ≡ Some pair → pair.inbound.association ≡ by
    comes : (reception : tables.Reception) → p.received ≡ Some reception → reception.packet ≡ carried_octets

  no_pair : (pair : Pair) → pair_at map.empty 1 ≡ Some pair → ⊥
  no_pair pair there = none_found map.empty refl 1 pair there

  none_came : (r : tables.Reception) → None ≡ Some r → ⊥
  none_came r is = cc

  same_reception : (one other : tables.Reception) → Some one ≡ Some other → one ≡ other
  same_reception one other is = cc

  association_with : (lone pair : Pair) → pair_at (map.insert map.empty 1 lone) 1 ≡ Some pair → pair.inbound.association ≡ lone.inbound.association
  association_with lone pair there = ap (λ (p : Pair). p.inbound.association) ((lone_in lone).only 1 pair there).content

  packet_of : (one r : tables.Reception) → Some one ≡ Some r → r.packet ≡ one.packet
  packet_of one r is = ap (λ (x : tables.Reception). x.packet) (sym (same_reception one r is))

  all_of_one : AllByRecursion IsOfOne arrivals
  all_of_one = (
    record { association = λ pair there. absurd (no_pair pair there); comes = λ r is. absurd (none_came r is) },
    (
      record { association = λ pair there. absurd (no_pair pair there); comes = λ r is. absurd (none_came r is) },
      (
        record {
          association = association_with (pair_of Responder 0 (unused_window 2));
          comes = packet_of (record { packet = carried_octets; outcome = traffic.Up 1 1 worked_payload });
        },
        (
          record { association = association_with (pair_of Responder 0 one_taken); comes = λ r is. absurd (none_came r is) },
          (
            record {
              association = association_with (pair_of Responder 0 one_taken);
              comes = packet_of (record { packet = carried_octets; outcome = traffic.Dropped (Esp Replayed) });
            },
            tt,
          ),
        ),
      ),
    ),
  )

  of_one : (place : ℕ) (p : tables.Passage) → slice_get arrivals place ≡ Some p → IsOfOne p
  of_one = all_at IsOfOne arrivals all_of_one

  -- ---- as which numbers packets are accepted

  abbrev first_arrival : tables.Passage
  first_arrival = table_passage (passage_at B (hands_up a b response_octets))

  first_number : (n : ℕ) → (Some 1 ≡ Some n) ↔ IsJudgedAs 1 n first_arrival
  first_number n = (
    λ is. subst (λ (k : ℕ). IsJudgedAs 1 k first_arrival) (some_is 1 n is) (record {
      reception = record { packet = carried_octets; outcome = traffic.Up 1 1 worked_payload };
      received = refl;
      takes = first_judges.takes;
    }),
    λ judges.
        let one : n ≡ 1 =
        number_is_one 512 256 (omega arith) asking_key answering_key answering_table judges.reception.packet 1 n later_table
        (packet_came (record { packet = carried_octets; outcome = traffic.Up 1 1 worked_payload }) judges.reception first_arrival refl judges.received) judges.takes in
        ap (λ (k : ℕ). Some k) (sym one),
  )

  abbrev second_arrival : tables.Passage
  second_arrival = table_passage (passage_at B comes_again)

  no_second_number : (n : ℕ) → ¬ IsJudgedAs 1 n second_arrival
  no_second_number n judges =
      is_not_taken 512 256 (omega arith) asking_key answering_key later_table judges.reception.packet 1 n later_table
      (packet_came (record { packet = carried_octets; outcome = traffic.Dropped (Esp Replayed) }) judges.reception second_arrival refl judges.received) judges.takes

  numbers_are : AreNumbersOf 1 arrivals numbers_of_it
  numbers_are =
      are_numbers 1 arrivals numbers_of_it (
        nothing_came 1 (table_passage (passage_at B (answers a b))) refl,
        (
          nothing_came 1 (table_passage (passage_at B (accepts a b response_octets))) refl,
          (
            first_number,
            (nothing_came 1 (table_passage (passage_at B (is_there a b response_octets))) refl, (none_judged 1 second_arrival no_second_number, tt)),
          ),
        ),
      )

  is_unforged : (numbers : List (Option ℕ)) → Unforged 1 arrivals numbers (sent_to_it carried_octets)
  is_unforged numbers = record {
    whole = λ n packet sent.
        subst (λ (o : Octets). IsJudgedLength (length o)) (sym (only_there map.empty refl 1 carried_octets n packet sent).content)
        (judged 512 256 (omega arith) asking_key answering_key).whole;
    intact = λ place n packet p pair here stands sent.
        let it = only_there map.empty refl 1 carried_octets n packet sent in
        let association : pair.inbound.association ≡ by = (of_one place p here).association pair stands in
        subst (λ (s : esp.Sa). PassesIntegrity s n packet) (sym association)
        (subst (λ (k : ℕ). PassesIntegrity by k packet) (sym it.number)
        (subst (λ (o : Octets). PassesIntegrity by 1 o) (sym it.content) (passes 512 256 (omega arith) asking_key answering_key)));
    no_other = λ place n packet p pair here comes whole number intact.
        let step = of_one place p here in
        let association : pair.inbound.association ≡ by = step.association pair comes.stands in
        let same : packet ≡ carried_octets = comes.packet_is ∙ step.comes comes.reception comes.received in
        let plain : IsNumber false (seen_before 1 pair arrivals numbers place) (low_half packet) n =
        subst (λ (s : esp.Sa). IsNumber s.extended (seen_before 1 pair arrivals numbers place) (low_half packet) n) association number in
        let number_is : n ≡ 1 = plain.0 ∙ ap low_half same ∙ low_half_is 512 256 (omega arith) asking_key answering_key in
        put_there map.empty 1 n carried_octets number_is ∙ ap (λ (o : Octets). Some o) (sym same);
  }

  pub replay_is : SoundnessStays → NoSpiIsLost → IsRunWithReplay a b
  replay_is stays lost = record {
    exchanged = exchanged;
    happenings = replay_steps;
    last = last;
    takes = refl;
    says = refl;
    trail = replay_run_is stays lost;
    numbers = numbers_are;
    unforged = is_unforged numbers_of_it;
    first = passage_at B (hands_up a b response_octets);
    first_there = refl;
    judges = first_judges;
    goes_up = refl;
    second = passage_at B comes_again;
    second_there = refl;
    comes_again = refl;
    judges_none = second_judges_none;
    is_dropped = refl;
    unchanged = refl;
  }
