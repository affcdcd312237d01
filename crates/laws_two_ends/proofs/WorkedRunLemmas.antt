-- The worked run takes place, step by step, and meets all premises.
use Rattle.std.proofs.Common.{◌++◌, ◌∷◌, ℕ, Bool, List, [], refl, subst}
use Rattle.base.specs.Octets.{Octets}
use Rattle.effects.specs.Taking.{Meaning}
use Rattle.gateway.specs.States.{IsSoundState}
use Rattle.gateway.specs.WorldHistories.{Happening, IsWorldTrail}
use Rattle.gateway.specs.WorldParties.{HasSent}
use Rattle.gateway.specs.WorldPromises.{ComesUnder, IsUnforgedByThen}
use Rattle.gateway.specs.Worlds.{gateway_at, other_end, HoldsNothing, WorldState}
use Rattle.laws_two_ends.specs.WorkedRequests.{worked_reply, worked_request}
use Rattle.gateway.specs.declared.world.stored.End.{End}
use Rattle.gateway.specs.declared.world.stored.End.TheVariants.{A, B}
use Rattle.laws_two_ends.specs.WorkedRecords.{worked_record}
use Rattle.laws_two_ends.proofs.AuthLemmas.{auth_octets}
use Rattle.laws_two_ends.proofs.InitLemmas.{answer_octets, request_octets}
use Rattle.laws_two_ends.proofs.RequestLemmas.{in_it}
use Rattle.laws_two_ends.specs.WorkedRuns.{new_ends, run_meaning, Exchanged, IsRunFromNewGateways}
use Rattle.laws_two_ends.proofs.AcceptingLemmas.{auth_request_was_sent, child_other_is_sound}
use Rattle.laws_two_ends.proofs.BeginningLemmas.{first_steps_are, told_one_is_sound, told_other_is_sound}
use Rattle.laws_two_ends.proofs.ConcludingLemmas.{auth_response_was_sent, child_one_is_sound, child_steps_are}
use Rattle.laws_two_ends.proofs.HeldLemmas.{answering_in_time, answering_table_is_sound, asking_in_time, asking_table_is_sound}
use Rattle.laws_two_ends.proofs.KeyedLemmas.{came_as_initiator, came_as_responder, none_comes_answering, none_comes_beginning, none_comes_telling}
use Rattle.laws_two_ends.proofs.LastLemmas.{all_at, alone, alone_back, answer_comes, answer_was_sent, answered_held, answered_there, asked_held, asked_there, both_are_held, both_are_held_back, last_steps_are, never_made_twice, none_comes_handing_up, none_comes_probing, none_comes_sealing, of_one, packet_comes, probe_comes, probe_was_sent, unforged_back, unforged_to}
use Rattle.laws_two_ends.proofs.NewEndLemmas.{can_be, is_fresh, new_end_holds_nothing, new_ends_are_sound, policy_is_sound, set_up, starts, typed, NewWorldsAreSound}
use Rattle.laws_two_ends.proofs.ResponseLemmas.{response_octets}
use Rattle.laws_two_ends.proofs.SoundnessLemmas.{NoSpiIsLost, OneMessage, OneTime, SoundnessStays}
use Rattle.laws_two_ends.proofs.Stages.{accepts, all_steps, answered_child, answers, asked_child, begins, carried_octets, child_world, concludes, counted, counts, hands_up, is_there, last_world, probed, probes, probing, seals, tells, told_world, two_taken}

-- what takes place after one list of steps goes on from where that ended
pub followed_by : {C : Type 0} (meaning_of : C → Meaning) (hs gs : List (Happening C)) (old between new : WorldState C) → IsWorldTrail meaning_of old hs between
    → IsWorldTrail meaning_of between gs new → IsWorldTrail meaning_of old (hs ++ gs) new
followed_by {C} meaning_of [] gs old between new same later = subst (λ (w : WorldState C). IsWorldTrail meaning_of w gs new) same later
followed_by {C} meaning_of (h ∷ hs) gs old between new (begins_at, takes, others) later =
    (begins_at, takes, followed_by meaning_of hs gs h.after between new others later)

abbrev exchanged : Exchanged
exchanged = record {
  init_request = request_octets;
  init_response = answer_octets;
  auth_request = auth_octets;
  auth_response = response_octets;
  packet = carried_octets;
  probe = worked_request;
  probe_response = worked_reply;
}

module _ {C : Type 0} (a b : C) where
  abbrev steps : List (Happening C)
  steps = all_steps a b response_octets

  abbrev last : WorldState C
  last = last_world a b response_octets

  holds_nothing : (end : End) → HoldsNothing (gateway_at end (new_ends a b))
  holds_nothing A = new_end_holds_nothing A a
  holds_nothing B = new_end_holds_nothing B b

  pub run_is : SoundnessStays → NoSpiIsLost → IsWorldTrail (λ _. run_meaning) (new_ends a b) steps last
  run_is stays held =
      let one : IsSoundState (told_world a b).a = told_one_is_sound stays held a b in
      let other : IsSoundState (told_world a b).b = told_other_is_sound stays held a b in
      let child_one = child_one_is_sound a b stays held (asking_table_is_sound 0) asking_in_time one in
      let child_other = child_other_is_sound a b stays held answering_table_is_sound (answering_in_time response_octets) other in
      followed_by (λ _. run_meaning) (begins a b ∷ answers a b ∷ tells a b ∷ []) (accepts a b response_octets ∷ concludes a b response_octets ∷ seals a b response_octets
      ∷ hands_up a b response_octets ∷ probes a b response_octets ∷ is_there a b response_octets ∷ counts a b response_octets ∷ []) (new_ends a b) (told_world a b) last
      (first_steps_are stays held a b)
      (followed_by (λ _. run_meaning) (accepts a b response_octets ∷ concludes a b response_octets ∷ []) (seals a b response_octets ∷ hands_up a b response_octets
      ∷ probes a b response_octets ∷ is_there a b response_octets ∷ counts a b response_octets ∷ []) (told_world a b) (child_world a b response_octets) last
      (child_steps_are a b one other) (last_steps_are a b response_octets stays held child_one child_other))

  -- what came under the keys at this step had been sent
  abbrev WasSent : Happening C → Type 0
  WasSent h = (response : Bool) (number : ℕ) (octets : Octets) → ComesUnder (λ _. run_meaning) worked_record response number octets h
      → HasSent (other_end h.event.end) worked_record response number octets h.before.stored

  unforged_run : OneMessage → IsUnforgedByThen (λ _. run_meaning) worked_record steps
  unforged_run one_message place h response number octets there =
      all_at WasSent steps (
        λ r n o comes. absurd (none_comes_beginning a b r n o comes),
        (
          λ r n o comes. absurd (none_comes_answering a b r n o comes),
          (
            λ r n o comes. absurd (none_comes_telling a b r n o comes),
            (
              auth_request_was_sent a b one_message,
              (
                auth_response_was_sent a b one_message,
                (
                  λ r n o comes. absurd (none_comes_sealing a b response_octets r n o comes),
                  (
                    λ r n o comes. absurd (none_comes_handing_up a b response_octets r n o comes),
                    (
                      λ r n o comes. absurd (none_comes_probing a b response_octets r n o comes),
                      (probe_was_sent a b response_octets one_message, (answer_was_sent a b response_octets one_message, tt)),
                    ),
                  ),
                ),
              ),
            ),
          ),
        ),
      ) place h there response number octets

  pub worked_run_is : SoundnessStays → NoSpiIsLost → OneMessage → OneTime → NewWorldsAreSound C → IsRunFromNewGateways a b
  worked_run_is stays held one_message one_time are_sound = record {
    exchanged = exchanged;
    happenings = steps;
    last = last;
    takes = refl;
    says = refl;
    trail = run_is stays held;
    can_be = can_be;
    configs = set_up;
    typed = typed;
    policy = policy_is_sound;
    starts = starts;
    holds_nothing = holds_nothing;
    fresh = is_fresh;
    sound = new_ends_are_sound are_sound a b;
    unforged = unforged_run one_message;
    once = never_made_twice a b response_octets one_time;
    responder_step = answers a b;
    answers = refl;
    as_responder = came_as_responder a b;
    initiator_step = tells a b;
    reads = refl;
    as_initiator = came_as_initiator a b;
    asking = counted;
    answering = probed;
    held = both_are_held a b response_octets;
    held_back = both_are_held_back a b response_octets;
    established = refl;
    established_back = refl;
    window = refl;
    window_back = refl;
    in_effect = in_it (two_taken []).in_effect 2;
    counted = in_it probing.outgoing.answered 2;
    probe_step = is_there a b response_octets;
    probes = refl;
    request_comes = probe_comes a b response_octets;
    counting_step = counts a b response_octets;
    counts = refl;
    response_comes = answer_comes a b response_octets;
    asked = asked_child;
    answered = answered_child;
    asked_there = asked_there a b response_octets;
    answered_there = answered_there a b response_octets;
    keyed = refl;
    of_one = of_one a b response_octets;
    number_is = refl;
    asked_end = refl;
    asked_serial = refl;
    answered_end = refl;
    answered_serial = refl;
    packet_step = hands_up a b response_octets;
    delivers = refl;
    packet_comes = packet_comes a b response_octets;
    asked_held = asked_held a b response_octets;
    answered_held = answered_held a b response_octets;
    unforged_to = unforged_to a b response_octets;
    one_sender = alone a b response_octets;
    unforged_back = unforged_back a b response_octets;
    one_sender_back = alone_back a b response_octets;
  }
