-- In the run that begins with two new gateways the probe comes to B again, and gets the same response.
use Rattle.std.proofs.Common.{◌≡◌, ◌++◌, ◌∷◌, inl, List, [], None, Some, arith, refl, sym, ◌∙◌}
use Rattle.std.specs.FinMap as map
use Rattle.std.specs.Prelude.{replicate}
use Rattle.std.proofs.lemmas.Bool.{true≢false}
use Rattle.requests.specs.Incoming.{IsFreshRequest, IsLeftBehind}
use Rattle.requests.specs.declared.incoming.Judgement.TheVariants as judged
use Rattle.sadb.specs.Database.{Database}
use Rattle.association.specs.Receiving as receiving
use Rattle.setup.specs.Configs.{Setup}
use Rattle.effects.specs.Requests.{OpensAs}
use Rattle.effects.specs.Taking.{TakesMessage}
use Rattle.effects.specs.declared.taking.Effect.TheVariants as effect
use Rattle.ike.specs.Machines.{new_machine}
use Rattle.ike.specs.Outputs.{stepped_of}
use Rattle.gateway.specs.Outputs.{Repeat}
use Rattle.gateway.specs.Requests.{for_ike, IsNew, TakesEffect}
use Rattle.laws_two_ends.specs.WorkedRequests.{worked_reply, worked_request}
use Rattle.gateway.specs.WorldHistories.{passage_at, Happening, IsWorldTrail}
use Rattle.gateway.specs.Worlds.{TakesEvent, WorldState}
use Rattle.gateway.specs.declared.world.stored.End.TheVariants.{B}
use Rattle.laws_two_ends.proofs.WorkedRequestLemmas.{asked, asked_spelled, first_three, first_two}
use Rattle.laws_two_ends.specs.WorkedRecords.{fresh_of}
use Rattle.laws_two_ends.specs.WorkedRuns.{all_protected, comes_to, config_at, new_ends, run_meaning}
use Rattle.laws_two_ends.proofs.ArrivalLemmas.{takes_alone}
use Rattle.laws_two_ends.proofs.MapLemmas.{put_there}
use Rattle.laws_two_ends.proofs.TakenLemmas.{fresh_next}
use Rattle.laws_worked.specs.Retransmissions.{IsRunWithRetransmission}
use Rattle.laws_two_ends.proofs.NewEndLemmas.{sealing}
use Rattle.laws_two_ends.proofs.ResponseLemmas.{response_octets}
use Rattle.laws_worked.proofs.ReplayRunLemmas.{exchanged, last, last_other_is_sound, replay_run_is, replay_steps}
use Rattle.laws_two_ends.proofs.SoundnessLemmas.{NoSpiIsLost, SoundnessStays}
use Rattle.laws_two_ends.proofs.Stages.{all_keyed, answering, both_children, is_there, probed, sent_alive, sent_answer, sent_auth, sent_packet, sent_probe, sent_request, sent_response, stored_of}
use Rattle.laws_two_ends.proofs.WorkedRunLemmas.{followed_by}

-- ---- the request, where it is new and where it is not

opens_so : OpensAs run_meaning.plain_of (answering response_octets) worked_request 37 2
opens_so = record {
  message = asked;
  spelled = asked_spelled;
  spis = refl;
  from_peer = refl;
  request = refl;
  exchange_is = refl;
  number_is = refl;
  plain = record { first = 0; octets = [] };
  opened = refl;
}

opens_again : OpensAs run_meaning.plain_of probed worked_request 37 2
opens_again = record {
  message = asked;
  spelled = asked_spelled;
  spis = refl;
  from_peer = refl;
  request = refl;
  exchange_is = refl;
  number_is = refl;
  plain = record { first = 0; octets = [] };
  opened = refl;
}

fresh_first : IsFreshRequest (answering response_octets).incoming 2
fresh_first = fresh_next (answering response_octets).incoming 2 refl first_two

reply_kept : map.get probed.incoming.kept 2 ≡ Some worked_reply
reply_kept = put_there map.empty 2 2 worked_reply refl

near : ¬ IsLeftBehind probed.incoming 2
near behind =
    let less = first_three.only behind.later behind.in_effect in
    let far = behind.far in
    absurd (omega (arith, less, far))

repeats : (setup : Setup) (table : Database)
    → TakesMessage run_meaning setup probed table worked_request asked (effect.Repeated worked_reply) probed table
repeats setup table = record {
  reception = receiving.Repeat worked_reply;
  received = record {
    judgement = judged.Repeat (record { ref_ptr = (0, 0); now = worked_reply });
    number = (first_three.has 2 (omega arith), reply_kept);
    whole = refl;
  };
  done = (refl, record { association = refl; pairs = refl });
}

module _ {C : Type 0} (a b : C) where
  -- ---- the step

  -- after B answered it again; of what is sent, the response is stored once more
  abbrev pub answered_again : WorldState C
  answered_again = record (last a b) {
    stored = stored_of
        (sent_request ∷ sent_answer ∷ sent_auth ∷ sent_response response_octets ∷ sent_packet ∷ sent_probe ∷ sent_alive ∷ sent_alive ∷ [])
        (all_keyed a b response_octets) (both_children a b response_octets);
  }

  abbrev pub answers_again : Happening C
  answers_again = record { before = last a b; event = comes_to B worked_request 9; said = Repeat worked_reply; after = answered_again }

  retransmission_takes : SoundnessStays → NoSpiIsLost → TakesEvent (λ _. run_meaning) answers_again.event answers_again.before answers_again.said answers_again.after
  retransmission_takes stays lost = record {
    sound = last_other_is_sound a b stays lost;
    fresh = sealing 9 (omega arith);
    trace = (stepped_of 1 2 (effect.Repeated worked_reply)).trace;
    gateway = (last a b).b;
    traces = record {
      kept = refl;
      does = inl (record {
        stepped = stepped_of 1 2 (effect.Repeated worked_reply);
        steps = takes_alone (new_machine (config_at B)) all_protected (replicate 4 1) (fresh_of 9) asked_spelled refl refl (repeats _ _);
        output = refl;
        traced = refl;
      });
    };
    content = refl;
  }

  abbrev pub retransmission_steps : List (Happening C)
  retransmission_steps = replay_steps a b ++ answers_again ∷ []

  pub retransmission_run_is : SoundnessStays → NoSpiIsLost → IsWorldTrail (λ _. run_meaning) (new_ends a b) retransmission_steps answered_again
  retransmission_run_is stays lost =
      followed_by (λ _. run_meaning) (replay_steps a b) (answers_again ∷ []) (new_ends a b) (last a b) answered_again (replay_run_is a b stays lost)
      (refl, retransmission_takes stays lost, refl)

  -- ---- what is asked of both

  first_takes : TakesEffect 1 2 (passage_at B (is_there a b response_octets))
  first_takes = record {
    old = answering response_octets;
    new = probed;
    held = record { before = refl; after = refl };
    comes = record { before = fresh_first.not_in_effect; after = first_three.has 2 (omega arith) };
  }

  not_new_again : ¬ IsNew run_meaning (for_ike answers_again.event.input) probed 2
  not_new_again new = true≢false (sym (first_three.has 2 (omega arith)) ∙ new.fresh.not_in_effect)

  pub retransmission_is : SoundnessStays → NoSpiIsLost → IsRunWithRetransmission a b
  retransmission_is stays lost = record {
    exchanged = exchanged;
    happenings = retransmission_steps;
    last = answered_again;
    takes = refl;
    says = refl;
    trail = retransmission_run_is stays lost;
    first = passage_at B (is_there a b response_octets);
    first_there = refl;
    at_first = answering response_octets;
    at_first_held = refl;
    is_new = record { exchange = 37; opens = opens_so; fresh = fresh_first; admitted = refl };
    takes_effect = first_takes;
    answers = record { closed = None; said = refl };
    is_first = inl (first_takes, record { closed = None; said = refl });
    second = passage_at B answers_again;
    second_there = refl;
    later = probed;
    later_held = refl;
    opens = (37, opens_again);
    near = near;
    kept = reply_kept;
    not_new = not_new_again;
    memory = refl;
    only_says = record { said = refl; unchanged = refl };
  }
