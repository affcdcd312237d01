-- A takes the response to IKE_AUTH: B is who it is to be, so the IKE SA is established, and its first
-- Child SA is made (RFC 7296 sections 1.2 and 2.15).
use Rattle.std.proofs.Common.{None, ◌≡◌, ◌∷◌, inl, ℕ, zero, suc, Bool, false, true, Option, Some, [], ap, arith, refl, subst, sym}
use Rattle.std.specs.Prelude.{replicate, slice_get}
use Rattle.std.specs.FinMap as map
use Rattle.std.specs.FinSet as set
use Rattle.std.specs.Option.{option_to_list}
use Rattle.base.specs.Octets.{Octets}
use Rattle.base.specs.declared.selector.Selector.{Selector}
use Rattle.suite.specs.Offers.{count_of_kind, AcceptsAnswer}
use Rattle.suite.specs.declared.choice.Wanted.TheVariants.{Esp}
use Rattle.exchange.specs.Chains.{error_of}
use Rattle.exchange.specs.declared.headers.Role.TheVariants.{Initiator}
use Rattle.exchange.specs.declared.sealed.Plain.{Plain}
use Rattle.policy.specs.Narrowing.{AnswersOffer, LiesInOffer}
use Rattle.replay.specs.Window.{unused_window}
use Rattle.sadb.specs.Database.{pair_at, Database, Installs, IsSoundTable}
use Rattle.sadb.specs.declared.pair.Pair.{Pair}
use Rattle.association.specs.AskedChildren.{asked_of}
use Rattle.association.specs.Receiving as receiving
use Rattle.association.specs.Receiving.{reception_by}
use Rattle.association.specs.declared.phase.AuthSent.{AuthSent}
use Rattle.association.specs.declared.phase.Request.{Request}
use Rattle.children.specs.Accepting.{AreAcceptedTerms}
use Rattle.children.specs.Pairs.{new_pair}
use Rattle.deliveries.specs.Worked.{any_traffic}
use Rattle.setup.specs.Configs.{first_setting, Setup}
use Rattle.initial.specs.Ending.{ProvesPeer}
use Rattle.initial.specs.declared.concluding.Outcome.TheVariants as outcome
use Rattle.association.specs.declared.outcome.Ended.{Ended}
use Rattle.association.specs.declared.outcome.Fate.TheVariants as fate
use Rattle.moments.specs.Held.{IsInTime}
use Rattle.effects.specs.Taking.{TakesMessage}
use Rattle.effects.specs.declared.taking.Effect.TheVariants as effect
use Rattle.ike.specs.Machines.{new_machine, setup_at}
use Rattle.ike.specs.Outputs.{stepped_of}
use Rattle.ike.specs.Steps as ike
use Rattle.ike.specs.declared.output.MadeChild.{MadeChild}
use Rattle.ike.specs.declared.output.Stepped.{Stepped}
use Rattle.gateway.specs.States.{IsSoundState}
use Rattle.gateway.specs.WorldHistories.{IsWorldTrail}
use Rattle.gateway.specs.WorldParties.{HasSent}
use Rattle.gateway.specs.WorldPromises.{ComesUnder}
use Rattle.gateway.specs.Worlds.{child_with, TakesEvent}
use Rattle.gateway.specs.declared.world.stored.Datagram.{Datagram}
use Rattle.gateway.specs.declared.world.stored.End.TheVariants.{A, B}
use Rattle.gateway.proofs.PartyLemmas.{at_head, further_on, some_is}
use Rattle.esp.proofs.NumberLemmas.{contains-insert_nat}
use Rattle.laws_two_ends.specs.WorkedRecords.{fresh_of, worked_record}
use Rattle.laws_two_ends.specs.WorkedMessages.{proposal_of}
use Rattle.laws_two_ends.proofs.ArrivalLemmas.{alone, takes_alone, was_sent}
use Rattle.laws_two_ends.proofs.MapLemmas.{put_there}
use Rattle.laws_two_ends.specs.WorkedRuns.{all_protected, config_at, run_meaning, spi_at}
use Rattle.laws_two_ends.proofs.AcceptingLemmas.{acceptable, accepts_is, all_3, any_selector, chosen, chosen_is, some_point}
use Rattle.laws_two_ends.proofs.AuthLemmas.{plain_octets, worked_child}
use Rattle.laws_two_ends.proofs.InitLemmas.{answer_octets}
use Rattle.laws_two_ends.proofs.NewEndLemmas.{sealing}
use Rattle.laws_two_ends.proofs.ResponseLemmas.{answer_spelled, answered, response_octets, response_payloads, response_read}
use Rattle.laws_two_ends.proofs.SoundnessLemmas.{sound_next, timely_alone, NoSpiIsLost, OneMessage, SoundnessStays}
use Rattle.laws_two_ends.proofs.Stages.{accepted_world, accepts, agreed_terms, all_keyed, answered_child, answering, answering_table, asking, asking_table, child_world, concludes, end_with, pair_of, reserved_table, second_request, sent_answer, sent_auth, sent_request, sent_response, stored_of, telling, told_world, two_answered, world_of}

-- ---- the Child SA

abbrev before_table : Database
before_table = reserved_table (spi_at A)

answer_accepted : AcceptsAnswer (Esp false) (proposal_of 2 ∷ []) chosen
answer_accepted = record {
  proposal = proposal_of 2;
  alone = refl;
  answer = record {
    acceptable = acceptable 2 (omega arith);
    number = refl;
    one_each = all_3 (λ (kind : ℕ). count_of_kind (proposal_of 2).transforms kind ≡ 1) 1 3 5 refl refl refl;
  };
  choice = chosen_is 2 (omega arith);
}

inside : (place : ℕ) (s : Selector) → slice_get any_traffic place ≡ Some s → LiesInOffer (any_selector ∷ []) s
inside zero s there =
    subst (λ (x : Selector). LiesInOffer (any_selector ∷ []) x) (some_is any_selector s there)
    (record { some = some_point; place = 0; selector = any_selector; there = refl; inside = λ p held. held })
inside (suc place) s there = absurd cc

pub all_inside : AnswersOffer any_traffic (any_selector ∷ [])
all_inside = record { some = omega arith; each = inside }

accepted_terms : AreAcceptedTerms (asked_of worked_child) response_payloads agreed_terms
accepted_terms = record {
  proposal = proposal_of 2;
  chosen = chosen;
  sa = refl;
  accepted = answer_accepted;
  own = refl;
  peer = refl;
  extension = refl;
  ts_i = refl;
  ts_r = refl;
  inside_i = all_inside;
  inside_r = all_inside;
}

abbrev made : Pair
made = new_pair Initiator (first_setting (config_at A) 1 worked_record) agreed_terms

installs : Installs before_table (spi_at A) made 1 (asking_table 0)
installs = record {
  reserved = contains-insert_nat set.empty (spi_at A) (spi_at A);
  its_own = refl;
  in_order = refl;
  content = refl;
  room = omega arith;
  no_more = omega arith;
}

-- ---- the response is matched

-- what the step has to hand
abbrev setup : Setup
setup = setup_at (new_machine (config_at A)) all_protected (fresh_of 5)

abbrev waits : AuthSent
waits = record { keys = worked_record; first = answer_octets; child = worked_child }

abbrev response_plain : Plain
response_plain = record { first = 36; octets = plain_octets 2 }

proves : ProvesPeer run_meaning.accepts setup 1 waits response_payloads (Some made) 1
proves = record { proved = refl; child = record { terms = agreed_terms; due = accepted_terms; made = refl }; told = refl }

request_there : map.get telling.outgoing.outstanding 1 ≡ Some second_request
request_there = put_there map.empty 1 1 second_request refl

abbrev child_made : Ended
child_made = record { fate = fate.Made 1; declined = None }

response_takes : TakesMessage run_meaning setup telling before_table response_octets answered (effect.Counted child_made) asking (asking_table 0)
response_takes = record {
  reception = receiving.Answers response_plain;
  received = sym (ap (λ (o : Option Request). reception_by telling.phase 35 o (Some response_plain)) request_there);
  done = record {
    sent = waits;
    was = refl;
    verdict = outcome.Establishes (Some made) 1;
    judged = record { payloads = Some response_payloads; read = response_read; due = proves };
    request = second_request;
    outgoing = two_answered;
    counted = record { there = request_there; content = refl };
    declined = record { error = error_of (Some response_payloads); told = record { payloads = Some response_payloads; read = response_read; told = refl }; due = refl };
    concluded = record { stands = refl; added = installs; content = refl };
  };
}

-- ---- the step

abbrev stepped : Stepped
stepped = stepped_of 1 1 (effect.Counted child_made)

steps : ike.Steps run_meaning all_protected (ike.Message (replicate 4 2) response_octets (fresh_of 5)) (alone (new_machine (config_at A)) telling) before_table stepped
    (alone (new_machine (config_at A)) asking) (asking_table 0)
steps = takes_alone (new_machine (config_at A)) all_protected (replicate 4 2) (fresh_of 5) answer_spelled refl refl response_takes

abbrev pair : Pair
pair = pair_of Initiator 0 (unused_window 2)

abbrev made_child : MadeChild
made_child = record { serial = 1; ike = 1; number = 1; asked = true }

pair_there : pair_at (asking_table 0).pairs 1 ≡ Some pair
pair_there = put_there map.empty 1 1 pair refl

module _ {C : Type 0} (a b : C) where
  pub concludes_is : IsSoundState (accepted_world a b response_octets).a
      → TakesEvent (λ _. run_meaning) (concludes a b response_octets).event (concludes a b response_octets).before (concludes a b response_octets).said
      (concludes a b response_octets).after
  concludes_is sound = record {
    sound = sound;
    fresh = sealing 5 (omega arith);
    trace = stepped.trace;
    gateway = end_with A a asking (asking_table 0);
    traces = record { kept = refl; does = inl (record { stepped = stepped; steps = steps; output = refl; traced = refl }) };
    content = ap (λ (o : Option Pair).
        world_of a b (end_with A a asking (asking_table 0)) (end_with B b (answering response_octets) answering_table)
        (stored_of (sent_request ∷ sent_answer ∷ sent_auth ∷ sent_response response_octets ∷ []) (all_keyed a b response_octets)
        (answered_child ∷ option_to_list (child_with A made_child (Some worked_record) o)))) (sym pair_there);
  }

  -- A is sound then
  pub child_one_is_sound : SoundnessStays → NoSpiIsLost → IsSoundTable (asking_table 0) → IsInTime 0 asking → IsSoundState (told_world a b).a
      → IsSoundState (child_world a b response_octets).a
  child_one_is_sound stays held table timely sound =
      sound_next stays held run_meaning (ike.Message (replicate 4 2) response_octets (fresh_of 5)) stepped (told_world a b).a (child_world a b response_octets).a
      sound steps table (timely_alone (config_at A) asking timely)

  -- both steps in a row
  pub child_steps_are : IsSoundState (told_world a b).a → IsSoundState (told_world a b).b
      → IsWorldTrail (λ _. run_meaning) (told_world a b) (accepts a b response_octets ∷ concludes a b response_octets ∷ []) (child_world a b response_octets)
  child_steps_are one other = (refl, accepts_is a b other, (refl, concludes_is one, refl))

-- ---- the response had been sent

module _ {C : Type 0} (a b : C) (one_message : OneMessage) where
  pub auth_response_was_sent : (response : Bool) (number : ℕ) (octets : Octets)
      → ComesUnder (λ _. run_meaning) worked_record response number octets (concludes a b response_octets)
      → HasSent B worked_record response number octets (accepted_world a b response_octets).stored
  auth_response_was_sent =
      let sent : Datagram = sent_response response_octets in
      was_sent one_message (λ _. run_meaning) worked_record (concludes a b response_octets) answered response_octets answer_spelled (λ octets same. same)
      B (accepted_world a b response_octets).stored
      (further_on sent_request (sent_answer ∷ sent_auth ∷ sent ∷ []) sent
      (further_on sent_answer (sent_auth ∷ sent ∷ []) sent (further_on sent_auth (sent ∷ []) sent (at_head sent []))))
