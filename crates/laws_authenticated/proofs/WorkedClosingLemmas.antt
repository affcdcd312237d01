-- The run takes place in which a stranger is met and the IKE SA is closed by its peer. B's steps are those
-- of a gateway, and meet what is asked of the closed, and of what is left out.
use Rattle.std.proofs.Common.{◌≡◌, ◌∷◌, inl, ℕ, zero, suc, Bool, false, true, List, [], Some, ap, arith, refl, subst, sym}
use Rattle.std.specs.FinMap as map
use Rattle.std.specs.Prelude.{⊤, replicate}
use Rattle.std.proofs.lemmas.Option.{none-some}
use Rattle.sadb.specs.Database.{pair_at}
use Rattle.sadb.specs.declared.pair.Pair.{Pair}
use Rattle.association.specs.Phases.{keys_in}
use Rattle.association.specs.Receiving.{is_closed}
use Rattle.association.specs.declared.fault.MessageFault.TheVariants.{NotOpened}
use Rattle.association.specs.declared.phase.Association.{Association}
use Rattle.moments.specs.Held.{IsInTime}
use Rattle.suite.specs.declared.fresh.Fresh.{Fresh}
use Rattle.effects.specs.Lengths.{TellsLengths}
use Rattle.effects.specs.Taking.{Meaning}
use Rattle.effects.specs.declared.taking.Effect.TheVariants as effect
use Rattle.ike.specs.Machines.{new_machine}
use Rattle.ike.specs.Orders as orders
use Rattle.ike.specs.Outputs.{asking_step, stepped_of}
use Rattle.ike.specs.Steps as ike
use Rattle.ike.specs.declared.output.Stepped.{Stepped}
use Rattle.ike.specs.declared.output.Trace.{Trace}
use Rattle.gateway.specs.Carrying.{EachPairIsOfAnEstablished, IsEstablishedNow}
use Rattle.gateway.specs.Closing.{HasNothingLeft, IsOver}
use Rattle.gateway.specs.Histories.{IsTrail, Passage}
use Rattle.gateway.specs.Inputs.{Input}
use Rattle.gateway.specs.LeavingOut.{without, EachLeftOut, IsWithoutEffect}
use Rattle.gateway.specs.Outputs.{OutputView}
use Rattle.gateway.specs.States.{IsSoundState, State}
use Rattle.gateway.specs.Steps.{Traces}
use Rattle.gateway.specs.WorldHistories.{passage_at, passages_at, Happening, IsWorldTrail}
use Rattle.gateway.specs.Worlds.{gateway_at, if_at, with_gateway, Stored, TakesEvent, WorldState}
use Rattle.gateway.specs.declared.world.stored.End.{End}
use Rattle.gateway.specs.declared.world.stored.End.TheVariants.{A, B}
use Rattle.gateway.proofs.PartyLemmas.{some_is}
use Rattle.laws_two_ends.specs.WorkedRecords.{fresh_of, worked_record}
use Rattle.laws_two_ends.specs.WorkedRequests.{worked_reply, worked_request}
use Rattle.laws_two_ends.specs.WorkedRuns.{all_protected, config_at, new_ends, run_meaning, Exchanged}
use Rattle.laws_two_ends.proofs.AcceptingLemmas.{child_other_is_sound}
use Rattle.laws_two_ends.proofs.ArrivalLemmas.{takes_alone}
use Rattle.laws_two_ends.proofs.AskingLemmas.{probe_takes, reply_takes}
use Rattle.laws_two_ends.proofs.AuthLemmas.{auth_octets}
use Rattle.laws_two_ends.proofs.BeginningLemmas.{told_one_is_sound, told_other_is_sound}
use Rattle.laws_two_ends.proofs.ConcludingLemmas.{child_one_is_sound}
use Rattle.laws_two_ends.proofs.HeldLemmas.{answering_in_time, answering_table_is_sound, asking_in_time, asking_table_is_sound, later_table_is_sound}
use Rattle.laws_two_ends.proofs.InformationalLemmas.{nothing_ended, reply_by}
use Rattle.laws_two_ends.proofs.InitLemmas.{answer_octets, request_octets, request_read}
use Rattle.laws_two_ends.proofs.LastLemmas.{sound_delivered, sound_probing}
use Rattle.laws_two_ends.proofs.MapLemmas.{none_found}
use Rattle.laws_two_ends.proofs.NewEndLemmas.{can_be, sealing}
use Rattle.laws_two_ends.proofs.ResponseLemmas.{asked_spelled as auth_spelled, response_octets}
use Rattle.laws_two_ends.proofs.SoundnessLemmas.{sound_next, timely_alone, NoSpiIsLost, OneMessage, SoundnessStays}
use Rattle.laws_two_ends.proofs.Stages.{all_steps, asking_table, carried_octets, counted, delivered_world, later_table, probed, probing_world}
use Rattle.laws_two_ends.proofs.StateLemmas.{in_time_if}
use Rattle.laws_two_ends.proofs.TableLemmas.{lone_in}
use Rattle.laws_two_ends.proofs.WorkedRequestLemmas.{answer_spelled, asked_spelled as probe_spelled}
use Rattle.laws_two_ends.proofs.WorkedRunLemmas.{followed_by, run_is}
use Rattle.laws_authenticated.specs.WorkedClosings.{the_fifth, CanLeaveAStrangerOut, IsClosedByItsPeer}
use Rattle.laws_authenticated.specs.WorkedDeletions.{IsRunWithDeletion}
use Rattle.laws_authenticated.specs.WorkedStrangers.{IsMetByAStranger}
use Rattle.laws_authenticated.proofs.WorkedDeletionLemmas.{asked_spelled, asks_to_delete, counted_waits_for_none, counts_for_it, deletion_said, delivering, payload_read, request_takes}
use Rattle.laws_authenticated.proofs.WorkedDeletionStages.{closes, deletes, deleting, deletion_steps, ended, ended_world, ending_world, last, meets, sealed_deletion}
use Rattle.laws_authenticated.proofs.WorkedStrangerLemmas.{clear_spelled, clear_takes, is_strange, opens_under_none}

-- ---- the steps of a world at one end

-- a step in front of a trail: one of this end, or none
front_trail : {C : Type 0} (meaning_of : C → Meaning) (end place : End) (input : Input) (s : OutputView) (before after : WorldState C) (gateway : State C) (trace : Trace) (stored : Stored)
    (ps : List (Passage C)) (new : State C) → IsSoundState (gateway_at place before)
    → Traces (meaning_of (gateway_at place before).caller) input (gateway_at place before) s trace gateway → after ≡ with_gateway place gateway stored before
    → IsTrail meaning_of (gateway_at end after) ps new
    → IsTrail meaning_of (gateway_at end before) (if_at end place (record { before = gateway_at end before; given = input; said = s; after = gateway_at end after }) ps) new
front_trail {C} meaning_of A A input s before after gateway trace stored ps new sound traces same rest =
    let own = subst (λ (g : State C). Traces (meaning_of before.a.caller) input before.a s trace g) (sym (ap (λ (w : WorldState C). w.a) same)) traces in
    (refl, record { sound = sound; steps = record { trace = trace; traces = own } }, rest)
front_trail {C} meaning_of B B input s before after gateway trace stored ps new sound traces same rest =
    let own = subst (λ (g : State C). Traces (meaning_of before.b.caller) input before.b s trace g) (sym (ap (λ (w : WorldState C). w.b) same)) traces in
    (refl, record { sound = sound; steps = record { trace = trace; traces = own } }, rest)
front_trail {C} meaning_of A B input s before after gateway trace stored ps new sound traces same rest = subst (λ (w : WorldState C). IsTrail meaning_of w.a ps new) same rest
front_trail {C} meaning_of B A input s before after gateway trace stored ps new sound traces same rest = subst (λ (w : WorldState C). IsTrail meaning_of w.b ps new) same rest

trail_at : {C : Type 0} (meaning_of : C → Meaning) (end : End) (hs : List (Happening C)) (old new : WorldState C) → IsWorldTrail meaning_of old hs new
    → IsTrail meaning_of (gateway_at end old) (passages_at end hs) (gateway_at end new)
trail_at {C} meaning_of end [] old new trail = ap (λ (w : WorldState C). gateway_at end w) trail
trail_at {C} meaning_of end (h ∷ hs) old new trail =
    subst (λ (w : WorldState C). IsTrail meaning_of (gateway_at end w) (passages_at end (h ∷ hs)) (gateway_at end new)) trail.0
    (front_trail meaning_of end h.event.end h.event.input h.said h.before h.after trail.1.gateway trail.1.trace _ (passages_at end hs) (gateway_at end new) trail.1.sound trail.1.traces trail.1.content
    (trail_at meaning_of end hs h.after new trail.2))

-- ---- what holds of each step that is left out

abbrev AllOut : {C : Type 0} → (Passage C → Type 0) → List Bool → List (Passage C) → Type 0
AllOut {C} P [] ps = ⊤
AllOut {C} P (m ∷ ms) [] = ⊤
AllOut {C} P (true ∷ ms) (p ∷ ps) = P p × AllOut P ms ps
AllOut {C} P (false ∷ ms) (p ∷ ps) = AllOut P ms ps

each_out : {C : Type 0} (P : Passage C → Type 0) (marks : List Bool) (ps : List (Passage C)) → AllOut P marks ps → EachLeftOut P marks ps
each_out {C} P [] ps all place p marked there = absurd (none-some true marked)
each_out {C} P (m ∷ ms) [] all place p marked there = absurd (none-some p there)
each_out {C} P (true ∷ ms) (q ∷ qs) all zero p marked there = subst P (some_is q p there) all.0
each_out {C} P (false ∷ ms) (q ∷ qs) all zero p marked there = absurd cc
each_out {C} P (true ∷ ms) (q ∷ qs) all (suc place) p marked there = each_out P ms qs all.1 place p marked there
each_out {C} P (false ∷ ms) (q ∷ qs) all (suc place) p marked there = each_out P ms qs all place p marked there

-- ---- the steps of the machine

abbrev meets_step : Stepped
meets_step = stepped_of 1 3 (effect.Refused NotOpened)

abbrev deletes_step : Stepped
deletes_step = asking_step 1 3 sealed_deletion

abbrev closes_step : Stepped
closes_step = stepped_of 1 3 (effect.Replied deletion_said)

counted_in_time : IsInTime 0 counted
counted_in_time = in_time_if counted refl (omega arith) (λ n r is. absurd (none_found counted.outgoing.outstanding counted_waits_for_none n r is))

probed_in_time : IsInTime 0 probed
probed_in_time = in_time_if probed refl (omega arith) (λ n r is. absurd (none_found map.empty refl n r is))

pub nothing_told : (fresh : Fresh) → TellsLengths run_meaning.body_of fresh.seal
nothing_told fresh = record { told = λ keys whole. record { told = λ head other plain one two octets. refl } }

-- the datagrams of the run that is gone on with
abbrev exchanged : Exchanged
exchanged = record {
  init_request = request_octets;
  init_response = answer_octets;
  auth_request = auth_octets;
  auth_response = response_octets;
  packet = carried_octets;
  probe = worked_request;
  probe_response = worked_reply;
}

module _ {C : Type 0} (a b : C) (stays : SoundnessStays) (lost : NoSpiIsLost) where
  -- ---- both ends where the run that is gone on with ends

  asking_end_is_sound : IsSoundState (last a b).a
  asking_end_is_sound =
      let child = child_one_is_sound a b stays lost (asking_table_is_sound 0) asking_in_time (told_one_is_sound stays lost a b) in
      sound_next stays lost run_meaning (ike.Message (replicate 4 2) worked_reply (fresh_of 8)) (stepped_of 1 2 (effect.Counted nothing_ended))
      (probing_world a b response_octets).a (last a b).a (sound_probing a b response_octets stays lost child)
      (takes_alone (new_machine (config_at A)) all_protected (replicate 4 2) (fresh_of 8) answer_spelled refl refl (reply_takes _ _))
      (asking_table_is_sound 1) (timely_alone (config_at A) counted counted_in_time)

  answering_end_is_sound : IsSoundState (last a b).b
  answering_end_is_sound =
      let child = child_other_is_sound a b stays lost answering_table_is_sound (answering_in_time response_octets) (told_other_is_sound stays lost a b) in
      sound_next stays lost run_meaning (ike.Message (replicate 4 1) worked_request (fresh_of 7)) (stepped_of 1 2 (effect.Replied (reply_by worked_reply)))
      (delivered_world a b response_octets).b (last a b).b (sound_delivered a b response_octets child)
      (takes_alone (new_machine (config_at B)) all_protected (replicate 4 1) (fresh_of 7) probe_spelled refl refl (probe_takes response_octets _ _))
      later_table_is_sound (timely_alone (config_at B) probed probed_in_time)

  -- ---- the steps

  meets_so : Traces run_meaning (meets a b).event.input (last a b).b (meets a b).said meets_step.trace (last a b).b
  meets_so = record {
    kept = refl;
    does = inl (record {
      stepped = meets_step;
      steps = takes_alone (new_machine (config_at B)) all_protected (replicate 4 1) (fresh_of 9) clear_spelled refl refl (clear_takes _ _);
      output = refl;
      traced = refl;
    });
  }

  meets_it : TakesEvent (λ _. run_meaning) (meets a b).event (meets a b).before (meets a b).said (meets a b).after
  meets_it = record {
    sound = answering_end_is_sound;
    fresh = sealing 9 (omega arith);
    trace = meets_step.trace;
    gateway = (last a b).b;
    traces = meets_so;
    content = refl;
  }

  deletes_so : ike.Steps run_meaning all_protected (ike.Order (orders.DeleteIke 1) (fresh_of 10)) (last a b).a.machine (asking_table 1)
      deletes_step (ending_world a b).a.machine (asking_table 1)
  deletes_so = (refl, asks_to_delete (config_at A) all_protected (fresh_of 10) (asking_table 1))

  deletes_it : TakesEvent (λ _. run_meaning) (deletes a b).event (deletes a b).before (deletes a b).said (deletes a b).after
  deletes_it = record {
    sound = asking_end_is_sound;
    fresh = sealing 10 (omega arith);
    trace = deletes_step.trace;
    gateway = (ending_world a b).a;
    traces = record { kept = refl; does = inl (record { stepped = deletes_step; steps = deletes_so; output = refl; traced = refl }) };
    content = refl;
  }

  closes_it : TakesEvent (λ _. run_meaning) (closes a b).event (closes a b).before (closes a b).said (closes a b).after
  closes_it = record {
    sound = answering_end_is_sound;
    fresh = sealing 11 (omega arith);
    trace = closes_step.trace;
    gateway = (ended_world a b).b;
    traces = record {
      kept = refl;
      does = inl (record {
        stepped = closes_step;
        steps = takes_alone (new_machine (config_at B)) all_protected (replicate 4 1) (fresh_of 11) asked_spelled refl refl (request_takes _ refl);
        output = refl;
        traced = refl;
      });
    };
    content = refl;
  }

  deletion_run_is : IsWorldTrail (λ _. run_meaning) (new_ends a b) (deletion_steps a b) (ended_world a b)
  deletion_run_is =
      followed_by (λ _. run_meaning) (all_steps a b response_octets) (meets a b ∷ deletes a b ∷ closes a b ∷ []) (new_ends a b) (last a b) (ended_world a b)
      (run_is a b stays lost) (refl, meets_it, (refl, deletes_it, (refl, closes_it, refl)))

  abbrev run : IsRunWithDeletion a b
  run = record {
    exchanged = exchanged;
    deleting = deleting;
    happenings = deletion_steps a b;
    last = ended_world a b;
    takes = refl;
    says = refl;
    trail = deletion_run_is;
    can_be = can_be;
  }

  -- ---- the stranger

  pub met_by_a_stranger : OneMessage → IsMetByAStranger a b
  met_by_a_stranger one = record {
    run = run;
    meeting = passage_at B (meets a b);
    there = refl;
    is = record { sound = answering_end_is_sound; steps = record { trace = meets_step.trace; traces = meets_so } };
    comes = refl;
    established = record { association = probed; there = refl; established = refl };
    spelled = clear_spelled;
    meant = refl;
    unopened = λ plain_of x. opens_under_none plain_of x.role (keys_in x.phase);
    strange = is_strange one run_meaning (last a b).b.machine.held;
    as_it_was = record { content = refl; table = record { content = refl; room = omega arith } };
    counted = counts_for_it;
  }

  -- ---- the IKE SA is closed

  abbrev passages : List (Passage C)
  passages = passages_at B (deletion_steps a b)

  trail_is : IsTrail (λ _. run_meaning) (gateway_at B (new_ends a b)) passages (gateway_at B (ended_world a b))
  trail_is = trail_at (λ _. run_meaning) B (deletion_steps a b) (new_ends a b) (ended_world a b) deletion_run_is

  no_pair_yet : EachPairIsOfAnEstablished (gateway_at B (new_ends a b))
  no_pair_yet = record { each = λ child pair there. absurd (none_found map.empty refl child pair there) }

  -- the one pair names the one IKE SA
  named : (child : ℕ) (pair : Pair) → pair_at later_table.pairs child ≡ Some pair → pair.ike ≡ 1
  named child pair there = ap (λ (p : Pair). p.ike) ((lone_in delivering).only child pair there).content

  established_now : IsEstablishedNow (last a b).b 1
  established_now = record { keys = worked_record; established = record { association = probed; there = refl; established = refl } }

  all_before : EachPairIsOfAnEstablished (last a b).b
  all_before = record { each = λ child pair there. subst (λ (serial : ℕ). IsEstablishedNow (last a b).b serial) (sym (named child pair there)) established_now }

  is_over : IsOver (ended_world a b).b 1
  is_over = record { closed = λ x there. sym (ap (λ (y : Association). is_closed y.phase) (some_is ended x there)) }

  nothing_left : HasNothingLeft (ended_world a b).b 1
  nothing_left = record { over = is_over; none = λ child pair there. absurd (none_found map.empty refl child pair there) }

  pub closed_by_its_peer : IsClosedByItsPeer a b
  closed_by_its_peer = record {
    run = run;
    trail = trail_is;
    all = no_pair_yet;
    over = record {
      earlier = 5;
      before = omega arith;
      first = passage_at B (closes a b);
      first_there = refl;
      association = probed;
      held = refl;
      passage = passage_at B (closes a b);
      there = refl;
      over = is_over;
    };
    closing = passage_at B (closes a b);
    there = refl;
    comes = refl;
    spelled = asked_spelled;
    inside = payload_read;
    counted = counts_for_it;
    all_before = all_before;
    pair = delivering;
    stood = (lone_in delivering).there;
    its = refl;
    answers = refl;
    left = nothing_left;
  }

  -- ---- the stranger is left out

  -- where that datagram came, B was as it is before the next
  rest_is : IsTrail (λ _. run_meaning) (gateway_at B (new_ends a b)) (without the_fifth passages) (gateway_at B (ended_world a b))
  rest_is =
      let t = trail_is in (
        refl,
        t.1,
        (refl, t.2.1, (refl, t.2.2.1, (refl, t.2.2.2.1, (refl, t.2.2.2.2.2.1, refl)))),
      )

  pub stranger_left_out : OneMessage → CanLeaveAStrangerOut a b
  stranger_left_out one = record {
    run = run;
    alike = record {
      first = trail_is;
      second = rest_is;
      inputs = refl;
      each = (
        (request_read.octets, nothing_told (fresh_of 2)),
        ((auth_spelled.octets, nothing_told (fresh_of 4)), (tt, ((probe_spelled.octets, nothing_told (fresh_of 7)), ((asked_spelled.octets, nothing_told (fresh_of 11)), tt)))),
      );
      memory = (refl, (refl, (refl, (refl, (refl, tt)))));
      memory_too = (refl, (refl, (refl, (refl, (refl, tt)))));
    };
    out = each_out (IsWithoutEffect (λ _. run_meaning)) the_fifth passages (inl (is_strange one run_meaning (last a b).b.machine.held), tt);
    nothing_out = λ place p marked there. absurd (none-some true marked);
  }
