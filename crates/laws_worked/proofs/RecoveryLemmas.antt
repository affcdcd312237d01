-- In the run that begins with two new gateways a second probe is lost, is retransmitted and is answered.
use Rattle.std.proofs.Common.{◌≡◌, ◌∷◌, inl, [], None, ap, arith, refl, subst, sym, ◌∙◌}
use Rattle.std.specs.FinMap as numbers
use Rattle.std.specs.Prelude.{replicate}
use Rattle.sadb.specs.Database.{Database, IsSoundTable}
use Rattle.association.specs.declared.phase.Association.{Association}
use Rattle.association.specs.declared.phase.Request.{Request}
use Rattle.moments.specs.declared.ticking.Ticked.{Ticked}
use Rattle.effects.specs.declared.taking.Effect.TheVariants as effect
use Rattle.ike.specs.LawsOfTimes.{MachinesStayTimely, WhatIsDueComes}
use Rattle.ike.specs.Machines.{new_machine, Machine}
use Rattle.ike.specs.Moments.{WaitsAt}
use Rattle.ike.specs.Orders as orders
use Rattle.ike.specs.Outputs.{asking_step, plain_step, stepped_of}
use Rattle.ike.specs.Steps as ike
use Rattle.ike.specs.declared.output.IkeOutput.TheVariants as ike_output
use Rattle.ike.specs.declared.output.Stepped.{Stepped}
use Rattle.gateway.specs.Moments.{Brings}
use Rattle.gateway.specs.Outputs.{Ticked as Told}
use Rattle.gateway.specs.Requests.{TakesEffect}
use Rattle.gateway.specs.States.{IsSoundState, State}
use Rattle.laws_two_ends.specs.WorkedRequests.{worked_reply}
use Rattle.gateway.specs.WorldHistories.{passage_at, IsWorldTrail}
use Rattle.gateway.specs.Worlds.{TakesEvent}
use Rattle.gateway.specs.declared.world.stored.End.TheVariants.{A, B}
use Rattle.gateway.proofs.PartyLemmas.{some_is}
use Rattle.laws_two_ends.proofs.WorkedRequestLemmas.{answer_spelled as first_answer_spelled}
use Rattle.laws_two_ends.specs.WorkedMessages.{alive_octets, probe_octets}
use Rattle.laws_two_ends.specs.WorkedRecords.{fresh_of}
use Rattle.laws_two_ends.specs.WorkedRuns.{all_protected, config_at, new_ends, run_meaning}
use Rattle.laws_two_ends.proofs.ArrivalLemmas.{takes_alone}
use Rattle.laws_two_ends.proofs.InformationalLemmas.{nothing_ended, reply_by}
use Rattle.laws_worked.specs.Recoveries.{sent_again, IsRunWithRecovery}
use Rattle.laws_two_ends.proofs.AskingLemmas.{reply_takes}
use Rattle.laws_two_ends.proofs.BeginningLemmas.{told_one_is_sound}
use Rattle.laws_two_ends.proofs.ConcludingLemmas.{child_one_is_sound}
use Rattle.laws_two_ends.proofs.HeldLemmas.{asking_in_time, asking_table_is_sound}
use Rattle.laws_two_ends.proofs.LastLemmas.{sound_probing}
use Rattle.laws_two_ends.proofs.NewEndLemmas.{sealing}
use Rattle.laws_worked.proofs.RecoveryMessageLemmas.{all_pass, answer_spelled, asked_spelled, asks_that, fresh_three, in_effect, it_waits, none_waits, none_waits_then, opens, request_takes, response_takes}
use Rattle.laws_worked.proofs.RecoveryStages.{again, again_request, answered_twice, asked_world, asks_again, counted_twice, goes_again, matched_world, matches, recovery_steps, replied_world, replies, second_request, ticked_world, waiting_by}
use Rattle.laws_worked.proofs.RetransmissionLemmas.{answered_again, retransmission_run_is, retransmission_steps}
use Rattle.laws_two_ends.proofs.ResponseLemmas.{response_octets}
use Rattle.laws_worked.proofs.ReplayRunLemmas.{exchanged, last_other_is_sound}
use Rattle.laws_two_ends.proofs.SoundnessLemmas.{NoSpiIsLost, SoundnessStays}
use Rattle.laws_two_ends.proofs.Stages.{asking_table, counted, probed, probing_world}
use Rattle.laws_two_ends.proofs.WorkedRunLemmas.{followed_by}

-- the laws by which a gateway stays sound over a step of the machine of IKE, and what a time brings
pub record SoundLaws : Type 0 where
  pub stays : SoundnessStays
  pub lost : NoSpiIsLost
  pub timely : MachinesStayTimely
  pub comes : WhatIsDueComes

-- it does, over one that leaves the table as it is
pub stays_sound : {C : Type 0} → SoundLaws → (given : ike.InputView) (stepped : Stepped) (old new : State C) → IsSoundState old → new.table ≡ old.table
    → ike.Steps run_meaning old.entries given old.machine old.table stepped new.machine new.table → IsSoundState new
stays_sound {C} laws given stepped old new sound same steps = record {
  machine = laws.stays run_meaning old.entries given old.machine old.table stepped new.machine new.table sound.table sound.machine steps;
  table = subst (λ (d : Database). IsSoundTable d) (sym same) sound.table;
  timely = laws.timely run_meaning old.entries given old.machine old.table stepped new.machine new.table sound.timely steps;
  reservations = laws.lost run_meaning old.entries given old.machine old.table stepped new.machine new.table sound.machine steps sound.reservations;
}

-- ---- the steps of the machine

abbrev asks_step : Stepped
asks_step = asking_step 1 3 probe_octets

abbrev ticks_step : Stepped
ticks_step = plain_step (ike_output.Ticked (record { requests = sent_again again ∷ []; closed = [] }))

abbrev replies_step : Stepped
replies_step = stepped_of 1 3 (effect.Replied (reply_by alive_octets))

abbrev counts_step : Stepped
counts_step = stepped_of 1 3 (effect.Counted nothing_ended)

-- A's machine a second later
abbrev pub later_machine : Machine
later_machine = record (new_machine (config_at A)) { moment = 1000 }

module _ {C : Type 0} (a b : C) where
  asks_so : ike.Steps run_meaning all_protected (ike.Order (orders.Probe 1) (fresh_of 10)) (answered_again a b).a.machine (asking_table 1)
      asks_step (asked_world a b).a.machine (asking_table 1)
  asks_so = (refl, asks_that (config_at A) all_protected (fresh_of 10) (asking_table 1))

  ticks_so : ike.Steps run_meaning all_protected (ike.Tick 1000) (asked_world a b).a.machine (asking_table 1)
      ticks_step (ticked_world a b).a.machine (asking_table 1)
  ticks_so = record {
    takes = record {
      ticked = record { requests = sent_again again ∷ []; closed = [] };
      ticks = all_pass (asking_table 1);
      said = refl;
      next = refl;
    };
    content = refl;
  }

  module _ (laws : SoundLaws) where
    -- A, where the first probe was answered, where it asked again, and where it retransmitted the request
    sound_first : IsSoundState (answered_again a b).a
    sound_first =
        let child = child_one_is_sound a b laws.stays laws.lost (asking_table_is_sound 0) asking_in_time (told_one_is_sound laws.stays laws.lost a b) in
        stays_sound laws (ike.Message (replicate 4 2) worked_reply (fresh_of 8)) (stepped_of 1 2 (effect.Counted nothing_ended))
        (probing_world a b response_octets).a (answered_again a b).a (sound_probing a b response_octets laws.stays laws.lost child) refl
        (takes_alone (new_machine (config_at A)) all_protected (replicate 4 2) (fresh_of 8) first_answer_spelled refl refl (reply_takes _ _))

    pub sound_asked : IsSoundState (asked_world a b).a
    sound_asked = stays_sound laws (ike.Order (orders.Probe 1) (fresh_of 10)) asks_step (answered_again a b).a (asked_world a b).a sound_first refl asks_so

    pub sound_ticked : IsSoundState (ticked_world a b).a
    sound_ticked = stays_sound laws (ike.Tick 1000) ticks_step (asked_world a b).a (ticked_world a b).a sound_asked refl ticks_so

    pub asks_it : TakesEvent (λ _. run_meaning) (asks_again a b).event (asks_again a b).before (asks_again a b).said (asks_again a b).after
    asks_it = record {
      sound = sound_first;
      fresh = sealing 10 (omega arith);
      trace = asks_step.trace;
      gateway = (asked_world a b).a;
      traces = record { kept = refl; does = inl (record { stepped = asks_step; steps = asks_so; output = refl; traced = refl }) };
      content = refl;
    }

    pub ticks_it : TakesEvent (λ _. run_meaning) (goes_again a b).event (goes_again a b).before (goes_again a b).said (goes_again a b).after
    ticks_it = record {
      sound = sound_asked;
      fresh = tt;
      trace = ticks_step.trace;
      gateway = (ticked_world a b).a;
      traces = record { kept = refl; does = inl (record { stepped = ticks_step; steps = ticks_so; output = refl; traced = refl }) };
      content = refl;
    }

    pub replies_it : TakesEvent (λ _. run_meaning) (replies a b).event (replies a b).before (replies a b).said (replies a b).after
    replies_it = record {
      sound = last_other_is_sound a b laws.stays laws.lost;
      fresh = sealing 11 (omega arith);
      trace = replies_step.trace;
      gateway = (replied_world a b).b;
      traces = record {
        kept = refl;
        does = inl (record {
          stepped = replies_step;
          steps = takes_alone (new_machine (config_at B)) all_protected (replicate 4 1) (fresh_of 11) asked_spelled refl refl (request_takes _ _);
          output = refl;
          traced = refl;
        });
      };
      content = refl;
    }

    matches_it : TakesEvent (λ _. run_meaning) (matches a b).event (matches a b).before (matches a b).said (matches a b).after
    matches_it = record {
      sound = sound_ticked;
      fresh = sealing 12 (omega arith);
      trace = counts_step.trace;
      gateway = (matched_world a b).a;
      traces = record {
        kept = refl;
        does = inl (record {
          stepped = counts_step;
          steps = takes_alone later_machine all_protected (replicate 4 2) (fresh_of 12) answer_spelled refl refl (response_takes _ _);
          output = refl;
          traced = refl;
        });
      };
      content = refl;
    }

    -- both ends afterwards
    pub sound_replied : IsSoundState (matched_world a b).b
    sound_replied =
        stays_sound laws (ike.Message (replicate 4 1) probe_octets (fresh_of 11)) replies_step (ticked_world a b).b (matched_world a b).b
        (last_other_is_sound a b laws.stays laws.lost) refl
        (takes_alone (new_machine (config_at B)) all_protected (replicate 4 1) (fresh_of 11) asked_spelled refl refl (request_takes _ _))

    pub sound_matched : IsSoundState (matched_world a b).a
    sound_matched =
        stays_sound laws (ike.Message (replicate 4 2) alive_octets (fresh_of 12)) counts_step (replied_world a b).a (matched_world a b).a sound_ticked refl
        (takes_alone later_machine all_protected (replicate 4 2) (fresh_of 12) answer_spelled refl refl (response_takes _ _))

    pub recovery_run_is : IsWorldTrail (λ _. run_meaning) (new_ends a b) (recovery_steps a b) (matched_world a b)
    recovery_run_is =
        followed_by (λ _. run_meaning) (retransmission_steps a b) (asks_again a b ∷ goes_again a b ∷ replies a b ∷ matches a b ∷ []) (new_ends a b) (answered_again a b)
        (matched_world a b) (retransmission_run_is a b laws.stays laws.lost) (refl, asks_it, (refl, ticks_it, (refl, replies_it, (refl, matches_it, refl))))

    -- ---- what waits, and what is processed

    pub not_yet : (request : Request) → ¬ WaitsAt (asks_again a b).before.a.machine.held 1 3 request
    not_yet request waits =
        none_waits request (ap (λ (x : Association). numbers.get x.outgoing.outstanding 3) (some_is counted waits.association waits.there) ∙ waits.waits)

    no_more : (request : Request) → ¬ WaitsAt (matches a b).after.a.machine.held 1 3 request
    no_more request waits =
        none_waits_then request (ap (λ (x : Association). numbers.get x.outgoing.outstanding 3) (some_is counted_twice waits.association waits.there) ∙ waits.waits)

    same_ticked : (one other : Ticked) → ike_output.Ticked one ≡ ike_output.Ticked other → one ≡ other
    same_ticked one other is = cc

    it_brings : Brings 1000 (passage_at A (goes_again a b))
    it_brings =
        let comes = laws.comes run_meaning all_protected 1000 (asked_world a b).a.machine (asking_table 1) ticks_step (ticked_world a b).a.machine (asking_table 1) ticks_so in
        let same = same_ticked (record { requests = sent_again again ∷ []; closed = [] }) comes.ticked comes.said in
        record {
          ticked = comes.ticked;
          said = ap (λ (t : Ticked). Told t.requests t.closed) same;
          brings = comes.brings;
          moment = refl;
        }

    pub takes_effect : TakesEffect 1 3 (passage_at B (replies a b))
    takes_effect = record {
      old = probed;
      new = answered_twice;
      held = record { before = refl; after = refl };
      comes = record { before = fresh_three.not_in_effect; after = in_effect };
    }

    pub recovery_is : IsRunWithRecovery a b
    recovery_is = record {
      exchanged = exchanged;
      again = again;
      happenings = recovery_steps a b;
      last = matched_world a b;
      takes = refl;
      says = refl;
      trail = recovery_run_is;
      asking = passage_at A (asks_again a b);
      asking_there = refl;
      asker = counted;
      asker_held = refl;
      asker_keyed = refl;
      waits_not_yet = not_yet;
      sends = refl;
      starts_to_wait = record { association = waiting_by second_request; there = refl; waits = it_waits second_request };
      ticking = passage_at A (goes_again a b);
      ticking_there = refl;
      request = second_request;
      request_octets = refl;
      timer = refl;
      waits = record { association = waiting_by second_request; there = refl; waits = it_waits second_request };
      not_before = omega arith;
      due = (omega arith, omega arith);
      moment_before = refl;
      greatest = refl;
      moment = refl;
      memory = refl;
      brings = it_brings;
      goes_out_again = refl;
      arriving = passage_at B (replies a b);
      arriving_there = refl;
      answerer = probed;
      answerer_held = refl;
      answerer_established = refl;
      same_spis = (refl, refl);
      opposite = refl;
      is_new = record { exchange = 37; opens = opens; fresh = fresh_three; admitted = refl };
      takes_effect = takes_effect;
      answers = record { closed = None; said = refl };
      matching = passage_at A (matches a b);
      matching_there = refl;
      later = again_request;
      later_octets = refl;
      asker_then = waiting_by again_request;
      asker_then_held = refl;
      asker_then_keyed = refl;
      same_spis_then = (refl, refl);
      opposite_then = refl;
      still_waits = record { association = waiting_by again_request; there = refl; waits = it_waits again_request };
      matched = refl;
      waits_no_more = no_more;
    }
