-- In the run that begins with two new gateways a second probe is never answered. It goes out six times, A's
-- IKE SA is closed, and is removed two minutes later.
use Rattle.std.proofs.Common.{◌≡◌, ◌≢◌, ◌+◌, ◌||◌, ◌++◌, ◌∷◌, inl, inr, [], ℕ, Bool, true, false, cond, List, Some, map, ap, arith, refl, subst, sym, ◌∙◌}
use Rattle.std.proofs.lemmas.Bool.Decides.{eqb_tells}
use Rattle.std.specs.FinMap as numbers
use Rattle.std.specs.FinSet as set
use Rattle.std.specs.List.{filter, list_any}
use Rattle.std.specs.Option.{option_map}
use Rattle.std.specs.Ordering.{nat_cmp}
use Rattle.std.specs.Prelude.{max, Contains}
use Rattle.replay.specs.Window.{unused_window}
use Rattle.exchange.specs.declared.headers.Role.TheVariants.{Initiator}
use Rattle.suite.specs.declared.fresh.Fresh.{Fresh}
use Rattle.sadb.specs.Database.{pair_at, Database, HasInbound, IsSoundTable}
use Rattle.sadb.specs.declared.pair.Pair.{Pair}
use Rattle.association.specs.Closing.{Closes}
use Rattle.association.specs.declared.phase.Association.{Association}
use Rattle.association.specs.declared.phase.Request.{Request}
use Rattle.moments.specs.Due.{after_sending, due_of, has_failed, is_due, is_unanswered, resent, SendsAgain}
use Rattle.moments.specs.Ticking.{PassAll, PassesBy}
use Rattle.moments.specs.declared.resent.Resent.{Resent}
use Rattle.ike.specs.Outputs.{plain_step}
use Rattle.ike.specs.Steps as ike
use Rattle.ike.specs.declared.output.IkeOutput.TheVariants as ike_output
use Rattle.ike.specs.declared.output.Stepped.{Stepped}
use Rattle.gateway.specs.Histories.{IsPassage, IsTrail, Passage}
use Rattle.gateway.specs.Inputs as input
use Rattle.gateway.specs.Outputs.{Ticked}
use Rattle.gateway.specs.States.{IsSoundState}
use Rattle.gateway.specs.Steps.{Traces}
use Rattle.gateway.specs.WorldHistories.{passage_at, IsWorldTrail}
use Rattle.gateway.specs.Worlds.{again_as, TakesEvent}
use Rattle.gateway.specs.declared.world.stored.Datagram.{Datagram}
use Rattle.gateway.specs.declared.world.stored.End.TheVariants.{A}
use Rattle.gateway.proofs.PartyLemmas.{at_head}
use Rattle.laws_two_ends.specs.WorkedMessages.{probe_octets}
use Rattle.laws_two_ends.specs.WorkedRuns.{all_protected, new_ends, run_meaning}
use Rattle.laws_two_ends.proofs.HeldLemmas.{asking_table_is_sound, unreserved}
use Rattle.laws_two_ends.proofs.MapLemmas.{none_found, put_beside, put_there}
use Rattle.laws_two_ends.proofs.Stages.{asking_table, counted, pair_of}
use Rattle.laws_two_ends.proofs.TableLemmas.{lone_in}
use Rattle.laws_two_ends.proofs.WorkedRequestLemmas.{none_there}
use Rattle.laws_two_ends.proofs.WorkedRunLemmas.{followed_by}
use Rattle.laws_recovery.specs.Beginning.{MayBegin}
use Rattle.laws_recovery.specs.Waiting.{WaitsBefore}
use Rattle.laws_worked.specs.GivenUp.{probe_again, told_at, IsRunGivenUp}
use Rattle.laws_worked.proofs.GivenUpStages.{closed_at, closed_table, given_up_steps, goes_out_at, is_given_up, is_removed, machine_then, one_then, removed_world, request_sent, sent_times, steps_given_up, unreserved_table, waiting_since, world_then}
use Rattle.laws_worked.proofs.RecoveryLemmas.{asks_it, sound_asked, SoundLaws}
use Rattle.laws_worked.proofs.RecoveryMessageLemmas.{it_waits, none_at, one_entry}
use Rattle.laws_worked.proofs.RecoveryStages.{asks_again}
use Rattle.laws_worked.proofs.ReplayRunLemmas.{exchanged}
use Rattle.laws_worked.proofs.RetransmissionLemmas.{answered_again, retransmission_run_is, retransmission_steps}

-- ---- the request goes out again

-- as it does each time
abbrev out : Resent
out = probe_again probe_octets

module _ (sent repeats now : ℕ) where
  abbrev old : Association
  old = waiting_since sent repeats

  abbrev new : Association
  new = waiting_since now (repeats + 1)

  not_failed : is_unanswered now (request_sent sent repeats) ≡ false → has_failed now old ≡ false
  not_failed answered =
      ap (list_any (λ (e : ℕ × Request). is_unanswered now e.1)) (one_entry (request_sent sent repeats))
      ∙ ap (λ (b : Bool). b || false) answered

  sent_again : is_due now (request_sent sent repeats) ≡ true → after_sending now (request_sent sent repeats) ≡ request_sent now (repeats + 1)
  sent_again due = ap (λ (b : Bool). cond b (request_sent now (repeats + 1)) (request_sent sent repeats)) due

  sends : is_due now (request_sent sent repeats) ≡ true → SendsAgain now old new
  sends due = record {
    each = λ number. elim (eqb_tells number 3) [
      | inl (_, same) ↦
          put_there counted.outgoing.outstanding 3 number (request_sent now (repeats + 1)) same
          ∙ ap (λ (r : Request). Some r) (sym (sent_again due))
          ∙ ap (option_map (after_sending now)) (sym (put_there counted.outgoing.outstanding 3 number (request_sent sent repeats) same))
      | inr (_, apart) ↦
          put_beside counted.outgoing.outstanding 3 number (request_sent now (repeats + 1)) apart
          ∙ none_at number
          ∙ ap (option_map (after_sending now)) (sym (put_beside counted.outgoing.outstanding 3 number (request_sent sent repeats) apart ∙ none_at number))
    ];
    content = refl;
  }

  goes : is_due now (request_sent sent repeats) ≡ true → out ∷ [] ≡ due_of now old
  goes due =
      sym (ap (λ (es : List (ℕ × Request)). map (resent old) (filter (λ e. is_due now e.1) es)) (one_entry (request_sent sent repeats))
      ∙ ap (λ (b : Bool). map (resent old) (cond b ((3, request_sent sent repeats) ∷ []) [])) due)

  passes : (table : Database) → is_unanswered now (request_sent sent repeats) ≡ false → is_due now (request_sent sent repeats) ≡ true
      → PassesBy false (has_failed now old) now old table (out ∷ []) [] (new ∷ []) table
  passes table answered due =
      subst (λ (b : Bool). PassesBy false b now old table (out ∷ []) [] (new ∷ []) table) (sym (not_failed answered))
      (new, sends due, goes due, refl, refl, refl)

  all_pass : (table : Database) → is_unanswered now (request_sent sent repeats) ≡ false → is_due now (request_sent sent repeats) ≡ true
      → PassAll now (old ∷ []) table (out ∷ []) [] (new ∷ []) table
  all_pass table answered due = record {
    sent_first = out ∷ [];
    sent_rest = [];
    closed_first = [];
    closed_rest = [];
    held_first = new ∷ [];
    held_rest = [];
    between = table;
    passes = record { done = passes table answered due };
    others = (refl, refl, refl, refl);
    sent_all = refl;
    closed_all = refl;
    held_all = refl;
  }

-- ---- the peer is taken to be gone

abbrev last : Association
last = waiting_since 31000 5

has_failed_last : has_failed 47000 last ≡ true
has_failed_last = ap (list_any (λ (e : ℕ × Request). is_unanswered 47000 e.1)) (one_entry (request_sent 31000 5))

no_pair : (serial : ℕ) (pair : Pair) → pair_at numbers.empty serial ≡ Some pair → ⊥
no_pair serial pair there = none_found numbers.empty refl serial pair there

-- the pair that A holds
abbrev its_pair : Pair
its_pair = pair_of Initiator 1 (unused_window 2)

is_its : (serial : ℕ) (pair : Pair) → pair_at (asking_table 1).pairs serial ≡ Some pair → pair.ike ≡ 1
is_its serial pair there = ap (λ (p : Pair). p.ike) ((lone_in its_pair).only serial pair there).content

none_reserved : (spi : ℕ) → set.contains (asking_table 1).reserved spi ≡ true → ⊥
none_reserved spi there = none_there spi (sym (ap (λ (r : set.FinSet nat_cmp). set.contains r spi) (unreserved 256)) ∙ there)

closes : Closes last (asking_table 1) 47000 (closed_at 47000) closed_table
closes = record {
  between = unreserved_table;
  released = record {
    reserved = λ spi. ((λ there. absurd (none_there spi there)), (λ both. absurd (none_reserved spi both.0)));
    content = refl;
    room = omega arith;
  };
  removed = record {
    kept = λ serial pair. ((λ there. absurd (no_pair serial pair there)), (λ both. absurd (both.1 (is_its serial pair both.0))));
    content = refl;
    room = omega arith;
  };
  requests = record { content = refl };
  content = refl;
}

last_passes : PassAll 47000 (last ∷ []) (asking_table 1) [] (1 ∷ []) (closed_at 47000 ∷ []) closed_table
last_passes = record {
  sent_first = [];
  sent_rest = [];
  closed_first = 1 ∷ [];
  closed_rest = [];
  held_first = closed_at 47000 ∷ [];
  held_rest = [];
  between = closed_table;
  passes = record {
    done = subst (λ (b : Bool). PassesBy false b 47000 last (asking_table 1) [] (1 ∷ []) (closed_at 47000 ∷ []) closed_table) (sym has_failed_last)
        (closed_at 47000, closes, refl, refl, refl);
  };
  others = (refl, refl, refl, refl);
  sent_all = refl;
  closed_all = refl;
  held_all = refl;
}

-- ---- it is over

removed_passes : PassAll 167000 (closed_at 47000 ∷ []) closed_table [] [] [] closed_table
removed_passes = record {
  sent_first = [];
  sent_rest = [];
  closed_first = [];
  closed_rest = [];
  held_first = [];
  held_rest = [];
  between = closed_table;
  passes = record { done = (refl, refl, refl, refl) };
  others = (refl, refl, refl, refl);
  sent_all = refl;
  closed_all = refl;
  held_all = refl;
}

no_inbound : (serial spi : ℕ) → HasInbound numbers.empty spi serial → ⊥
no_inbound serial spi is = no_pair serial is.pair is.there

closed_table_is_sound : IsSoundTable closed_table
closed_table_is_sound = record {
  start = record { least = omega arith; most = omega arith };
  given = omega arith;
  first = omega arith;
  next = let none = set.len-empty nat_cmp in omega (arith, none);
  few = let none = set.len-empty nat_cmp in let no_pairs = numbers.len-empty nat_cmp Pair in omega (arith, none, no_pairs);
  reserved_given = λ spi is. absurd (none_there spi is);
  serial = λ serial pair there. absurd (no_pair serial pair there);
  serial_given = λ serial pair there. absurd (no_pair serial pair there);
  window = λ serial pair there. absurd (no_pair serial pair there);
  spi_given = λ serial spi is. absurd (no_inbound serial spi is);
  spi_taken = λ serial spi is reserved. no_inbound serial spi is;
  apart = λ serial other spi first second. absurd (no_inbound serial spi first);
}

-- ---- a tick at A

abbrev step_of : List Resent → List ℕ → Stepped
step_of requests closed = plain_step (ike_output.Ticked (record { requests = requests; closed = closed }))

module _ (sent now : ℕ) (requests : List Resent) (closed : List ℕ) (before : List Association) (table : Database) (after : List Association) (new_table : Database) where
  -- it makes these IKE SAs and this table of those
  record IsTick : Type 0 where
    later : max sent now ≡ now
    all : PassAll now before table requests closed after new_table
    sound : IsSoundTable new_table

  steps_by : IsTick → ike.Steps run_meaning all_protected (ike.Tick now) (machine_then sent before) table (step_of requests closed) (machine_then now after) new_table
  steps_by is =
      subst (λ (n : ℕ). ike.Steps run_meaning all_protected (ike.Tick now) (machine_then sent before) table (step_of requests closed) (machine_then n after) new_table) is.later
      (record {
        takes = record {
          ticked = record { requests = requests; closed = closed };
          ticks = subst (λ (n : ℕ). PassAll n before table requests closed after new_table) (sym is.later) is.all;
          said = refl;
          next = refl;
        };
        content = refl;
      })

  module _ {C : Type 0} (laws : SoundLaws) (is : IsTick) (a : C) (sound : IsSoundState (one_then a sent before table)) where
    sound_then : IsSoundState (one_then a now after new_table)
    sound_then = record {
      machine = laws.stays run_meaning all_protected (ike.Tick now) (machine_then sent before) table (step_of requests closed) (machine_then now after) new_table sound.table sound.machine (steps_by is);
      table = is.sound;
      timely = laws.timely run_meaning all_protected (ike.Tick now) (machine_then sent before) table (step_of requests closed) (machine_then now after) new_table sound.timely (steps_by is);
      reservations = laws.lost run_meaning all_protected (ike.Tick now) (machine_then sent before) table (step_of requests closed) (machine_then now after) new_table sound.machine (steps_by is) sound.reservations;
    }

    traces_are : Traces run_meaning (input.Tick now) (one_then a sent before table) (Ticked requests closed) (step_of requests closed).trace (one_then a now after new_table)
    traces_are = record {
      kept = refl;
      does = inl (record { stepped = step_of requests closed; steps = steps_by is; output = refl; traced = refl });
    }

    passage_is : IsPassage (λ _. run_meaning) (record {
      before = one_then a sent before table;
      given = input.Tick now;
      said = Ticked requests closed;
      after = one_then a now after new_table;
    })
    passage_is = record { sound = sound; steps = record { trace = (step_of requests closed).trace; traces = traces_are } }

    -- in a world in which these were sent before
    takes_it : (b : C) (more : List Datagram)
        → TakesEvent (λ _. run_meaning) (told_at now) (world_then a b sent before table more) (Ticked requests closed)
        (world_then a b now after new_table (more ++ map (again_as A (machine_then now after)) requests))
    takes_it b more = record {
      sound = sound;
      fresh = tt;
      trace = (step_of requests closed).trace;
      gateway = one_then a now after new_table;
      traces = traces_are;
      content = refl;
    }

tick_out : (sent repeats now : ℕ) → max sent now ≡ now → is_unanswered now (request_sent sent repeats) ≡ false → is_due now (request_sent sent repeats) ≡ true
    → IsTick sent now (out ∷ []) [] (waiting_since sent repeats ∷ []) (asking_table 1) (waiting_since now (repeats + 1) ∷ []) (asking_table 1)
tick_out sent repeats now later answered due =
    record { later = later; all = all_pass sent repeats now (asking_table 1) answered due; sound = asking_table_is_sound 1 }

tick_one : IsTick 0 1000 (out ∷ []) [] (waiting_since 0 0 ∷ []) (asking_table 1) (waiting_since 1000 1 ∷ []) (asking_table 1)
tick_one = tick_out 0 0 1000 refl refl refl

tick_two : IsTick 1000 3000 (out ∷ []) [] (waiting_since 1000 1 ∷ []) (asking_table 1) (waiting_since 3000 2 ∷ []) (asking_table 1)
tick_two = tick_out 1000 1 3000 refl refl refl

tick_three : IsTick 3000 7000 (out ∷ []) [] (waiting_since 3000 2 ∷ []) (asking_table 1) (waiting_since 7000 3 ∷ []) (asking_table 1)
tick_three = tick_out 3000 2 7000 refl refl refl

tick_four : IsTick 7000 15000 (out ∷ []) [] (waiting_since 7000 3 ∷ []) (asking_table 1) (waiting_since 15000 4 ∷ []) (asking_table 1)
tick_four = tick_out 7000 3 15000 refl refl refl

tick_five : IsTick 15000 31000 (out ∷ []) [] (waiting_since 15000 4 ∷ []) (asking_table 1) (waiting_since 31000 5 ∷ []) (asking_table 1)
tick_five = tick_out 15000 4 31000 refl refl refl

tick_six : IsTick 31000 47000 [] (1 ∷ []) (last ∷ []) (asking_table 1) (closed_at 47000 ∷ []) closed_table
tick_six = record { later = refl; all = last_passes; sound = closed_table_is_sound }

tick_seven : IsTick 47000 167000 [] [] (closed_at 47000 ∷ []) closed_table [] closed_table
tick_seven = record { later = refl; all = removed_passes; sound = closed_table_is_sound }

-- ---- the run

none_in : (a : Association) → Contains [] a → ⊥
none_in a there = (let less = there.1 in absurd (omega arith))

module _ {C : Type 0} (a b : C) (laws : SoundLaws) where
  -- A after each step
  sound_zero : IsSoundState (one_then a 0 (waiting_since 0 0 ∷ []) (asking_table 1))
  sound_zero = sound_asked a b laws

  sound_one : IsSoundState (one_then a 1000 (waiting_since 1000 1 ∷ []) (asking_table 1))
  sound_one = sound_then 0 1000 _ _ _ _ _ _ laws tick_one a sound_zero

  sound_two : IsSoundState (one_then a 3000 (waiting_since 3000 2 ∷ []) (asking_table 1))
  sound_two = sound_then 1000 3000 _ _ _ _ _ _ laws tick_two a sound_one

  sound_three : IsSoundState (one_then a 7000 (waiting_since 7000 3 ∷ []) (asking_table 1))
  sound_three = sound_then 3000 7000 _ _ _ _ _ _ laws tick_three a sound_two

  sound_four : IsSoundState (one_then a 15000 (waiting_since 15000 4 ∷ []) (asking_table 1))
  sound_four = sound_then 7000 15000 _ _ _ _ _ _ laws tick_four a sound_three

  sound_five : IsSoundState (one_then a 31000 (waiting_since 31000 5 ∷ []) (asking_table 1))
  sound_five = sound_then 15000 31000 _ _ _ _ _ _ laws tick_five a sound_four

  sound_six : IsSoundState (one_then a 47000 (closed_at 47000 ∷ []) closed_table)
  sound_six = sound_then 31000 47000 _ _ _ _ _ _ laws tick_six a sound_five

  steps_are : IsWorldTrail (λ _. run_meaning) (answered_again a b) (steps_given_up a b) (removed_world a b)
  steps_are = (
    refl,
    asks_it a b laws,
    (
      refl,
      takes_it 0 1000 _ _ _ _ _ _ laws tick_one a sound_zero b (sent_times 1),
      (
        refl,
        takes_it 1000 3000 _ _ _ _ _ _ laws tick_two a sound_one b (sent_times 2),
        (
          refl,
          takes_it 3000 7000 _ _ _ _ _ _ laws tick_three a sound_two b (sent_times 3),
          (
            refl,
            takes_it 7000 15000 _ _ _ _ _ _ laws tick_four a sound_three b (sent_times 4),
            (
              refl,
              takes_it 15000 31000 _ _ _ _ _ _ laws tick_five a sound_four b (sent_times 5),
              (
                refl,
                takes_it 31000 47000 _ _ _ _ _ _ laws tick_six a sound_five b (sent_times 6),
                (refl, takes_it 47000 167000 _ _ _ _ _ _ laws tick_seven a sound_six b (sent_times 6), refl),
              ),
            ),
          ),
        ),
      ),
    ),
  )

  given_up_run_is : IsWorldTrail (λ _. run_meaning) (new_ends a b) (given_up_steps a b) (removed_world a b)
  given_up_run_is =
      followed_by (λ _. run_meaning) (retransmission_steps a b) (steps_given_up a b) (new_ends a b) (answered_again a b) (removed_world a b)
      (retransmission_run_is a b laws.stays laws.lost) steps_are

  -- ---- as A sees it

  abbrev goes_out : ℕ → ℕ → ℕ → Passage C
  goes_out sent repeats now = passage_at A (goes_out_at a b sent repeats now)

  abbrev all_go_out : List (Passage C)
  all_go_out =
      goes_out 0 0 1000 ∷ goes_out 1000 1 3000 ∷ goes_out 3000 2 7000 ∷ goes_out 7000 3 15000 ∷ goes_out 15000 4 31000 ∷ []

  in_a_row : IsTrail (λ _. run_meaning) (passage_at A (asks_again a b)).after all_go_out (passage_at A (is_given_up a b)).before
  in_a_row = (
    refl,
    passage_is 0 1000 _ _ _ _ _ _ laws tick_one a sound_zero,
    (
      refl,
      passage_is 1000 3000 _ _ _ _ _ _ laws tick_two a sound_one,
      (
        refl,
        passage_is 3000 7000 _ _ _ _ _ _ laws tick_three a sound_two,
        (
          refl,
          passage_is 7000 15000 _ _ _ _ _ _ laws tick_four a sound_three,
          (refl, passage_is 15000 31000 _ _ _ _ _ _ laws tick_five a sound_four, refl),
        ),
      ),
    ),
  )

  waits_so : (sent repeats now : ℕ) → WaitsBefore 1 3 (request_sent sent repeats) (goes_out sent repeats now)
  waits_so sent repeats now = record { association = waiting_since sent repeats; there = refl; waits = it_waits (request_sent sent repeats) }

  waits_last : WaitsBefore 1 3 (request_sent 31000 5) (passage_at A (is_given_up a b))
  waits_last = record { association = last; there = refl; waits = it_waits (request_sent 31000 5) }

  may_begin : (fresh : Fresh) → fresh.spi ≢ 0 → MayBegin 0 fresh (passage_at A (is_removed a b)).after
  may_begin fresh named = record {
    entry = _;
    there = refl;
    protects = refl;
    few = omega arith;
    left = omega arith;
    named = named;
    unused = λ x there same. none_in x there;
    not_full = λ full. (let no_pairs = numbers.len-empty nat_cmp Pair in let none = set.len-empty nat_cmp in absurd (omega (arith, full, no_pairs, none)));
    not_spent = λ spent. absurd (omega (arith, spent));
  }

  pub given_up_is : IsRunGivenUp a b
  given_up_is = record {
    exchanged = exchanged;
    probe = probe_octets;
    happenings = given_up_steps a b;
    last = removed_world a b;
    takes = refl;
    says = refl;
    trail = given_up_run_is;
    request = request_sent 0 0;
    request_octets = refl;
    timer = refl;
    keyed = λ same. omega (arith, same);
    asking = passage_at A (asks_again a b);
    asking_there = refl;
    sends = refl;
    starts_to_wait = record { association = waiting_since 0 0; there = refl; waits = it_waits (request_sent 0 0) };
    first = goes_out 0 0 1000;
    first_there = refl;
    waits_first = waits_so 0 0 1000;
    brings = record { told = record { moment = 1000; given = refl; greatest = refl }; taken = refl };
    due = (omega arith, omega arith);
    out = record { requests = out ∷ []; closed = []; said = refl; encrypted = true; among = at_head out [] };
    second = goes_out 1000 1 3000;
    second_there = refl;
    third = goes_out 3000 2 7000;
    third_there = refl;
    fourth = goes_out 7000 3 15000;
    fourth_there = refl;
    fifth = goes_out 15000 4 31000;
    fifth_there = refl;
    through = (
      (request_sent 0 0, waits_so 0 0 1000),
      (
        (request_sent 1000 1, waits_so 1000 1 3000),
        (
          (request_sent 3000 2, waits_so 3000 2 7000),
          ((request_sent 7000 3, waits_so 7000 3 15000), ((request_sent 15000 4, waits_so 15000 4 31000), tt)),
        ),
      ),
    );
    times = refl;
    giving_up = passage_at A (is_given_up a b);
    giving_up_there = refl;
    in_a_row = in_a_row;
    timely = sound_five.timely;
    last_request = request_sent 31000 5;
    waits_last = waits_last;
    brings_last = record { told = record { moment = 47000; given = refl; greatest = refl }; taken = refl };
    over = (omega arith, omega arith);
    given_up = record {
      number = 3;
      request = request_sent 31000 5;
      waits = waits_last;
      over = (omega arith, omega arith);
      requests = [];
      closed = 1 ∷ [];
      said = refl;
      among = at_head 1 [];
    };
    carries = record { pair = its_pair; there = (lone_in its_pair).there; its = refl };
    carries_no_more = λ child belongs. no_pair child belongs.pair belongs.there;
    removing = passage_at A (is_removed a b);
    removing_there = refl;
    closed = record { association = closed_at 47000; there = refl; is = refl };
    brings_removal = record { told = record { moment = 167000; given = refl; greatest = refl }; taken = refl };
    long_enough = omega arith;
    removed = record { gone = refl; fewer = omega arith };
    may_begin = may_begin;
  }
