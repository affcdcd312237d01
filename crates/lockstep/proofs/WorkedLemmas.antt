-- The premises are met by the worked ends.
use Rattle.std.proofs.Common.{◌≡◌, ◌==◌, ◌≤◌, ◌∷◌, ℕ, Bool, true, false, Option, Some, None, List, [], Contains, length, ap, subst, refl, sym, ◌∙◌, arith, inl, inr}
use Rattle.std.specs.Prelude.{if◌then◌else◌}
use Rattle.std.proofs.lemmas.Bool.Decides.{eqb_tells}
use Rattle.std.specs.FinMap as map
use Rattle.std.specs.FinSet as set
use Rattle.std.proofs.lemmas.List.Elements.{Contains-push}
use Rattle.base.specs.Octets.{Octets}
use Rattle.suite.specs.declared.key_record.KeyRecord.{KeyRecord}
use Rattle.exchange.specs.declared.headers.Role.TheVariants.{Initiator, Responder}
use Rattle.requests.specs.Incoming.{IsPassed}
use Rattle.requests.specs.Numbers.{HasNumber}
use Rattle.effects.specs.Moves.{first_ledger, Count, Counts, Issue, Issues, Lead, Ledger, Make, Move, TakeEffect, TakesEffectOnce}
use Rattle.lockstep.specs.Ends.{fresh_end, made_end, request_of, response_of, sent_in, Does, End, Entry}
use Rattle.lockstep.specs.Histories.{Ends, HasRequest, HasResponse, IsGenuineAtOnce, IsHistory, IsRun}
use Rattle.lockstep.specs.Worked.{answered_ledger, asked_ledger, asking_party, fresh_ends, new_party, waiting_ledger, worked_ends, worked_steps, worked_turn, zero_and_one}
use Rattle.lockstep.specs.Parties.{IsSentNow, Marked, TakesTurn}
use Rattle.lockstep.proofs.KeyLemmas.{at_head, at_head_or_further, marked, none_there}
use Rattle.lockstep.proofs.MoveLemmas.{none_kept, zero_alone, zero_gap}
use Rattle.lockstep.proofs.NumberLemmas.{kept_here, kept_was, member_was, one_gap, one_some, put_here, some_none}

module _ (keys : KeyRecord) (request reply : Octets) where
  abbrev other_made : Ends
  other_made = record { one = fresh_ends.one; other = made_end keys Responder }

  abbrev waiting_end : End
  waiting_end = record { ledger = Some (waiting_ledger keys request); made = 1; sent = request_of 1 request ∷ [] }

  abbrev answered_end : End
  answered_end = record { ledger = Some (answered_ledger keys reply); made = 1; sent = response_of 1 reply ∷ [] }

  issued : Issues 1 request (first_ledger keys Initiator) (waiting_ledger keys request)
  issued = record {
    least = refl;
    in_window = λ gap is. (let one : gap ≡ 1 = one_gap (set.insert set.empty 0) gap 1 is zero_gap in omega (arith, one));
    left = omega arith;
    is_open = refl;
    content = refl;
  }

  worked_numbers : (n : ℕ) → HasNumber zero_and_one n → n ≤ 1
  worked_numbers n has = elim (member_was (set.insert set.empty 0) 1 n has) [
    | inl same ↦ omega (arith, same)
    | inr before ↦ (let is = zero_alone n before in omega (arith, is))
  ]

  not_passed : (n : ℕ) → 1 ≤ n → ¬ IsPassed zero_and_one 1 n
  not_passed n some passed = (let most = worked_numbers passed.later passed.in_effect in let far = passed.far in omega (arith, some, most, far))

  taken : TakesEffectOnce 1 reply (first_ledger keys Responder) (answered_ledger keys reply)
  taken = record {
    is_open = refl;
    not_yet = zero_gap.missing;
    gap = 1;
    is_gap = zero_gap;
    inside = omega arith;
    own_reply = kept_here map.empty 1 reply;
    kept = λ n octets. (
      λ there. (
        there,
        elim (kept_was map.empty 1 reply n octets there) [
          | inl here ↦ (let same = here.0 in not_passed n (omega (arith, same)))
          | inr before ↦ absurd (none_kept n octets before)
        ],
      ),
      λ both. both.0,
    );
    windows = inl (refl, refl);
    content = refl;
  }

  counted : Counts 1 (waiting_ledger keys request) (asked_ledger keys request)
  counted = record {
    octets = request;
    there = put_here (first_ledger keys Initiator).outstanding 1 (Some request);
    is_open = refl;
    windows = inl (refl, refl);
    content = refl;
  }

  responder_makes : Does (record { moves = Make keys ∷ []; again = [] }) fresh_end (made_end keys Responder)
  responder_makes = record { lead = (Some (first_ledger keys Responder), record { content = refl }, refl); repeats = tt; made = refl; sent = refl }

  initiator_asks : Does (record { moves = Make keys ∷ Issue 1 request ∷ []; again = [] }) fresh_end waiting_end
  initiator_asks = record {
    lead = (Some (first_ledger keys Initiator), record { content = refl }, (Some (waiting_ledger keys request), issued, refl));
    repeats = tt;
    made = refl;
    sent = refl;
  }

  responder_takes : Does (record { moves = TakeEffect 1 reply ∷ []; again = [] }) (made_end keys Responder) answered_end
  responder_takes = record { lead = (Some (answered_ledger keys reply), taken, refl); repeats = tt; made = refl; sent = refl }

  responder_repeats : Does (record { moves = []; again = response_of 1 reply ∷ [] }) answered_end (worked_ends keys request reply).other
  responder_repeats = record { lead = refl; repeats = (kept_here map.empty 1 reply, tt); made = refl; sent = refl }

  initiator_counts : Does (record { moves = Count 1 ∷ []; again = [] }) waiting_end (worked_ends keys request reply).one
  initiator_counts = record { lead = (Some (asked_ledger keys request), counted, refl); repeats = tt; made = refl; sent = refl }

  request_there : HasRequest (request_of 1 request ∷ []) 1
  request_there = record { octets = request; there = Contains-push [] (request_of 1 request) }

  response_there : HasResponse (response_of 1 reply ∷ response_of 1 reply ∷ []) 1
  response_there = record { octets = reply; there = Contains-push (response_of 1 reply ∷ []) (response_of 1 reply) }

  runs : IsRun fresh_ends (worked_steps keys request reply) (worked_ends keys request reply)
  runs = (
    other_made,
    (responder_makes, refl),
    (
      record { one = waiting_end; other = made_end keys Responder },
      (initiator_asks, refl),
      (
        record { one = waiting_end; other = answered_end },
        (responder_takes, refl),
        (
          record { one = waiting_end; other = (worked_ends keys request reply).other },
          (responder_repeats, refl),
          (
            worked_ends keys request reply,
            (initiator_counts, refl),
            refl,
          ),
        ),
      ),
    ),
  )

  pub worked_history : IsHistory fresh_ends (worked_steps keys request reply) (worked_ends keys request reply)
  worked_history = record {
    run = runs;
    genuine = ((tt, tt), ((tt, (tt, tt)), ((request_there, tt), (tt, ((response_there, tt), tt)))));
    one_distinct = omega arith;
    other_distinct = omega arith;
  }

module _ (keys : KeyRecord) (request reply : Octets) where
  pub worked_at_once : IsGenuineAtOnce [] [] (worked_steps keys request reply)
  worked_at_once = ((tt, tt), ((tt, (tt, tt)), ((request_there keys request reply, tt), (tt, ((response_there keys request reply, tt), tt)))))

-- ---- the worked turn

module _ (keys : KeyRecord) (request : Octets) where
  abbrev moves_if : Bool → List Move
  moves_if b = if b then Make keys ∷ Issue 1 request ∷ [] else []

  abbrev ledger_if : Bool → Option Ledger
  ledger_if b = if b then Some (waiting_ledger keys request) else None

  few_if : (b : Bool) → length (moves_if b) ≤ 2
  few_if true = omega arith
  few_if false = omega arith

  lead_if : (b : Bool) → Lead (moves_if b) None (ledger_if b)
  lead_if true = (Some (first_ledger keys Initiator), record { content = refl }, (Some (waiting_ledger keys request), issued keys request request, refl))
  lead_if false = refl

  keys_if : (b : Bool) (l : Ledger) → ledger_if b ≡ Some l → keys ≡ l.keys
  keys_if true l is = ap (λ (x : Ledger). x.keys) (one_some (waiting_ledger keys request) l is)
  keys_if false l is = absurd (some_none l is)

  sent_if : (b : Bool) (l : Ledger) (entry : Entry) → ledger_if b ≡ Some l → Contains (sent_in (moves_if b)) entry
      → Contains (record { keys = keys; entry = request_of 1 request } ∷ []) (marked l.keys entry)
  sent_if true l entry is there = elim (at_head_or_further (request_of 1 request) [] entry there) [
    | inl same ↦
        subst (λ (m : Marked). Contains (record { keys = keys; entry = request_of 1 request } ∷ []) m) (λ i. marked (keys_if true l is i) (same i))
        (at_head (marked keys (request_of 1 request)) [])
    | inr none ↦ absurd (none_there entry none)
  ]
  sent_if false l entry is there = absurd (some_none l is)

  comes_if : (serial : ℕ) (l : Ledger) → ledger_if (serial == 1) ≡ Some l → (worked_turn keys request).coming ≡ Some (record { serial = serial; keys = l.keys })
  comes_if serial l is = elim (eqb_tells serial 1) [
    | inl (_, same) ↦ (λ i. Some (record { serial = sym same i; keys = keys_if (serial == 1) l is i }))
    | inr (none, _) ↦ absurd (some_none l (sym (ap ledger_if none) ∙ is))
  ]

  sent_now : (k : KeyRecord) (entry : Entry) → Contains (worked_turn keys request).sent (marked k entry) → IsSentNow (worked_turn keys request) new_party (asking_party keys request) k entry
  sent_now k entry there = elim (at_head_or_further (marked keys (request_of 1 request)) [] (marked k entry) there) [
    | inl same ↦ record {
      serial = 1;
      ledger = waiting_ledger keys request;
      holds = record { there = refl; keyed = ap (λ (m : Marked). m.keys) same };
      by = inl (subst (λ (e : Entry). Contains (request_of 1 request ∷ []) e) (ap (λ (m : Marked). m.entry) same) (at_head (request_of 1 request) []));
    }
    | inr none ↦ absurd (none_there (marked k entry) none)
  ]

  pub worked_takes : TakesTurn (worked_turn keys request) new_party (asking_party keys request)
  worked_takes = record {
    few = λ serial. few_if (serial == 1);
    lead = λ serial. lead_if (serial == 1);
    keys_stay = λ serial was is none there. absurd (some_none was none);
    come = λ serial is k there makes. comes_if serial is there;
    made = refl;
    sent = refl;
    sent_by = sent_now;
    all_sent = λ serial is entry there moved. sent_if (serial == 1) is entry there moved;
  }
