-- This end's requests: as they begin, after each call, and what holds of them always.
use Rattle.std.proofs.Common.{◌≡◌, ◌+◌, ◌<◌, ◌^◌, ℕ, IsSome, is_some, nat_lt, arith, sym, ap, ◌∙◌, refl, inl, inr}
use Rattle.std.proofs.lemmas.Bool.{true≢false}
use Rattle.std.proofs.lemmas.Bool.Decides.{eqb_tells, leb_tells}
use Rattle.std.specs.Ordering.{nat_cmp}
use Rattle.std.specs.FinMap as map
use Rattle.std.specs.FinSet as set
use Rattle.requests.specs.Numbers.{NumberSet, LacksNumber, IsGap}
use Rattle.requests.specs.Outgoing.{IsSoundOutgoing, MayIssue}
use Rattle.requests.specs.Storage.{AreOutgoing}
use Rattle.requests.proofs.CountLemmas.{few_numbers, few_items, has_gap}
use Rattle.requests.proofs.EntryLemmas.{inserted_apart, removed_here, removed_apart}
use Rattle.requests.proofs.SetLemmas.{member_apart, none_in_empty, in_or_out, above_gap, gap_rises, missing_from, present_below}

none_of_empty : {X : Type 0} (m : map.FinMap nat_cmp X) → m ≡ map.empty → (n : ℕ) → ¬ IsSome (map.get m n)
none_of_empty m none n there = true≢false (sym there ∙ ap (λ o. is_some (map.get o n)) none ∙ ap is_some (map.get-empty nat_cmp n))

module _ {X : Type 0} where
  pub begins_unissued : (s : NumberSet) (m : map.FinMap nat_cmp X) → s ≡ set.empty → m ≡ map.empty → AreOutgoing 0 1 s m
  begins_unissued s m empty none = record {
    some = omega arith;
    most = omega arith;
    next_fits = omega arith;
    issued = λ n has. absurd (true≢false (sym has ∙ ap (λ (t : NumberSet). set.contains t n) empty ∙ none_in_empty n));
    few = λ gap is_gap. omega arith;
    waits = λ n there. absurd (none_of_empty m none n there);
  }

  pub begins_answered : (s : NumberSet) (m : map.FinMap nat_cmp X) → s ≡ set.insert set.empty 0 → m ≡ map.empty → AreOutgoing 1 1 s m
  begins_answered s m zero none = record {
    some = omega arith;
    most = omega arith;
    next_fits = omega arith;
    issued = λ n has. elim (eqb_tells n 0) [
      | inl (_, same) ↦ omega arith
      | inr (_, apart) ↦ absurd (true≢false (sym has ∙ ap (λ (t : NumberSet). set.contains t n) zero ∙ member_apart set.empty 0 n apart ∙ none_in_empty n))
    ];
    few = λ gap is_gap. omega arith;
    waits = λ n there. absurd (none_of_empty m none n there);
  }

  pub begins_below : (s : NumberSet) (m : map.FinMap nat_cmp X) (next : ℕ) → next < 2 ^ 32 → ((q : ℕ) → set.contains s q ≡ nat_lt q next) → m ≡ map.empty → AreOutgoing next 1 s m
  begins_below s m next small are none = record {
    some = omega arith;
    most = omega arith;
    next_fits = omega arith;
    issued = λ n has. present_below s next n are has;
    few = λ gap is_gap. (let from = missing_from s next gap are is_gap.missing in omega arith);
    waits = λ n there. absurd (none_of_empty m none n there);
  }

  module _ (next window room : ℕ) (s : NumberSet) (m : map.FinMap nat_cmp X) (are : AreOutgoing next window s m) where
    not_answered : LacksNumber s next
    not_answered = elim (in_or_out s next) [ inl has ↦ absurd (let less = are.issued next has in omega arith) | inr lacks ↦ lacks ]

    pub issues : (x : X) → MayIssue (record { next = next; answered = s; window = window; outstanding = m; room = room }) → AreOutgoing (next + 1) window s (map.insert m next x)
    issues x may = record {
      some = are.some;
      most = are.most;
      next_fits = elim (leb_tells (2 ^ 32) next) [ inl (_, spent) ↦ absurd (may.not_spent spent) | inr (_, less) ↦ omega arith ];
      issued = λ n has. let less = are.issued n has in omega arith;
      few = λ gap is_gap. elim (leb_tells (gap + window) next) [
        | inl (_, full) ↦ absurd (may.not_busy (record { gap = gap; is_gap = is_gap; full = full }))
        | inr (_, less) ↦ omega arith
      ];
      waits = λ n there. elim (eqb_tells n next) [
        | inl (_, same) ↦ (omega arith, ap (set.contains s) same ∙ not_answered)
        | inr (_, apart) ↦
            (let was = are.waits n (ap is_some (sym (inserted_apart m next n x apart)) ∙ there) in
            let less = was.0 in
            (omega arith, was.1))
      ];
    }

    pub counts : (number : ℕ) → IsSome (map.get m number) → AreOutgoing next window (set.insert s number) (map.remove m number)
    counts number there =
        let waited = are.waits number there in
        let old = has_gap s next are.issued in
        record {
          some = are.some;
          most = are.most;
          next_fits = are.next_fits;
          issued = λ n has. elim (eqb_tells n number) [
            | inl (_, same) ↦ (let less = waited.0 in omega arith)
            | inr (_, apart) ↦ are.issued n (sym (member_apart s number n apart) ∙ has)
          ];
          few = λ gap is_gap. (let rises = gap_rises s number old.0 gap old.1 is_gap in let few = are.few old.0 old.1 in omega arith);
          waits = λ n left. elim (eqb_tells n number) [
            | inl (_, same) ↦ absurd (true≢false (sym left ∙ ap is_some (removed_here m number n same)))
            | inr (_, apart) ↦
                (let was = are.waits n (ap is_some (sym (removed_apart m number n apart)) ∙ left) in
                (was.0, member_apart s number n apart ∙ was.1))
          ];
        }

    pub replaces : (number : ℕ) (x : X) → IsSome (map.get m number) → AreOutgoing next window s (map.insert m number x)
    replaces number x there = record {
      some = are.some;
      most = are.most;
      next_fits = are.next_fits;
      issued = are.issued;
      few = are.few;
      waits = λ n has. elim (eqb_tells n number) [
        | inl (_, same) ↦ are.waits n (ap (λ (q : ℕ). is_some (map.get m q)) same ∙ there)
        | inr (_, apart) ↦ are.waits n (ap is_some (sym (inserted_apart m number n x apart)) ∙ has)
      ];
    }

    pub withdraws : (number : ℕ) → AreOutgoing {T = X} next window s (map.remove m number)
    withdraws number = record {
      some = are.some;
      most = are.most;
      next_fits = are.next_fits;
      issued = are.issued;
      few = are.few;
      waits = λ n left. elim (eqb_tells n number) [
        | inl (_, same) ↦ absurd (true≢false (sym left ∙ ap is_some (removed_here m number n same)))
        | inr (_, apart) ↦ are.waits n (ap is_some (sym (removed_apart m number n apart)) ∙ left)
      ];
    }

    pub gives_up : AreOutgoing {T = X} next window s map.empty
    gives_up = record {
      some = are.some;
      most = are.most;
      next_fits = are.next_fits;
      issued = are.issued;
      few = are.few;
      waits = λ n there. absurd (none_of_empty map.empty refl n there);
    }

    pub outgoing_sound : (gap : ℕ) → IsGap s gap → IsSoundOutgoing (record { next = next; answered = s; window = window; outstanding = m; room = room })
    outgoing_sound gap is_gap = let few = are.few gap is_gap in record {
      some = are.some;
      most = are.most;
      next_fits = are.next_fits;
      answered_issued = are.issued;
      gap = gap;
      is_gap = is_gap;
      in_window = few;
      few = λ numbers each. few_numbers window gap numbers (λ q has. let one = each q has in let less = one.issued in (above_gap s gap q is_gap one.open_yet, omega arith));
      outstanding_unanswered = λ n there. let was = are.waits n there in record { issued = was.0; open_yet = was.1 };
      few_outstanding = few_items window gap m (λ q there. let was = are.waits q there in let less = was.0 in (above_gap s gap q is_gap was.1, omega arith));
    }
