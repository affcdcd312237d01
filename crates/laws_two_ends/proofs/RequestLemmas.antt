-- Requests are issued where none is under way.
use Rattle.std.proofs.Common.{◌≡◌, ◌+◌, ◌||◌, ℕ, cond, Some, ap, arith, refl, subst, sym, ◌∙◌}
use Rattle.std.proofs.lemmas.Bool.{true≢false, eq-eqb}
use Rattle.std.specs.Cmp.{nat_cmp_total, unsigned_tied}
use Rattle.std.specs.FinMap as map
use Rattle.std.specs.FinSet as set
use Rattle.std.specs.Ordering.{nat_cmp}
use Rattle.requests.specs.Numbers.{HasNumber, LacksNumber}
use Rattle.requests.specs.Outgoing.{none_issued, number_0_answered, MayIssue, OwnRequests}
use Rattle.association.specs.declared.phase.Request.{Request}
use Rattle.association.specs.Issuing.{IssuesNext}

-- with room for one more
abbrev ready : OwnRequests Request → OwnRequests Request
ready old = record old { room = 1 }

-- that one is issued
abbrev pub after : OwnRequests Request → Request → OwnRequests Request
after old request = record old { next = old.next + 1; outstanding = map.insert old.outstanding old.next request; room = 0 }

issues : (old : OwnRequests Request) (request : Request) → old.room ≡ 0 → MayIssue (ready old) → IssuesNext old request (after old request)
issues old request room allowed = record {
  ready = ready old;
  prepared = record { content = refl; room = omega (arith, room) };
  issued = record { allowed = allowed; least = refl; content = refl; room = refl };
}

pub first_issued : (request : Request) → IssuesNext none_issued request (after none_issued request)
first_issued request = issues none_issued request refl (record {
  not_busy = λ busy. let full = busy.full in absurd (omega (arith, full));
  not_spent = λ spent. absurd (omega (arith, spent));
})

abbrev none_out : map.FinMap nat_cmp Request
none_out = map.empty

abbrev first_answered : set.FinSet nat_cmp
first_answered = set.insert set.empty 0

pub in_it : (numbers : set.FinSet nat_cmp) (k : ℕ) → HasNumber (set.insert numbers k) k
in_it numbers k = set.contains-insert nat_cmp_total numbers k k ∙ ap (λ b. b || set.contains numbers k) (unsigned_tied k k ∙ eq-eqb k k refl)

pub second_issued : (request : Request) → IssuesNext number_0_answered request (after number_0_answered request)
second_issued request = issues number_0_answered request refl (record {
  not_busy = λ busy. let full = busy.full in
      let none : busy.gap ≡ 0 = omega (arith, full) in
      let missing : LacksNumber first_answered 0 = subst (λ (n : ℕ). LacksNumber first_answered n) none busy.is_gap.missing in
      absurd (true≢false (sym (in_it set.empty 0) ∙ missing));
  not_spent = λ spent. absurd (omega (arith, spent));
})

pub first_waits : (request : Request) → map.get (after none_issued request).outstanding 0 ≡ Some request
first_waits request = map.get-insert nat_cmp_total none_out 0 request 0 ∙ ap (λ b. cond b (Some request) (map.get none_out 0)) (unsigned_tied 0 0 ∙ eq-eqb 0 0 refl)
