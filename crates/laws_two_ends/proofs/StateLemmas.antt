-- Both gateways of the worked world are sound.
use Rattle.std.proofs.Common.{◌≡◌, ◌<◌, ◌≤◌, ℕ, Bool, true, false, cond, Some, None, length, arith, subst, sym}
use Rattle.std.specs.FinMap as map
use Rattle.requests.specs.Timers.{due_from, waits}
use Rattle.requests.specs.declared.timer.Timer.{Timer}
use Rattle.association.specs.declared.phase.Association.{Association}
use Rattle.association.specs.declared.phase.Request.{Request}
use Rattle.moments.specs.Due.{is_over}
use Rattle.moments.specs.Held.{began, IsInTime}
use Rattle.laws_two_ends.proofs.WorkedRequestLemmas.{same_association}

-- ---- the IKE SAs

-- what went out at time 0 and was not repeated
abbrev first_timer : Timer
first_timer = record { sent = 0; repeats = 0 }

pub in_time_if : (a : Association) → is_over 0 a.phase ≡ false → began a.phase ≤ 0
    → ((n : ℕ) (r : Request) → map.get a.outgoing.outstanding n ≡ Some r → r.timer ≡ first_timer) → IsInTime 0 a
in_time_if a held since timers = record {
  nothing_due = record { held = held; none_due = λ n r is. subst (λ (t : Timer). 0 < due_from t) (sym (timers n r is)) (omega arith) };
  begun = record {
    since = since;
    sent = λ n r is. subst (λ (t : Timer). t.sent ≤ 0) (sym (timers n r is)) (omega arith);
    often = λ n r is. subst (λ (t : Timer). t.repeats ≤ length waits) (sym (timers n r is)) (omega arith);
  };
}

-- ---- the gateways

pub found_is : (passes : Bool) (a b : Association) → cond passes (Some a) None ≡ Some b → a ≡ b
found_is true a b is = same_association a b is
found_is false a b is = absurd cc
