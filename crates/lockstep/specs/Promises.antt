-- What is promised of two ends that hold one IKE SA, in each direction: of the requests of one of them
-- (RFC 7296 sections 2.1 to 2.3).
use Rattle.std.specs.Prelude.{◌≡◌, ◌⊎◌, ◌↔◌, ◌+◌, ◌<◌, ◌≤◌, ℕ, zero, suc, Some, if◌then◌else◌}
use Rattle.std.specs.FinSet as set
use Rattle.exchange.specs.Headers.{other_role}
use Rattle.requests.specs.Numbers.{HasNumber, IsGap, LacksNumber, NumberSet}
use Rattle.effects.specs.Moves.{Ledger}
use Rattle.lockstep.specs.Histories.{Ends}
use Rattle.lockstep.specs.Soundness.{IsWide}

-- One end holds the IKE SA by the one ledger and the other by the other, one of them as its initiator
-- and one as its responder.
pub record AreHeld (ends : Ends) (asking answering : Ledger) : Type 0 where
  pub held : ((ends.one.ledger ≡ Some asking) × (ends.other.ledger ≡ Some answering)) ⊎ ((ends.other.ledger ≡ Some asking) × (ends.one.ledger ≡ Some answering))
  pub roles : answering.role ≡ other_role asking.role

-- Of the requests of the end that asks: what is in effect at the other was issued by it, and what it counts
-- as answered is in effect there.
pub record AreIssuedAndInEffect (asking answering : Ledger) : Type 0 where
  pub issued : (n : ℕ) → HasNumber answering.in_effect n → n < asking.next
  pub in_effect : (n : ℕ) → HasNumber asking.answered n → HasNumber answering.in_effect n

-- a request that was issued and is not answered
pub record IsUnderWay (asking : Ledger) (n : ℕ) : Type 0 where
  pub issued : n < asking.next
  pub unanswered : LacksNumber asking.answered n

-- how many of the numbers below an end are not in the set
abbrev pub lacking_below : NumberSet → ℕ → ℕ
lacking_below numbers zero = 0
lacking_below numbers (suc n) = (if set.contains numbers n then 0 else 1) + lacking_below numbers n

-- The windows: at the end that answers all numbers below the gap are in effect, and none from a window
-- above it on. At the one that asks, what is under way lies in the window that it counts for its peer,
-- which begins at the least number that is not answered, and so is no more than that window.
pub record AreWithinWindows (asking answering : Ledger) : Type 0 where
  pub gap : ℕ
  pub is_gap : IsGap answering.in_effect gap
  pub size : IsWide answering.size
  pub none_above : (n : ℕ) → gap + answering.size ≤ n → LacksNumber answering.in_effect n
  pub unanswered : ℕ
  pub is_unanswered : IsGap asking.answered unanswered
  pub window : IsWide asking.window
  pub all_within : asking.next ≤ unanswered + asking.window
  pub few : lacking_below asking.answered asking.next ≤ asking.window
  pub under_way : (n : ℕ) → IsUnderWay asking n → (unanswered ≤ n) × (n < unanswered + asking.window)
  -- the end that asks is never ahead of the other
  pub behind : unanswered ≤ gap

-- Step by step: the requests in effect at the other end are the first `taken`, those that are answered the
-- first `counted`, none skipped, and at most one is under way. IKE_SA_INIT is counted in both for the
-- initiator's requests.
pub record AreInStep (asking answering : Ledger) : Type 0 where
  pub taken : ℕ
  pub in_effect : (n : ℕ) → HasNumber answering.in_effect n ↔ (n < taken)
  pub counted : ℕ
  pub answered : (n : ℕ) → HasNumber asking.answered n ↔ (n < counted)
  pub no_more_counted : counted ≤ taken
  pub no_more_issued : taken ≤ asking.next
  pub one_under_way : asking.next ≤ counted + 1
  pub one_ahead : taken ≤ counted + 1
