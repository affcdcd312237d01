-- What a tick leaves of what is held, and whose requests go out again.
use Rattle.std.specs.Prelude.{◌≡◌, ◌<◌, ◌≤◌, ◌⊎◌, ◌↔◌, ℕ, true, false, Some, List, Contains, length}
use Rattle.std.specs.FinMap as numbers
use Rattle.requests.specs.Outgoing.{GivesUpRequests}
use Rattle.requests.specs.Timers.{due_from, waits}
use Rattle.sadb.specs.Database.{pair_at, Database}
use Rattle.sadb.specs.declared.pair.Pair.{Pair}
use Rattle.association.specs.Phases.{keys_in}
use Rattle.association.specs.declared.phase.Association.{Association}
use Rattle.association.specs.declared.phase.Phase.{Phase}
use Rattle.association.specs.declared.phase.Phase.TheVariants.{Closed, HalfOpen}
use Rattle.association.specs.declared.phase.Request.{Request}
use Rattle.moments.specs.Due.{after_sending, has_failed, is_due, is_over, resent, SendsAgain}
use Rattle.moments.specs.declared.resent.Resent.{Resent}

-- this tick closed it, since its peer is gone: it waits for no answer, and what the peer may ask for again
-- stays
pub record IsClosedAt (now : ℕ) (old new : Association) : Type 0 where
  pub failed : has_failed now old ≡ true
  pub requests : GivesUpRequests old.outgoing new.outgoing
  pub content : new ≡ record old { outgoing = new.outgoing; phase = Closed (keys_in old.phase) now }

-- it is itself, with the keys that it had; it is as it was but for timers, where its peer is not gone, or
-- this tick closed it
pub record StaysItself (now : ℕ) (closed : List ℕ) (old new : Association) : Type 0 where
  pub serial : new.serial ≡ old.serial
  pub role : new.role ≡ old.role
  pub spi_i : new.spi_i ≡ old.spi_i
  pub spi_r : new.spi_r ≡ old.spi_r
  pub keys : keys_in new.phase ≡ keys_in old.phase
  pub stays : ((has_failed now old ≡ false) × SendsAgain now old new) ⊎ (IsClosedAt now old new × Contains closed old.serial)

-- what goes out again is a request that waits for an answer, due now, of an IKE SA that is held before and
-- after; it waits still
pub record IsOutstandingOf (now : ℕ) (old new : List Association) (r : Resent) : Type 0 where
  pub before : Association
  pub after : Association
  pub request : Request
  pub held_before : Contains old before
  pub held_after : Contains new after
  pub same : SendsAgain now before after
  pub there : numbers.get before.outgoing.outstanding r.number ≡ Some request
  pub due : is_due now request ≡ true
  pub resent : r ≡ resent before (r.number, request)
  pub still_there : numbers.get after.outgoing.outstanding r.number ≡ Some (after_sending now request)

-- the tick has reached nothing of it: it is not over, and none of its requests is due
pub record HasNothingDue (now : ℕ) (a : Association) : Type 0 where
  pub held : is_over now a.phase ≡ false
  pub none_due : (number : ℕ) (r : Request) → numbers.get a.outgoing.outstanding number ≡ Some r → now < due_from r.timer

-- since when an IKE SA is half-open, or closed
abbrev pub began : Phase → ℕ
began (HalfOpen opened) = opened.made
began (Closed keys at) = at
began _ = 0

-- it waits by this time: it is not half-open or closed since a later one, and none of its requests was sent
-- later, or more often than a request may go out
pub record HasBegun (now : ℕ) (a : Association) : Type 0 where
  pub since : began a.phase ≤ now
  pub sent : (number : ℕ) (r : Request) → numbers.get a.outgoing.outstanding number ≡ Some r → r.timer.sent ≤ now
  pub often : (number : ℕ) (r : Request) → numbers.get a.outgoing.outstanding number ≡ Some r → r.timer.repeats ≤ length waits

-- it waits, and nothing of it is due: so what it waits for comes when the wait that runs is over
pub record IsInTime (now : ℕ) (a : Association) : Type 0 where
  pub nothing_due : HasNothingDue now a
  pub begun : HasBegun now a

-- the SA pairs of those that are closed go, and no other pair is changed
abbrev pub LeavesPairsBut : List ℕ → Database → Database → Type 0
LeavesPairsBut closed old new = (serial : ℕ) (pair : Pair) → (pair_at new.pairs serial ≡ Some pair) ↔ ((pair_at old.pairs serial ≡ Some pair) × (¬ Contains closed pair.ike))
