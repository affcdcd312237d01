-- What is due of an IKE SA at a time (RFC 7296 sections 2.1 and 2.4). Times are in milliseconds.
use Rattle.std.specs.Prelude.{◌≡◌, ◌==◌, ◌+◌, ◌&&◌, ◌∷◌, ℕ, Bool, true, false, not, List, [], Contains, length, map, nat_le, nat_lt, if◌then◌else◌}
use Rattle.std.specs.FinMap as numbers
use Rattle.std.specs.List.{filter, list_any, sum_by}
use Rattle.std.specs.Option.{option_map}
use Rattle.wire.specs.Numbers.{IKE_SA_INIT}
use Rattle.requests.specs.Timers.{due_from, waits}
use Rattle.association.specs.Purposes.{exchange_of}
use Rattle.association.specs.declared.phase.Association.{Association}
use Rattle.association.specs.declared.phase.Phase.{Phase}
use Rattle.association.specs.declared.phase.Phase.TheVariants.{HalfOpen, Closed}
use Rattle.association.specs.declared.phase.Request.{Request}
use Rattle.moments.specs.declared.resent.Resent.{Resent}

-- how long an IKE SA is held that is half-open, and one that is closed (limits of this implementation)
abbrev pub HALF_OPEN_TIME : ℕ
HALF_OPEN_TIME = 30000

abbrev pub CLOSED_TIME : ℕ
CLOSED_TIME = 120000

-- it is held no longer
abbrev pub is_over : ℕ → Phase → Bool
is_over now (HalfOpen opened) = nat_le (opened.made + HALF_OPEN_TIME) now
is_over now (Closed keys at) = nat_le (at + CLOSED_TIME) now
is_over now _ = false

-- those that still are
abbrev pub held_of : ℕ → List Association → List Association
held_of now associations = filter (λ a. not (is_over now a.phase)) associations

-- a request was sent for the last time, and no answer came in time
abbrev pub is_unanswered : ℕ → Request → Bool
is_unanswered now r = nat_le (due_from r.timer) now && nat_le (length waits) r.timer.repeats

-- it is to go out once more
abbrev pub is_due : ℕ → Request → Bool
is_due now r = nat_le (due_from r.timer) now && nat_lt r.timer.repeats (length waits)

-- the requests that wait for an answer, by rising Message ID
abbrev pub outstanding_of : Association → List (ℕ × Request)
outstanding_of a = numbers.entries a.outgoing.outstanding

-- the peer is taken to be gone (section 2.4)
abbrev pub has_failed : ℕ → Association → Bool
has_failed now a = list_any (λ e. is_unanswered now e.1) (outstanding_of a)

-- a request with this Message ID as it goes out again, the same octets (section 2.1)
abbrev pub resent : Association → ℕ × Request → Resent
resent a e = record { ike = a.serial; number = e.0; encrypted = not (exchange_of e.1.purpose == IKE_SA_INIT); octets = e.1.octets }

-- all that are due, by rising Message ID
abbrev pub due_of : ℕ → Association → List Resent
due_of now a = map (resent a) (filter (λ e. is_due now e.1) (outstanding_of a))

-- what comes of one IKE SA with a tick, by whether it is over and has failed: the requests that go out again,
-- and its serial where it is closed
abbrev pub sent_by : Bool → Bool → ℕ → Association → List Resent
sent_by true failed now a = []
sent_by false true now a = []
sent_by false false now a = due_of now a

abbrev pub closed_by : Bool → Bool → Association → List ℕ
closed_by true failed a = []
closed_by false true a = a.serial ∷ []
closed_by false false a = []

abbrev pub sent_of : ℕ → Association → List Resent
sent_of now a = sent_by (is_over now a.phase) (has_failed now a) now a

abbrev pub closed_of : ℕ → Association → List ℕ
closed_of now a = closed_by (is_over now a.phase) (has_failed now a) a

-- however late the tick, it goes out once, and the next wait runs from then
abbrev pub after_sending : ℕ → Request → Request
after_sending now r = if is_due now r then record r { timer = record { sent = now; repeats = r.timer.repeats + 1 } } else r

-- those that are due went out again, and nothing else is changed
pub record SendsAgain (now : ℕ) (old new : Association) : Type 0 where
  pub each : (number : ℕ) → numbers.get new.outgoing.outstanding number ≡ option_map (after_sending now) (numbers.get old.outgoing.outstanding number)
  pub content : new ≡ record old { outgoing = record old.outgoing { outstanding = new.outgoing.outstanding } }

-- how many requests wait for an answer, of all IKE SAs
abbrev pub outstanding_count : List Association → ℕ
outstanding_count associations = sum_by (λ a. length (outstanding_of a)) associations

-- something comes of one of these IKE SAs with the tick: a request goes out again, or the IKE SA is closed
pub record SomethingComes (now : ℕ) (associations : List Association) : Type 0 where
  pub association : Association
  pub held : Contains associations association
  pub comes : ¬ ((sent_of now association ≡ []) × (closed_of now association ≡ []))
