-- When something is due next (RFC 7296 sections 2.1 and 2.4). Times are in milliseconds, and of 64 bits.
use Rattle.std.specs.Prelude.{◌≡◌, ◌⊎◌, ◌<◌, ◌^◌, ℕ, true, Option, Some, None, List, All, Contains, min}
use Rattle.std.specs.FinMap as numbers
use Rattle.association.specs.declared.phase.Association.{Association}
use Rattle.association.specs.declared.phase.Request.{Request}
use Rattle.moments.specs.Due.{is_due, is_over, is_unanswered}
use Rattle.moments.specs.Held.{HasNothingDue}

-- a time lies before another one; before none, which never comes, each lies
abbrev pub IsBefore : ℕ → Option ℕ → Type 0
IsBefore now None = Unit {0}
IsBefore now (Some moment) = now < moment

-- at no time before it anything is due of these IKE SAs
abbrev pub NothingIsDueBefore : Option ℕ → List Association → Type 0
NothingIsDueBefore moment associations = (now : ℕ) → now < 2 ^ 64 → IsBefore now moment → All (HasNothingDue now) associations

-- a request of it goes out again, or was sent for the last time and not answered in time
pub record SomeRequestIsDue (now : ℕ) (a : Association) : Type 0 where
  pub number : ℕ
  pub request : Request
  pub there : numbers.get a.outgoing.outstanding number ≡ Some request
  pub due : (is_due now request ≡ true) ⊎ (is_unanswered now request ≡ true)

-- the tick has reached something of it: it is over, or one of its requests is due
abbrev pub HasSomethingDue : ℕ → Association → Type 0
HasSomethingDue now a = (is_over now a.phase ≡ true) ⊎ SomeRequestIsDue now a

-- or of one of these IKE SAs
pub record SomethingIsDue (now : ℕ) (associations : List Association) : Type 0 where
  pub association : Association
  pub held : Contains associations association
  pub due : HasSomethingDue now association

-- the earlier one of two times that may never come
abbrev pub earlier : Option ℕ → Option ℕ → Option ℕ
earlier None other = other
earlier (Some one) None = Some one
earlier (Some one) (Some other) = Some (min one other)
