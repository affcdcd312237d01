-- An IKE SA that was closed, and when its place comes free (RFC 7296 section 2.4). Times are in milliseconds.
use Rattle.std.specs.Prelude.{◌≡◌, ◌<◌, ℕ, None, Option, length}
use Rattle.suite.specs.declared.key_record.KeyRecord.{KeyRecord}
use Rattle.association.specs.declared.phase.Phase.TheVariants as phase
use Rattle.ike.specs.Moments.{StandsIn}
use Rattle.gateway.specs.Histories.{Passage}
use Rattle.gateway.specs.States.{association_in}

-- before this step, and after it, the IKE SA with this serial is closed, since this time
abbrev pub ClosedBefore : {C : Type 0} → ℕ → Option KeyRecord → ℕ → Passage C → Type 0
ClosedBefore {C} serial keys at p = StandsIn p.before.machine.held serial (phase.Closed keys at)

abbrev pub ClosedAfter : {C : Type 0} → ℕ → Option KeyRecord → ℕ → Passage C → Type 0
ClosedAfter {C} serial keys at p = StandsIn p.after.machine.held serial (phase.Closed keys at)

-- it is held no longer after this step, and fewer IKE SAs are
pub record IsRemoved {C : Type 0} (serial : ℕ) (p : Passage C) : Type 0 where
  pub gone : association_in p.after serial ≡ None
  pub fewer : length p.after.machine.held.associations < length p.before.machine.held.associations
