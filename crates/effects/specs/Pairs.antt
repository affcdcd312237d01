-- What a message leaves of the SA pairs in the table (RFC 4301 section 4.4.2).
use Rattle.std.specs.Prelude.{◌≡◌, ◌≢◌, ◌⊎◌, ◌<◌, ◌≤◌, ℕ, Some}
use Rattle.replay.specs.Window.{unused_window}
use Rattle.sadb.specs.Database.{pair_at, Database}
use Rattle.sadb.specs.declared.pair.Pair.{Pair}
use Rattle.sadb.specs.declared.pair.State.TheVariants.{Live}

-- an SA pair of this IKE SA by which no sequence number was sent or taken
pub record IsUnused (ike : ℕ) (pair : Pair) : Type 0 where
  pub its : pair.ike ≡ ike
  pub live : pair.state ≡ Live
  pub last : pair.outbound.last ≡ 0
  pub blocks : ℕ
  pub window : pair.inbound.window ≡ unused_window blocks

-- it is new, under the next serial
pub record ComesNext (old : Database) (ike serial : ℕ) (pair : Pair) : Type 0 where
  pub in_order : serial ≡ old.next
  pub unused : IsUnused ike pair

-- Each SA pair is as it was, or is new; and those of other IKE SAs stay.
pub record LeavesPairs (old : Database) (ike : ℕ) (new : Database) : Type 0 where
  pub start : new.start ≡ old.start
  pub given : old.given ≤ new.given
  pub next : old.next ≤ new.next
  pub each : (serial : ℕ) (pair : Pair) → pair_at new.pairs serial ≡ Some pair → (pair_at old.pairs serial ≡ Some pair) ⊎ ComesNext old ike serial pair
  pub others : (serial : ℕ) (pair : Pair) → serial < old.next → pair_at old.pairs serial ≡ Some pair → pair.ike ≢ ike → pair_at new.pairs serial ≡ Some pair
