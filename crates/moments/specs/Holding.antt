-- What a tick leaves of the IKE SAs and of the table (RFC 7296 sections 2.1 and 2.4; RFC 4301 section 4.4.2).
use Rattle.std.specs.Prelude.{◌≡◌, ◌⊎◌, ◌∷◌, ℕ, false, Some, List, [], slice_get}
use Rattle.std.specs.FinMap as map
use Rattle.sadb.specs.Database.{pair_at, Database}
use Rattle.sadb.specs.declared.pair.Pair.{Pair}
use Rattle.association.specs.Closing.{HoldsSpi}
use Rattle.association.specs.declared.phase.Association.{Association}
use Rattle.association.specs.declared.phase.Request.{Request}
use Rattle.moments.specs.Due.{has_failed}
use Rattle.moments.specs.Held.{IsClosedAt}

-- a request of these octets and this purpose was outstanding under this Message ID
pub record WasOutstanding (a : Association) (number : ℕ) (request : Request) : Type 0 where
  pub was : Request
  pub there : map.get a.outgoing.outstanding number ≡ Some was
  pub octets : request.octets ≡ was.octets
  pub purpose : request.purpose ≡ was.purpose

-- it stays in its phase, or is closed at this time
abbrev pub StaysOrCloses : ℕ → Association → Association → Type 0
StaysOrCloses now a b = ((has_failed now a ≡ false) × (b.phase ≡ a.phase)) ⊎ IsClosedAt now a b

-- the IKE SA is held on: it stays itself, keeps its cached responses, and no request comes
pub record HoldsOn (now : ℕ) (a b : Association) : Type 0 where
  pub serial : b.serial ≡ a.serial
  pub role : b.role ≡ a.role
  pub spi_i : b.spi_i ≡ a.spi_i
  pub spi_r : b.spi_r ≡ a.spi_r
  pub incoming : b.incoming ≡ a.incoming
  pub next : b.outgoing.next ≡ a.outgoing.next
  pub answered : b.outgoing.answered ≡ a.outgoing.answered
  pub window : b.outgoing.window ≡ a.outgoing.window
  pub requests : (number : ℕ) (request : Request) → map.get b.outgoing.outstanding number ≡ Some request → WasOutstanding a number request
  pub phase : StaysOrCloses now a b

-- the first is held on, and of the others some are
abbrev pub HoldsFirst : ℕ → Association → (List Association → Type 0) → List Association → Type 0
HoldsFirst now a Rest [] = ⊥
HoldsFirst now a Rest (b ∷ others) = HoldsOn now a b × Rest others

-- some are held on, in their order, and no other comes
abbrev pub HoldSome : ℕ → List Association → List Association → Type 0
HoldSome now [] new = new ≡ []
HoldSome now (a ∷ rest) new = HoldSome now rest new ⊎ HoldsFirst now a (λ others. HoldSome now rest others) new

-- SA pairs go, and none comes or is changed; no SPI is given
pub record LeavesFewer (old new : Database) : Type 0 where
  pub start : new.start ≡ old.start
  pub given : new.given ≡ old.given
  pub next : new.next ≡ old.next
  pub each : (serial : ℕ) (pair : Pair) → pair_at new.pairs serial ≡ Some pair → pair_at old.pairs serial ≡ Some pair

-- no IKE SA holds the SPI for a Child SA whose peer is gone
abbrev pub HoldsNone : ℕ → List Association → ℕ → Type 0
HoldsNone now old spi = (place : ℕ) (a : Association) → slice_get old place ≡ Some a → HoldsSpi a spi → has_failed now a ≡ false
