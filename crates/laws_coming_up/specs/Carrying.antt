-- A packet between two ends whose tunnel came up (RFC 4301 sections 5.1 and 5.2; RFC 4303 section 3).
use Rattle.std.specs.Prelude.{◌≡◌, false, ℕ}
use Rattle.base.specs.Octets.{Octets}
use Rattle.policy.specs.Decisions.{Covers}
use Rattle.policy.specs.declared.entry.Action.TheVariants.{Protect}
use Rattle.policy.specs.declared.flow.Flow.{Flow}
use Rattle.policy.specs.declared.policy.Direction.TheVariants.{Outward}
use Rattle.exchange.specs.declared.headers.Role.{Role}
use Rattle.children.specs.Pairs.{local_of, remote_of}
use Rattle.children.specs.Terms.{Terms}
use Rattle.effects.specs.Taking.{Meaning}
use Rattle.traffic.specs.Sending.{IsDecided}
use Rattle.gateway.specs.Histories.{IsPassage, Passage}
use Rattle.gateway.specs.Inputs as input
use Rattle.gateway.specs.Outputs.{wants_memory, Sealed, Up}
use Rattle.gateway.specs.States.{State}
use Rattle.laws_opening.specs.Opened.{Opening, Side}
use Rattle.laws_coming_up.specs.ComingUp.{pair_on, table_with, IsUp}

-- the end of this role holds its pair of the Child SA as IKE_AUTH left it
pub record HoldsItsPair {C : Type 0} (role : Role) (own other : Side) (caller : C) (o : Opening) (terms : Terms) (s : State C) : Type 0 where
  pub room : ℕ
  pub up : IsUp role own other caller o (table_with own.start (pair_on role own o terms) room) s

-- The packet is given to go out at the end of this role, whose policy protects its flow. The terms of the
-- Child SA cover that, and memory doesn't run out.
pub record IsToGoOut {C : Type 0} (role : Role) (own : Side) (terms : Terms) (packet : Octets) (u : Passage C) : Type 0 where
  pub given : u.given ≡ input.Outward packet
  pub flow : Flow
  pub protected : IsDecided own.entries Outward packet flow Protect
  pub covered : Covers (local_of role terms) (remote_of role terms) flow
  pub memory : wants_memory u.said ≡ false

-- At the one step the packet goes out sealed, as the first of the Child SA. At the other it goes up, whole
-- and unchanged.
pub record GoesThrough {C : Type 0} (packet : Octets) (u v : Passage C) : Type 0 where
  pub octets : Octets
  pub sealed : u.said ≡ Sealed 1 1 octets
  pub up : v.said ≡ Up 1 1 packet

-- Whichever packet is given to go out at the end of this role, as the first thing after it was left so, goes
-- through: its octets come to the other end, as the first thing after that was left so.
abbrev pub CarriesTheFirst : {C : Type 0} → (C → Meaning) → Role → Side → Terms → State C → State C → Type 0
CarriesTheFirst {C} meaning_of role own terms near far = (packet : Octets) (u v : Passage C)
    → IsPassage meaning_of u → u.before ≡ near → IsToGoOut role own terms packet u
    → IsPassage meaning_of v → v.before ≡ far → ((octets : Octets) → u.said ≡ Sealed 1 1 octets → v.given ≡ input.Esp octets)
    → GoesThrough packet u v
