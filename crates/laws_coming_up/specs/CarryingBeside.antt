-- A packet between two ends whose tunnel came up beside others (RFC 4301 sections 5.1 and 5.2; RFC 4303
-- section 3). It goes by the new tunnel, whatever pairs of old ones both ends still hold.
use Rattle.std.specs.Prelude.{◌≡◌, ◌+◌, ℕ, false, Some}
use Rattle.base.specs.Octets.{Octets}
use Rattle.policy.specs.Decisions.{Covers}
use Rattle.policy.specs.declared.entry.Action.TheVariants.{Protect}
use Rattle.policy.specs.declared.flow.Flow.{Flow}
use Rattle.policy.specs.declared.policy.Direction.TheVariants.{Outward}
use Rattle.exchange.specs.declared.headers.Role.{Role}
use Rattle.sadb.specs.Database.{pair_at}
use Rattle.children.specs.Pairs.{local_of, remote_of}
use Rattle.children.specs.Terms.{Terms}
use Rattle.effects.specs.Taking.{Meaning}
use Rattle.traffic.specs.Sending.{IsDecided}
use Rattle.gateway.specs.Histories.{IsPassage, Passage}
use Rattle.gateway.specs.Inputs as input
use Rattle.gateway.specs.Outputs.{wants_memory, Sealed, Up}
use Rattle.gateway.specs.States.{State}
use Rattle.laws_coming_up.specs.ComingUpBeside.{pair_in, Meeting}

-- The end of this role holds its pair of the Child SA as IKE_AUTH made it: it belongs to the IKE SA with the
-- serial `ike`, and has sent and received nothing. The pair's own serial is `serial`, and none came later.
pub record HoldsNewPair {C : Type 0} (role : Role) (d : Meeting) (ike serial : ℕ) (terms : Terms) (s : State C) : Type 0 where
  pub there : pair_at s.table.pairs serial ≡ Some (record (pair_in role s.machine.config d ike terms) { serial = serial })
  pub last : s.table.next ≡ serial + 1

-- The packet is given to go out at the end of this role, whose policy protects its flow. The terms of the
-- Child SA cover that, and memory doesn't run out.
pub record IsToGoOutBeside {C : Type 0} (role : Role) (terms : Terms) (packet : Octets) (u : Passage C) : Type 0 where
  pub given : u.given ≡ input.Outward packet
  pub flow : Flow
  pub protected : IsDecided u.before.entries Outward packet flow Protect
  pub covered : Covers (local_of role terms) (remote_of role terms) flow
  pub memory : wants_memory u.said ≡ false

-- At the one step the packet goes out sealed, as the first of the pair with this serial. At the other it goes
-- up by the pair with that one, whole and unchanged.
pub record GoesThroughBeside {C : Type 0} (packet : Octets) (near far : ℕ) (u v : Passage C) : Type 0 where
  pub octets : Octets
  pub sealed : u.said ≡ Sealed near 1 octets
  pub up : v.said ≡ Up far 1 packet

-- what goes out at the one step as the first ESP packet of the pair comes at the other
abbrev pub Arrives : {C : Type 0} → ℕ → Passage C → Passage C → Type 0
Arrives {C} serial u v = (octets : Octets) → u.said ≡ Sealed serial 1 octets → v.given ≡ input.Esp octets

-- Whichever packet is given to go out at the end of this role, as the first thing after it was left so, goes
-- through by the pairs with these serials: its octets come to the other end, as the first thing after that
-- was left so.
abbrev pub CarriesTheFirstBeside : {C : Type 0} → (C → Meaning) → Role → Terms → ℕ → ℕ → State C → State C → Type 0
CarriesTheFirstBeside {C} meaning_of role terms serial far_serial near far = (packet : Octets) (u v : Passage C)
    → IsPassage meaning_of u → u.before ≡ near → IsToGoOutBeside role terms packet u
    → IsPassage meaning_of v → v.before ≡ far → Arrives serial u v
    → GoesThroughBeside packet serial far_serial u v
