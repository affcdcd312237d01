-- What is sealed at one end of a world and comes to the other (RFC 4301 sections 5.1 and 5.2; RFC 4303
-- sections 3.3 and 3.4).
use Rattle.std.specs.Prelude.{◌≡◌, ◌+◌, ◌^◌, ◌<◌, ◌≤◌, ℕ, Bool, true, false, List, Some, slice_get}
use Rattle.std.specs.FinSet as set
use Rattle.base.specs.Octets.{Octets}
use Rattle.replay.specs.Window.{Seen}
use Rattle.esp.specs.Sealing.{HasNumber}
use Rattle.policy.specs.declared.entry.Action.TheVariants.{Protect}
use Rattle.policy.specs.declared.flow.Flow.{Flow}
use Rattle.policy.specs.declared.policy.Direction.TheVariants.{Outward}
use Rattle.sadb.specs.Database.{pair_at, IsOutbound}
use Rattle.sadb.specs.Mirrors.{Mirrors}
use Rattle.sadb.specs.declared.pair.Pair.{Pair}
use Rattle.traffic.specs.Sending.{IsDecided}
use Rattle.gateway.specs.Inputs as input
use Rattle.gateway.specs.Outputs.{Sealed}
use Rattle.gateway.specs.WorldHistories.{Happening}
use Rattle.gateway.specs.WorldPackets.{HoldsPairOf}
use Rattle.gateway.specs.Worlds.{gateway_at}
use Rattle.gateway.specs.declared.world.stored.Child.{Child}

-- At this step a packet was given to go out which the policy protects, and this SA pair is the newest Live
-- one whose selectors hold its flow. It has a sequence number left (RFC 4301 section 5.1; RFC 4303 section
-- 3.3.3).
pub record IsToGoBy {C : Type 0} (pair : Pair) (packet : Octets) (h : Happening C) : Type 0 where
  pub given : h.event.input ≡ input.Outward packet
  pub flow : Flow
  pub protected : IsDecided (gateway_at h.event.end h.before).entries Outward packet flow Protect
  pub held : pair_at (gateway_at h.event.end h.before).table.pairs pair.serial ≡ Some pair
  pub carries : IsOutbound (gateway_at h.event.end h.before).table.pairs flow pair.serial
  pub number_left : HasNumber pair.outbound

-- At this step a packet was given to go out, and the SA pair that stood under this serial sealed it, as
-- this sequence number, into these octets (RFC 4301 section 5.1; RFC 4303 section 3.3).
pub record IsSealedBy {C : Type 0} (pair : Pair) (child number : ℕ) (packet octets : Octets) (h : Happening C) : Type 0 where
  pub given : h.event.input ≡ input.Outward packet
  pub said : h.said ≡ Sealed child number octets
  pub stood : pair_at (gateway_at h.event.end h.before).table.pairs child ≡ Some pair

-- At some step of the list this packet was sealed so, by a pair that this one mirrors: what either sends,
-- the other receives, under the same SPI and key and with numbers of one length, and what is local to one
-- is remote to the other (RFC 4301 section 4.1).
pub record WasSealedFor {C : Type 0} (mirror : Pair) (number : ℕ) (packet octets : Octets) (happenings : List (Happening C)) : Type 0 where
  pub place : ℕ
  pub happening : Happening C
  pub there : slice_get happenings place ≡ Some happening
  pub child : ℕ
  pub pair : Pair
  pub sealed : IsSealedBy pair child number packet octets happening
  pub mirrors : Mirrors pair mirror

-- At this step these octets, whatever SPI they begin with, came as an ESP packet to an end that held this
-- SA pair, Live or Deleting (RFC 4301 section 5.2; RFC 4303 section 3.4).
pub record ComesTo {C : Type 0} (pair : Pair) (octets : Octets) (h : Happening C) : Type 0 where
  pub given : h.event.input ≡ input.Esp octets
  pub held : pair_at (gateway_at h.event.end h.before).table.pairs pair.serial ≡ Some pair

-- A sequence number that was sealed, so not 0 and within the limit, may be accepted by a window: it was not
-- taken, it doesn't lie below the window, and with ESN it is less than 2^32 above the window's lower edge, so
-- that it is rightly recovered from its low half (RFC 4303 sections 2.2.1 and 3.4.3 and appendix A2). Bounds
-- are stated by sums, since that edge may lie below 0.
pub record MayBeAccepted (extended : Bool) (w : Seen) (number : ℕ) : Type 0 where
  pub new : set.contains w.taken number ≡ false
  pub in_reach : w.top < number + w.size
  pub recovered : extended ≡ true → number + w.size ≤ w.top + 2 ^ 32

-- At this step a packet was given to go out at the end of this Child SA, whose pair sealed it, as this
-- sequence number, into these octets.
pub record IsSealedFrom {C : Type 0} (child : Child) (number : ℕ) (packet octets : Octets) (h : Happening C) : Type 0 where
  pub end_is : h.event.end ≡ child.end
  pub given : h.event.input ≡ input.Outward packet
  pub said : h.said ≡ Sealed child.serial number octets

-- At this step these octets came as an ESP packet to the end of this Child SA, which held this pair of it.
pub record ComesToChild {C : Type 0} (child : Child) (pair : Pair) (octets : Octets) (h : Happening C) : Type 0 where
  pub end_is : h.event.end ≡ child.end
  pub given : h.event.input ≡ input.Esp octets
  pub held : HoldsPairOf child pair h.before

-- this pair sealed a packet at this step, as its next sequence number
pub record SealsItsNext {C : Type 0} (pair : Pair) (packet : Octets) (h : Happening C) : Type 0 where
  pub octets : Octets
  pub sealed : IsSealedBy pair pair.serial (pair.outbound.last + 1) packet octets h
