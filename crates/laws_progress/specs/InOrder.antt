-- What an end accepted of a Child SA before a step, and what comes in order (RFC 4303 sections 2.2.1,
-- 3.3.3 and 3.4.3). *Accepted* is what `JudgesOne` says: its number was taken, also where the packet was
-- then dropped for its content. A child is the serial of its pair at that end.
use Rattle.std.specs.Prelude.{◌≡◌, ◌⊎◌, ◌+◌, ◌^◌, ◌<◌, ◌≤◌, ℕ, true, false, List, Some, slice_get}
use Rattle.std.specs.FinSet as set
use Rattle.sadb.specs.Database.{pair_at}
use Rattle.sadb.specs.declared.pair.Pair.{Pair}
use Rattle.gateway.specs.Packets.{JudgesOne}
use Rattle.gateway.specs.States.{State}
use Rattle.gateway.specs.WorldHistories.{passage_at, Happening}
use Rattle.gateway.specs.Worlds.{gateway_at, WorldState}
use Rattle.gateway.specs.declared.world.stored.End.{End}

-- when the list begins the gateway holds a pair of the Child SA, whose window has taken this number as its
-- greatest, or has taken none and this is 0
pub record WasGreatestAtFirst {C : Type 0} (child number : ℕ) (s : State C) : Type 0 where
  pub pair : Pair
  pub held : pair_at s.table.pairs child ≡ Some pair
  pub greatest : pair.inbound.window.top ≡ number

-- at a step before this place this end accepted a packet as this number of the Child SA
pub record WasAcceptedBefore {C : Type 0} (end : End) (happenings : List (Happening C)) (place child number : ℕ) : Type 0 where
  pub earlier : ℕ
  pub before : earlier < place
  pub happening : Happening C
  pub there : slice_get happenings earlier ≡ Some happening
  pub end_is : happening.event.end ≡ end
  pub accepts : JudgesOne child number (passage_at end happening)

-- in the list; or the greatest before it, 0 where none was (for bounds the lesser ones don't matter)
abbrev pub WasAccepted : {C : Type 0} → End → WorldState C → List (Happening C) → ℕ → ℕ → ℕ → Type 0
WasAccepted {C} end old happenings place child number =
    WasGreatestAtFirst child number (gateway_at end old) ⊎ WasAcceptedBefore end happenings place child number

-- A number that was accepted, or 0, lies above this one, or so little below it that it is rightly recovered
-- from its low half: fewer than 2^32 numbers, less the window's size, lie between them.
pub record FollowsClosely {C : Type 0} (end : End) (old : WorldState C) (happenings : List (Happening C)) (place : ℕ) (pair : Pair) (number : ℕ) : Type 0 where
  pub last : ℕ
  pub was : (last ≡ 0) ⊎ WasAccepted end old happenings place pair.serial last
  pub within : number + pair.inbound.window.size ≤ last + 2 ^ 32

-- Before this place nothing was accepted of the pair's Child SA under this number, neither in the list
-- nor, as the window tells that its pair has when the list begins, before it. Nothing was accepted under a
-- number that lies a whole window above it, or more. (What the first window no longer remembers lies that
-- far below its greatest.) With ESN it follows closely on one that was accepted, or on 0.
pub record ComesInTime {C : Type 0} (end : End) (old : WorldState C) (happenings : List (Happening C)) (place : ℕ) (pair : Pair) (number : ℕ) : Type 0 where
  pub new : ¬ WasAcceptedBefore end happenings place pair.serial number
  pub new_at_first : (was : Pair) → pair_at (gateway_at end old).table.pairs pair.serial ≡ Some was → set.contains was.inbound.window.taken number ≡ false
  pub in_reach : (taken : ℕ) → WasAccepted end old happenings place pair.serial taken → taken < number + pair.inbound.window.size
  pub close : pair.inbound.association.extended ≡ true → FollowsClosely end old happenings place pair number

-- Before this place all that this end accepted of the pair's Child SA had lower numbers. With ESN this one
-- follows closely on one of these, or on 0.
pub record ComesInOrder {C : Type 0} (end : End) (old : WorldState C) (happenings : List (Happening C)) (place : ℕ) (pair : Pair) (number : ℕ) : Type 0 where
  pub above : (taken : ℕ) → WasAccepted end old happenings place pair.serial taken → taken < number
  pub close : pair.inbound.association.extended ≡ true → FollowsClosely end old happenings place pair number
