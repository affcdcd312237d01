-- The packets of one Child SA that come one after the other, in the order in which they were sealed (RFC
-- 4303 sections 2.2.1, 3.3.3 and 3.4.3).
use Rattle.std.specs.Prelude.{◌≡◌, ◌⊎◌, ◌+◌, ◌^◌, ◌<◌, ◌≤◌, ℕ, true, List, Some, slice_get}
use Rattle.base.specs.Octets.{Octets}
use Rattle.sadb.specs.declared.pair.Pair.{Pair}
use Rattle.gateway.specs.Packets.{JudgesPacket}
use Rattle.gateway.specs.WorldHistories.{passage_at, Happening}
use Rattle.gateway.specs.Worlds.{gateway_at, WorldState}
use Rattle.gateway.specs.declared.world.stored.Child.{Child}
use Rattle.laws_progress.specs.Delivering.{ComesToChild, IsSealedFrom}
use Rattle.laws_progress.specs.InOrder.{WasGreatestAtFirst}

-- At this place octets come to one end of a Child SA, which holds its pair then. The pair of the other end
-- sealed this packet into them, as this number, at some step of the list.
pub record ArrivesAs {C : Type 0} (sender receiver : Child) (happenings : List (Happening C)) (place number : ℕ) (packet : Octets) : Type 0 where
  pub happening : Happening C
  pub here : slice_get happenings place ≡ Some happening
  pub octets : Octets
  pub pair : Pair
  pub comes : ComesToChild receiver pair octets happening
  pub sealing : ℕ
  pub sealed_at : Happening C
  pub there : slice_get happenings sealing ≡ Some sealed_at
  pub sealed : IsSealedFrom sender number packet octets sealed_at

-- some packet arrived so as this number, before this place
pub record ArrivedBefore {C : Type 0} (sender receiver : Child) (happenings : List (Happening C)) (place number : ℕ) : Type 0 where
  pub earlier : ℕ
  pub before : earlier < place
  pub packet : Octets
  pub arrives : ArrivesAs sender receiver happenings earlier number packet

-- The number lies little above one that arrived before, or above the greatest that was accepted before the
-- list, or above 0: by no more than 2^32 less the window's size, so that it is rightly recovered from its
-- low half.
pub record LeavesSmallGap {C : Type 0} (sender receiver : Child) (old : WorldState C) (happenings : List (Happening C)) (place : ℕ) (pair : Pair) (number : ℕ) : Type 0 where
  pub last : ℕ
  pub was : (last ≡ 0) ⊎ (WasGreatestAtFirst receiver.serial last (gateway_at receiver.end old) ⊎ ArrivedBefore sender receiver happenings place last)
  pub within : number + pair.inbound.window.size ≤ last + 2 ^ 32

-- What arrives so comes in the order in which it was sealed, each once, above all that was accepted before
-- the list. With ESN each leaves a small gap.
pub record ArriveInOrder {C : Type 0} (sender receiver : Child) (old : WorldState C) (happenings : List (Happening C)) : Type 0 where
  pub ordered : (place later number greater : ℕ) (packet other : Octets) → place < later
      → ArrivesAs sender receiver happenings place number packet → ArrivesAs sender receiver happenings later greater other → number < greater
  pub above : (place number taken : ℕ) (packet : Octets) → ArrivesAs sender receiver happenings place number packet
      → WasGreatestAtFirst receiver.serial taken (gateway_at receiver.end old) → taken < number
  pub close : (place number : ℕ) (packet : Octets) → (a : ArrivesAs sender receiver happenings place number packet) → a.pair.inbound.association.extended ≡ true
      → LeavesSmallGap sender receiver old happenings place a.pair number

-- some packet arrives so
pub record ArrivesSo {C : Type 0} (sender receiver : Child) (happenings : List (Happening C)) (place number : ℕ) : Type 0 where
  pub packet : Octets
  pub arrives : ArrivesAs sender receiver happenings place number packet

-- The assumption that nothing else is accepted: each packet that the receiving end accepts of the Child SA
-- was sealed so, as the number as which it is accepted. None that is accepted was forged, and none was
-- sealed before the list.
abbrev pub AcceptsNothingElse : {C : Type 0} → Child → Child → List (Happening C) → Type 0
AcceptsNothingElse {C} sender receiver happenings =
    (place number : ℕ) (octets : Octets) (h : Happening C) → slice_get happenings place ≡ Some h → h.event.end ≡ receiver.end
    → JudgesPacket receiver.serial number octets (passage_at receiver.end h) → ArrivesSo sender receiver happenings place number
