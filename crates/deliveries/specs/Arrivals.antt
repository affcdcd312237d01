-- Which packets come to a Child SA, and the first arrival of what was sent to it (RFC 4303 section 3.4).
use Rattle.std.specs.Prelude.{◌≡◌, ◌+◌, ◌<◌, ◌≤◌, ℕ, false, Option, Some, List, length, slice_get}
use Rattle.std.specs.FinSet as set
use Rattle.std.specs.FinMap as map
use Rattle.std.specs.Ordering.{nat_cmp}
use Rattle.base.specs.Octets.{Octets}
use Rattle.esp.specs.Judging.{IsJudgedLength, IsNumber, Judges, low_half}
use Rattle.esp.specs.Packet.{PassesIntegrity}
use Rattle.sadb.specs.Database.{pair_at}
use Rattle.sadb.specs.declared.pair.Pair.{Pair}
use Rattle.traffic.specs.Receiving.{spi_of}
use Rattle.deliveries.specs.Numbers.{seen_before, taken_at_first}
use Rattle.deliveries.specs.Passages.{Passage, Reception}

-- The step is a packet with the inbound SPI of the Child SA, whose SA pair stands before it, Live or Deleting
-- (section 3.4.2).
pub record ComesTo (child : ℕ) (pair : Pair) (packet : Octets) (p : Passage) : Type 0 where
  pub reception : Reception
  pub received : p.received ≡ Some reception
  pub packet_is : packet ≡ reception.packet
  pub has_spi : 4 ≤ length packet
  pub stands : pair_at p.before.pairs child ≡ Some pair
  pub its_own : spi_of packet ≡ pair.inbound.association.spi

-- and, at the sequence numbers taken before it, the rule judges it as this number (sections 3.4.3 and 3.4.4)
pub record IsToBeJudged (child : ℕ) (passages : List Passage) (numbers : List (Option ℕ)) (place n : ℕ) (p : Passage) : Type 0 where
  pub pair : Pair
  pub packet : Octets
  pub comes : ComesTo child pair packet p
  pub judged : Judges pair.inbound.association (seen_before child pair passages numbers place) packet n

-- The assumption that no ICV was forged. sent is what was sent to the Child SA, from sequence number to
-- octets: each entry has a length that is judged and passes the integrity check under its number, and
-- whatever comes to the child and passes under the number that it has there is that number's entry.
pub record Unforged (child : ℕ) (passages : List Passage) (numbers : List (Option ℕ)) (sent : map.FinMap nat_cmp Octets) : Type 0 where
  pub whole : (n : ℕ) (packet : Octets) → map.get sent n ≡ Some packet → IsJudgedLength (length packet)
  pub intact : (place n : ℕ) (packet : Octets) (p : Passage) (pair : Pair) → slice_get passages place ≡ Some p
      → pair_at p.before.pairs child ≡ Some pair → map.get sent n ≡ Some packet → PassesIntegrity pair.inbound.association n packet
  pub no_other : (place n : ℕ) (packet : Octets) (p : Passage) (pair : Pair) → slice_get passages place ≡ Some p
      → ComesTo child pair packet p → IsJudgedLength (length packet)
      → IsNumber pair.inbound.association.extended (seen_before child pair passages numbers place) (low_half packet) n
      → PassesIntegrity pair.inbound.association n packet → map.get sent n ≡ Some packet

-- at this place the octets sent as n come to the Child SA, the sequence number that they have there is n, and
-- n lies inside or above the window
pub record Arrives (child : ℕ) (passages : List Passage) (numbers : List (Option ℕ)) (sent : map.FinMap nat_cmp Octets) (n place : ℕ) : Type 0 where
  pub passage : Passage
  pub here : slice_get passages place ≡ Some passage
  pub pair : Pair
  pub packet : Octets
  pub comes : ComesTo child pair packet passage
  pub sent_so : map.get sent n ≡ Some packet
  pub number : IsNumber pair.inbound.association.extended (seen_before child pair passages numbers place) (low_half packet) n
  pub in_reach : (seen_before child pair passages numbers place).top < n + pair.inbound.window.size

-- the first place at which they do, where n was not taken before the list
pub record IsFirstArrival (child : ℕ) (passages : List Passage) (numbers : List (Option ℕ)) (sent : map.FinMap nat_cmp Octets) (n place : ℕ) : Type 0 where
  pub new : set.contains (taken_at_first child passages) n ≡ false
  pub arrives : Arrives child passages numbers sent n place
  pub first : (earlier : ℕ) → earlier < place → ¬ Arrives child passages numbers sent n earlier
