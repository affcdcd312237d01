-- What both ends of a world carry by their Child SAs: which pairs they hold, and that what one end delivers
-- the other sealed (RFC 4301 sections 4.1, 4.4.2, 5.1 and 5.2; RFC 4303 sections 3.3 and 3.4).
use Rattle.std.specs.Prelude.{◌≡◌, ◌⊎◌, ◌<◌, ℕ, List, Contains, Some, slice_get}
use Rattle.base.specs.Octets.{Octets}
use Rattle.esp.specs.Judging.{Judges}
use Rattle.esp.specs.Packet.{IsContents}
use Rattle.policy.specs.Decisions.{Covers}
use Rattle.policy.specs.declared.entry.Action.TheVariants.{Protect}
use Rattle.policy.specs.declared.entry.Entry.{Entry}
use Rattle.policy.specs.declared.flow.Flow.{Flow}
use Rattle.policy.specs.declared.policy.Direction.TheVariants.{Outward}
use Rattle.suite.specs.declared.key_record.KeyRecord.{KeyRecord}
use Rattle.sadb.specs.Database.{pair_at, Database}
use Rattle.sadb.specs.Mirrors.{Mirrors}
use Rattle.sadb.specs.declared.pair.Pair.{Pair}
use Rattle.traffic.specs.Outcomes.{Sealed}
use Rattle.traffic.specs.Receiving.{IsAddressedTo}
use Rattle.traffic.specs.Sending.{IsDecided, Sends}
use Rattle.gateway.specs.Inputs as input
use Rattle.gateway.specs.Outputs.{Up}
use Rattle.gateway.specs.WorldChildren.{AreEndsOfOneChild, AreOfOneRequest, IsStoredOf}
use Rattle.gateway.specs.WorldHistories.{Happening}
use Rattle.gateway.specs.Worlds.{datagram_of, gateway_at, other_end, Stored, WorldState}
use Rattle.gateway.specs.declared.world.stored.Child.{Child}
use Rattle.gateway.specs.declared.world.stored.End.{End}
use Rattle.gateway.specs.declared.world.stored.Protection.TheVariants as mark
use Rattle.gateway.specs.declared.world.stored.Simplex.{Simplex}

-- the end's table holds the pair of this Child SA
abbrev pub HoldsPairOf : {C : Type 0} → Child → Pair → WorldState C → Type 0
HoldsPairOf {C} child pair w = pair_at (gateway_at child.end w).table.pairs child.serial ≡ Some pair

-- it holds one still
pub record HoldsSomePairOf {C : Type 0} (child : Child) (w : WorldState C) : Type 0 where
  pub pair : Pair
  pub held : HoldsPairOf child pair w

-- a Child SA with this serial is stored of this end
pub record HasStored (end : End) (serial : ℕ) (stored : Stored) : Type 0 where
  pub child : Child
  pub there : Contains stored.children child
  pub end_is : child.end ≡ end
  pub serial_is : child.serial ≡ serial

-- A pair of this Child SA sealed the packet into these octets, under this number, in some state of the table.
pub record WasSealedBy (policy : List Entry) (child : Child) (number : ℕ) (packet octets : Octets) : Type 0 where
  pub table : Database
  pub pair : Pair
  pub stood : pair_at table.pairs child.serial ≡ Some pair
  pub stored_of : IsStoredOf child pair
  pub table_after : Database
  pub sends : Sends table policy packet (Sealed child.serial number octets) table_after

-- some Child SA that is stored of this end sealed so, by its outbound SA with this SPI and key
pub record WasSealedAt (policy : List Entry) (end : End) (by : Simplex) (number : ℕ) (octets : Octets) (stored : Stored) : Type 0 where
  pub child : Child
  pub there : Contains stored.children child
  pub end_is : child.end ≡ end
  pub by_is : child.outbound ≡ by
  pub packet : Octets
  pub sealed : WasSealedBy policy child number packet octets

-- The invariant of the pairs of both ends, whatever comes. Each pair that is held has a stored Child SA, with
-- its SPIs, keys and selectors. A serial names one child of an end, for ever. Each ESP packet that was sent
-- was sealed by a pair of a stored child.
pub record AccountsForPairs {C : Type 0} (w : WorldState C) : Type 0 where
  pub stored : (end : End) (serial : ℕ) (pair : Pair) → pair_at (gateway_at end w).table.pairs serial ≡ Some pair → HasStored end serial w.stored
  pub same : (child : Child) (pair : Pair) → Contains w.stored.children child → HoldsPairOf child pair w → IsStoredOf child pair
  -- a stored Child SA's serial is below the next one, or its pair is still held, so no later pair gets it
  pub given : (child : Child) → Contains w.stored.children child → (child.serial < (gateway_at child.end w).table.next) ⊎ HoldsSomePairOf child w
  pub alone : (one other : Child) → Contains w.stored.children one → Contains w.stored.children other → one.end ≡ other.end → one.serial ≡ other.serial → one ≡ other
  pub sealed : (end : End) (by : Simplex) (number : ℕ) (octets : Octets) → Contains w.stored.sent (datagram_of end (mark.Esp by number) octets)
      → WasSealedAt (gateway_at end w).entries end by number octets w.stored

-- where both ends hold their pairs of the Child SA of one request under these keys, these mirror each other
abbrev pub PairsMirror : {C : Type 0} → KeyRecord → WorldState C → Type 0
PairsMirror {C} keys w =
    (asked answered : Child) (one other : Pair) → Contains w.stored.children asked → Contains w.stored.children answered → asked.keys ≡ keys → AreOfOneRequest asked answered
    → HoldsPairOf asked one w → HoldsPairOf answered other w → Mirrors one other

-- this end sent these octets as an ESP packet of this number, by an SA with this SPI and key
pub record HasSentPacket (end : End) (spi : ℕ) (key : Octets) (number : ℕ) (octets : Octets) (stored : Stored) : Type 0 where
  pub by : Simplex
  pub spi_is : by.spi ≡ spi
  pub key_is : by.key ≡ key
  pub sent : Contains stored.sent (datagram_of end (mark.Esp by number) octets)

-- An ESP packet of these octets comes to this Child SA, whose pair is held, and is accepted as this number.
-- Its ICV is right under the held pair's inbound SPI and key, and the number is new and in reach of its
-- window (RFC 4303 sections 3.4.3 and 3.4.4).
pub record IsJudgedAt {C : Type 0} (child : Child) (number : ℕ) (octets : Octets) (h : Happening C) : Type 0 where
  pub end_is : h.event.end ≡ child.end
  pub given : h.event.input ≡ input.Esp octets
  pub pair : Pair
  pub addressed : IsAddressedTo (gateway_at child.end h.before).table octets pair
  pub own : pair.serial ≡ child.serial
  pub judged : Judges pair.inbound.association pair.inbound.window octets number

-- The assumption that no packet to this Child SA was forged: what is accepted so, the other end has sent
-- under the child's inbound SPI and key, with this number, by the end of the list.
abbrev pub IsUnforgedTo : {C : Type 0} → Child → List (Happening C) → Stored → Type 0
IsUnforgedTo {C} child happenings stored =
    (place number : ℕ) (octets : Octets) (h : Happening C) → slice_get happenings place ≡ Some h → IsJudgedAt child number octets h
    → HasSentPacket (other_end child.end) child.inbound.spi child.inbound.key number octets stored

-- The assumption of one sender: the other end never had another Child SA that sends under this child's
-- inbound SPI and key.
abbrev pub HasOneSender : Child → Stored → Type 0
HasOneSender child stored =
    (other : Child) → Contains stored.children other → other.end ≡ other_end child.end → other.outbound.spi ≡ child.inbound.spi → other.outbound.key ≡ child.inbound.key
    → AreEndsOfOneChild child other

-- The packet is, octet for octet, what one stored ESP packet carries, which arrived. The other end's pair
-- of this Child SA sealed it under this number, the policy of that end protects it outward, and that pair
-- covers it (RFC 4301 section 5.1).
pub record WasSealedByOther {C : Type 0} (child : Child) (number : ℕ) (packet : Octets) (h : Happening C) (w : WorldState C) : Type 0 where
  pub other : Child
  pub there : Contains w.stored.children other
  pub of_one : AreEndsOfOneChild child other
  pub octets : Octets
  pub sent : Contains w.stored.sent (datagram_of other.end (mark.Esp other.outbound number) octets)
  pub came : h.event.input ≡ input.Esp octets
  pub next : ℕ
  pub carried : IsContents octets next packet
  pub flow : Flow
  pub protected : IsDecided (gateway_at other.end w).entries Outward packet flow Protect
  pub covered : Covers other.local other.remote flow

-- all that this Child SA delivers was sealed so
abbrev pub HandsUpWhatWasSealed : {C : Type 0} → Child → List (Happening C) → WorldState C → Type 0
HandsUpWhatWasSealed {C} child happenings w =
    (place number : ℕ) (packet : Octets) (h : Happening C) → slice_get happenings place ≡ Some h → h.event.end ≡ child.end → h.said ≡ Up child.serial number packet
    → WasSealedByOther child number packet h w
