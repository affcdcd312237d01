-- The security association database (RFC 4301 section 4.4.2), as a finite map from serials to SA pairs.
use Rattle.std.specs.Prelude.{◌≡◌, ◌≢◌, ◌↔◌, ◌+◌, ◌^◌, ◌<◌, ◌≤◌, ℕ, List, true, Option, Some, None, IsSome, refl}
use Rattle.std.specs.Ordering.{nat_cmp}
use Rattle.std.specs.Coded.{Coded, code_by, coded×, coded_ℕ}
use Rattle.std.specs.FinMap as map
use Rattle.std.specs.FinSet as set
use Rattle.esp.specs.Opening.{HandsUp, Refuses}
use Rattle.esp.specs.Packet.{BeginsWithItsSpi}
use Rattle.esp.specs.Sealing.{IsSealRefusal, Seals}
use Rattle.esp.specs.Views.{Receiving, Sending}
use Rattle.esp.specs.declared.fault.EspFault.{EspFault}
use Rattle.policy.specs.Decisions.{Covers}
use Rattle.policy.specs.declared.flow.Flow.{Flow}
use Rattle.replay.specs.Window as window
use Rattle.sadb.specs.declared.fault.TableFault.{TableFault}
use Rattle.sadb.specs.declared.fault.TableFault.TheVariants.{Full, Spent, Memory}
use Rattle.sadb.specs.declared.pair.Pair.{Pair}
use Rattle.sadb.specs.declared.pair.State.TheVariants.{Live, Deleting}
use Rattle.sadb.specs.Views.{pair_code}

pub record Database : Type 0 where
  -- the first inbound SPI, and how many were given: the k-th one is start + k
  pub start : ℕ
  pub given : ℕ
  -- the SPIs given whose SA pair is still to come
  pub reserved : set.FinSet nat_cmp
  -- the serial of the next SA pair
  pub next : ℕ
  -- the SA pairs by their serials
  pub pairs : map.FinMap nat_cmp Pair
  -- for how many more SPIs, with their SA pairs, there is room, so that reserving them takes no memory; no
  -- part of the content
  pub room : ℕ

abbrev pub database_code : Coded Database
database_code =
    code_by
    (ℕ × (ℕ × (set.FinSet nat_cmp × (ℕ × (map.FinMap nat_cmp Pair × ℕ)))))
    (coded× coded_ℕ (coded× coded_ℕ (coded× (set.code coded_ℕ) (coded× coded_ℕ (coded× (map.code coded_ℕ pair_code) coded_ℕ)))))
    (λ d. (d.start, (d.given, (d.reserved, (d.next, (d.pairs, d.room))))))
    (λ c. record { start = c.0; given = c.1.0; reserved = c.1.1.0; next = c.1.1.1.0; pairs = c.1.1.1.1.0; room = c.1.1.1.1.1 })
    (λ _. refl)

-- where SPIs may begin: 0 to 255 are reserved (RFC 4303 section 2.1), and 65,536 of them from the start on
-- fit 32 bits
pub record IsStart (start : ℕ) : Type 0 where
  pub least : 256 ≤ start
  pub most : start + 65536 ≤ 2 ^ 32

-- no SA pair, and no SPI given
abbrev pub empty_table : ℕ → Database
empty_table start = record { start = start; given = 0; reserved = set.empty; next = 1; pairs = map.empty; room = 0 }

abbrev pub IsReserved : Database → ℕ → Type 0
IsReserved d spi = set.contains d.reserved spi ≡ true

-- SA pairs and reserved SPIs together are as many as may be held, a limit of this implementation
abbrev pub IsFull : Database → Type 0
IsFull d = 1024 ≤ map.len d.pairs + set.len d.reserved

-- as many SPIs were given as ever are, a limit of this implementation
abbrev pub IsSpent : Database → Type 0
IsSpent d = 65536 ≤ d.given

-- why no SPI is given, each where those before it don't apply
abbrev pub IsTableRefusal : Database → TableFault → Type 0
IsTableRefusal d Full = IsFull d
IsTableRefusal d Spent = (¬ IsFull d) × IsSpent d
IsTableRefusal d Memory = (¬ IsFull d) × (¬ IsSpent d) × (d.room ≡ 0)

-- an SPI can be given without memory
pub record IsReady (d : Database) : Type 0 where
  pub room : 1 ≤ d.room
  pub not_full : ¬ IsFull d
  pub not_spent : ¬ IsSpent d

-- the content is as it was, and there is at least as much room
pub record IsAsBefore (old new : Database) : Type 0 where
  pub content : new ≡ record old { room = new.room }
  pub room : old.room ≤ new.room

-- the next SPI is given, and reserved until its SA pair comes; room falls by one at most
pub record Reserves (old : Database) (spi : ℕ) (new : Database) : Type 0 where
  pub in_order : spi ≡ old.start + old.given
  pub content : new ≡ record old { given = old.given + 1; reserved = set.insert old.reserved spi; room = new.room }
  pub room : old.room ≤ new.room + 1

-- the SPI is reserved no more
pub record Releases (old : Database) (spi : ℕ) (new : Database) : Type 0 where
  pub reserved : IsReserved old spi
  pub content : new ≡ record old { reserved = set.remove old.reserved spi; room = new.room }
  pub room : old.room ≤ new.room
  pub no_more : new.room ≤ old.room + 1

-- the SA pair comes for which the SPI was reserved, under the next serial
pub record Installs (old : Database) (spi : ℕ) (pair : Pair) (serial : ℕ) (new : Database) : Type 0 where
  pub reserved : IsReserved old spi
  pub its_own : pair.inbound.association.spi ≡ spi
  pub in_order : serial ≡ old.next
  pub content : new ≡ record old {
    reserved = set.remove old.reserved spi;
    next = old.next + 1;
    pairs = map.insert old.pairs serial (record pair { serial = serial });
    room = new.room;
  }
  pub room : old.room ≤ new.room
  pub no_more : new.room ≤ old.room + 1

-- the SA pair is there no more
pub record Removes (old : Database) (serial : ℕ) (new : Database) : Type 0 where
  pub pair : Pair
  pub there : map.get old.pairs serial ≡ Some pair
  pub content : new ≡ record old { pairs = map.remove old.pairs serial; room = new.room }
  pub room : old.room ≤ new.room
  pub no_more : new.room ≤ old.room + 1

-- What is said of the SA pairs alone.
abbrev pub PairMap : Type 0
PairMap = map.FinMap nat_cmp Pair

-- the SA pair with this serial, if there is one
abbrev pub pair_at : PairMap → ℕ → Option Pair
pair_at pairs serial = map.get pairs serial

abbrev pub IsThere : PairMap → ℕ → Type 0
IsThere pairs serial = IsSome (pair_at pairs serial)

-- an SA pair is Live, with this serial
pub record IsLive (pairs : PairMap) (serial : ℕ) : Type 0 where
  pub pair : Pair
  pub there : pair_at pairs serial ≡ Some pair
  pub live : pair.state ≡ Live

-- the SA pair with this serial has this inbound SPI, Live or Deleting
pub record HasInbound (pairs : PairMap) (spi serial : ℕ) : Type 0 where
  pub pair : Pair
  pub there : pair_at pairs serial ≡ Some pair
  pub its_own : pair.inbound.association.spi ≡ spi

-- the one SA pair with this inbound SPI
pub record IsInbound (pairs : PairMap) (spi : ℕ) (pair : Pair) : Type 0 where
  pub there : pair_at pairs pair.serial ≡ Some pair
  pub its_own : pair.inbound.association.spi ≡ spi
  pub only : (serial : ℕ) → HasInbound pairs spi serial → serial ≡ pair.serial

-- the next SA pair by serial
pub record IsAfter (pairs : PairMap) (serial : ℕ) (pair : Pair) : Type 0 where
  pub there : pair_at pairs pair.serial ≡ Some pair
  pub above : serial < pair.serial
  pub least : (other : ℕ) → serial < other → other < pair.serial → pair_at pairs other ≡ None

-- the SA pair with this serial belongs to this IKE SA
pub record BelongsTo (pairs : PairMap) (ike serial : ℕ) : Type 0 where
  pub pair : Pair
  pub there : pair_at pairs serial ≡ Some pair
  pub its : pair.ike ≡ ike

-- the next SA pair of an IKE SA by serial
pub record IsNextOf (pairs : PairMap) (ike serial next : ℕ) : Type 0 where
  pub belongs : BelongsTo pairs ike next
  pub above : serial < next
  pub least : (other : ℕ) → serial < other → other < next → ¬ BelongsTo pairs ike other

-- the SA pair with this serial belongs to this IKE SA and sends under this SPI
pub record SendsUnder (pairs : PairMap) (ike spi serial : ℕ) : Type 0 where
  pub pair : Pair
  pub there : pair_at pairs serial ≡ Some pair
  pub its : pair.ike ≡ ike
  pub under : pair.outbound.association.spi ≡ spi

-- of those that do, the one of the least serial
pub record IsSenderUnder (pairs : PairMap) (ike spi serial : ℕ) : Type 0 where
  pub sends : SendsUnder pairs ike spi serial
  pub least : (other : ℕ) → other < serial → ¬ SendsUnder pairs ike spi other

-- all SA pairs of an IKE SA are there no more, and all others as they were
pub record RemovesAllOf (old : Database) (ike : ℕ) (new : Database) : Type 0 where
  pub kept : (serial : ℕ) (pair : Pair) → (pair_at new.pairs serial ≡ Some pair) ↔ ((pair_at old.pairs serial ≡ Some pair) × (pair.ike ≢ ike))
  pub content : new ≡ record old { pairs = new.pairs; room = new.room }
  pub room : old.room ≤ new.room

-- the SA pair with this serial carries the flow outward: it is Live, its local selectors hold the source and
-- its remote ones the target (RFC 4301 section 5.1)
pub record Carries (pairs : PairMap) (flow : Flow) (serial : ℕ) : Type 0 where
  pub pair : Pair
  pub there : pair_at pairs serial ≡ Some pair
  pub live : pair.state ≡ Live
  pub covered : Covers pair.local pair.remote flow

-- of the SA pairs that carry the flow, the one of the greatest serial, a choice of this implementation
pub record IsOutbound (pairs : PairMap) (flow : Flow) (serial : ℕ) : Type 0 where
  pub carries : Carries pairs flow serial
  pub greatest : (other : ℕ) → serial < other → ¬ Carries pairs flow other

-- an SA pair stands under this serial, and the packet begins with the SPI under which that receives, or is
-- shorter than one
pub record IsForPair (pairs : PairMap) (serial : ℕ) (packet : List ℕ) : Type 0 where
  pub pair : Pair
  pub there : pair_at pairs serial ≡ Some pair
  pub addressed : BeginsWithItsSpi pair.inbound.association packet

-- One SA pair became another under the same serial, and nothing else of the table changed, its room neither.
pub record ChangesAt (old : Database) (serial : ℕ) (was is : Pair) (new : Database) : Type 0 where
  pub there : pair_at old.pairs serial ≡ Some was
  pub content : new ≡ record old { pairs = map.insert old.pairs serial is }

-- the SA pair with this serial is Deleting from then on
pub record Marks (old : Database) (serial : ℕ) (new : Database) : Type 0 where
  pub pair : Pair
  pub changed : ChangesAt old serial pair (record pair { state = Deleting }) new

-- the inbound SA of the SA pair with this serial delivers the packet's payload
pub record OpensAt (old : Database) (serial : ℕ) (packet : List ℕ) (number next : ℕ) (payload : List ℕ) (new : Database) : Type 0 where
  pub pair : Pair
  pub inbound : Receiving
  pub opened : HandsUp pair.inbound packet number next payload inbound
  pub changed : ChangesAt old serial pair (record pair { inbound = inbound }) new

-- it refuses the packet, never because of an allocation failure
pub record RefusesAt (old : Database) (serial : ℕ) (packet : List ℕ) (fault : EspFault) (new : Database) : Type 0 where
  pub pair : Pair
  pub inbound : Receiving
  pub refused : Refuses ⊥ pair.inbound packet fault inbound
  pub changed : ChangesAt old serial pair (record pair { inbound = inbound }) new

-- the outbound SA of the SA pair with this serial seals a packet
pub record SealsAt (old : Database) (serial next : ℕ) (payload before : List ℕ) (number : ℕ) (new : Database) (after : List ℕ) : Type 0 where
  pub pair : Pair
  pub outbound : Sending
  pub sealed : Seals pair.outbound next payload before number outbound after
  pub changed : ChangesAt old serial pair (record pair { outbound = outbound }) new

-- why it seals nothing
pub record SealRefusalAt (pairs : PairMap) (serial : ℕ) (payload : List ℕ) (fault : EspFault) : Type 0 where
  pub pair : Pair
  pub there : pair_at pairs serial ≡ Some pair
  pub refused : IsSealRefusal pair.outbound payload fault

-- the SPI is one of those that were given
pub record WasGiven (d : Database) (spi : ℕ) : Type 0 where
  pub from_start : d.start ≤ spi
  pub before_next : spi < d.start + d.given

-- What holds of every table.
pub record IsSoundTable (d : Database) : Type 0 where
  pub start : IsStart d.start
  pub given : d.given ≤ 65536
  pub first : 1 ≤ d.next
  -- each serial used up an SPI that was given, and those reserved are not used yet; so serials fit 32 bits
  pub next : d.next + set.len d.reserved ≤ d.given + 1
  pub few : map.len d.pairs + set.len d.reserved ≤ 1024
  pub reserved_given : (spi : ℕ) → IsReserved d spi → WasGiven d spi
  -- each SA pair stands under its own serial, which is one of those given
  pub serial : (serial : ℕ) (pair : Pair) → pair_at d.pairs serial ≡ Some pair → pair.serial ≡ serial
  pub serial_given : (serial : ℕ) (pair : Pair) → pair_at d.pairs serial ≡ Some pair → (1 ≤ serial) × (serial < d.next)
  -- its window is sound
  pub window : (serial : ℕ) (pair : Pair) → pair_at d.pairs serial ≡ Some pair → window.IsSoundWindow pair.inbound.window
  -- its inbound SPI was given, is not reserved, and is no other SA pair's
  pub spi_given : (serial spi : ℕ) → HasInbound d.pairs spi serial → WasGiven d spi
  pub spi_taken : (serial spi : ℕ) → HasInbound d.pairs spi serial → ¬ IsReserved d spi
  pub apart : (serial other spi : ℕ) → HasInbound d.pairs spi serial → HasInbound d.pairs spi other → serial ≡ other
