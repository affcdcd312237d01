-- What becomes of an ESP packet that came (RFC 4301 section 5.2, steps 3a and 4).
use Rattle.std.specs.Prelude.{◌≡◌, ◌≢◌, ◌⊎◌, ◌<◌, ◌≤◌, ℕ, Some, Result, Ok, Err, length}
use Rattle.byteorder.specs.Endian.{big_number}
use Rattle.base.specs.Octets.{Octets}
use Rattle.esp.specs.Judging.{Judges}
use Rattle.esp.specs.Opening.{TakesNumber}
use Rattle.esp.specs.Views.{Receiving}
use Rattle.esp.specs.declared.fault.EspFault.{EspFault}
use Rattle.esp.specs.declared.fault.EspFault.TheVariants.{BadLength, BadPadding}
use Rattle.sadb.specs.Database.{ChangesAt, Database, HasInbound, IsInbound, OpensAt, RefusesAt, pair_at}
use Rattle.sadb.specs.declared.pair.Pair.{Pair}
use Rattle.traffic.specs.Outcomes.{Outcome, Up, Dummy, Sealed, Clear, Discarded, Dropped, outcome_of_arrival}
use Rattle.traffic.specs.Verdicts.{IsVerdict, Verdict, Packet, Nothing, Refused}
use Rattle.traffic.specs.declared.arrival.Arrival.{Arrival}
use Rattle.traffic.specs.declared.fault.PacketFault.{PacketFault}
use Rattle.traffic.specs.declared.fault.PacketFault.TheVariants.{UnknownAssociation, Esp, Inner, OutsideSelectors}

-- the SPI in the first four octets (RFC 4303 section 2.1)
abbrev pub spi_of : Octets → ℕ
spi_of packet = big_number 4 packet

-- the packet is long enough to have an SPI, and it is the one of this SA pair, Live or Deleting
pub record IsAddressedTo (table : Database) (packet : Octets) (pair : Pair) : Type 0 where
  pub has_spi : 4 ≤ length packet
  pub inbound : IsInbound table.pairs (spi_of packet) pair

-- there is such an SA pair
pub record HasAddressee (table : Database) (packet : Octets) : Type 0 where
  pub has_spi : 4 ≤ length packet
  pub serial : ℕ
  pub inbound : HasInbound table.pairs (spi_of packet) serial

-- there is an SA pair with this serial
pub record HasPair (table : Database) (child : ℕ) : Type 0 where
  pub pair : Pair
  pub there : pair_at table.pairs child ≡ Some pair

-- the verdict on what it opened
pub record IsVerdictAt (table : Database) (child next : ℕ) (payload : Octets) (verdict : Verdict) : Type 0 where
  pub pair : Pair
  pub there : pair_at table.pairs child ≡ Some pair
  pub verdict_is : IsVerdict next payload pair.remote pair.local verdict

-- the packet reaches no SA pair: it ends before its SPI, or no pair has the SPI
abbrev pub IsAddressedToNone : Database → Octets → PacketFault → Type 0
IsAddressedToNone table packet (Esp BadLength) = length packet < 4
IsAddressedToNone table packet (Esp fault) = ⊥
IsAddressedToNone table packet UnknownAssociation =
    (4 ≤ length packet) × ((serial : ℕ) → ¬ HasInbound table.pairs (spi_of packet) serial)
IsAddressedToNone table packet (Inner fault) = ⊥
IsAddressedToNone table packet OutsideSelectors = ⊥

-- the SA pair doesn't open it; only bad padding changes anything
pub record IsNotOpened (old : Database) (packet : Octets) (fault : EspFault) (new : Database) : Type 0 where
  pub pair : Pair
  pub addressed : IsAddressedTo old packet pair
  pub refused : RefusesAt old pair.serial packet fault new
  pub unchanged : fault ≢ BadPadding → new ≡ old

-- the SA pair opens it under a sequence number, and this is the verdict on what it carried
pub record IsOpened (old : Database) (packet : Octets) (child number : ℕ) (verdict : Verdict) (new : Database) : Type 0 where
  pub pair : Pair
  pub addressed : IsAddressedTo old packet pair
  pub child_is : child ≡ pair.serial
  pub next : ℕ
  pub payload : Octets
  pub opened : OpensAt old child packet number next payload new
  pub verdict_is : IsVerdict next payload pair.remote pair.local verdict

-- opened, and dropped for what it carried
pub record IsRejected (old : Database) (packet : Octets) (fault : PacketFault) (new : Database) : Type 0 where
  pub child : ℕ
  pub number : ℕ
  pub opened : IsOpened old packet child number (Refused fault) new

-- not opened, for a fault of ESP
abbrev pub IsUnopened : Database → Octets → PacketFault → Database → Type 0
IsUnopened old packet (Esp fault) new = IsNotOpened old packet fault new
IsUnopened old packet (Inner fault) new = ⊥
IsUnopened old packet UnknownAssociation new = ⊥
IsUnopened old packet OutsideSelectors new = ⊥

-- What becomes of a packet that came, and of the table.
abbrev pub Receives : Database → Octets → Outcome → Database → Type 0
Receives old packet (Up child number inner) new = IsOpened old packet child number (Packet inner) new
Receives old packet (Dummy child number) new = IsOpened old packet child number Nothing new
Receives old packet (Dropped fault) new =
    (IsAddressedToNone old packet fault × (new ≡ old))
    ⊎ (IsUnopened old packet fault new
    ⊎ IsRejected old packet fault new)
Receives old packet (Sealed child number octets) new = ⊥
Receives old packet (Clear octets) new = ⊥
Receives old packet Discarded new = ⊥

-- what an answer and a refusal say together
abbrev pub reception_of : Result Arrival PacketFault → Outcome
reception_of (Ok arrival) = outcome_of_arrival arrival
reception_of (Err fault) = Dropped fault

-- this sequence number was taken, the packet's, by this SA pair, to which it is addressed, and nothing else
-- changed
pub record TakesNumberAt (old : Database) (packet : Octets) (child number : ℕ) (new : Database) : Type 0 where
  pub pair : Pair
  pub addressed : IsAddressedTo old packet pair
  pub child_is : child ≡ pair.serial
  pub judged : Judges pair.inbound.association pair.inbound.window packet number
  pub inbound : Receiving
  pub taken : TakesNumber pair.inbound number inbound
  pub changed : ChangesAt old pair.serial pair (record pair { inbound = inbound }) new

-- exactly one number was taken
pub record TakesOneNumber (old : Database) (packet : Octets) (new : Database) : Type 0 where
  pub child : ℕ
  pub number : ℕ
  pub takes : TakesNumberAt old packet child number new
