-- Messages (RFC 7296 section 3.1).
use Rattle.std.specs.Prelude.{◌≡◌, ◌<◌, ◌≤◌, ◌^◌, ◌+◌, ◌*◌, ℕ, Bool, List, ◌∷◌, ◌++◌, length, if◌then◌else◌}
use Rattle.byteorder.specs.Endian.{big_bytes}
use Rattle.base.specs.Octets.{IsOctet, AreOctets}
use Rattle.wire.specs.Numbers.{MAJOR_VERSION, MESSAGE_LIMIT}
use Rattle.wire.specs.Parts.{IsZero}
use Rattle.wire.specs.Payloads.{SpellsPayloads}
use Rattle.wire.specs.declared.message.Message.{Message}
use Rattle.wire.specs.declared.message.Header.{Header}
use Rattle.wire.specs.declared.message.Flags.{Flags}

abbrev pub bit : Bool → ℕ
bit b = if b then 1 else 0

-- I is bit 3, V is bit 4 and R is bit 5; the other bits are reserved.
pub record HasFlags (Free : ℕ → Type 0) (f : Flags) (octet : ℕ) : Type 0 where
  pub low : ℕ
  pub high : ℕ
  pub value : octet ≡ low + 8 * bit f.initiator + 16 * bit f.version + 32 * bit f.response + 64 * high
  pub low_bits : low < 8
  pub high_bits : high < 4
  pub free : Free low × Free high

-- The 28 octets in front of the payloads, without the last four, of the length: both SPIs, the type of the
-- first payload, major version 2 and the minor version in one octet, the exchange, the flags, the message
-- ID.
pub record SpellsHeader (Free : ℕ → Type 0) (h : Header) (first : ℕ) (x : List ℕ) : Type 0 where
  pub flags : ℕ
  pub has_flags : HasFlags Free h.flags flags
  pub spelled : x ≡ big_bytes 8 h.spi_i ++ big_bytes 8 h.spi_r ++ (first ∷ (16 * MAJOR_VERSION + h.minor) ∷ h.exchange ∷ flags ∷ big_bytes 4 h.id)
  pub spi_i : h.spi_i < 2 ^ 64
  pub spi_r : h.spi_r < 2 ^ 64
  pub minor : h.minor < 16
  pub id : h.id < 2 ^ 32

-- A message of up to 3000 octets, a limit of this implementation. What stands in reserved octets and bits,
-- Free tells.
pub record SpellsWith (Free : ℕ → Type 0) (m : Message) (b : List ℕ) : Type 0 where
  pub first : ℕ
  pub header : List ℕ
  pub payloads : List ℕ
  pub whole : b ≡ header ++ big_bytes 4 (length b) ++ payloads
  pub head : SpellsHeader Free m.header first header
  pub chain : SpellsPayloads Free first m.payloads payloads
  pub limit : length b ≤ MESSAGE_LIMIT
  pub octets : AreOctets b

-- the octets spell the message, with anything in reserved octets and bits
abbrev pub Spells : Message → List ℕ → Type 0
Spells m b = SpellsWith IsOctet m b

-- the octets spell the message, with zeros in reserved octets and bits
abbrev pub SpellsPlainly : Message → List ℕ → Type 0
SpellsPlainly m b = SpellsWith IsZero m b
