-- The insides of the payloads of a few fields (RFC 7296 sections 3.4, 3.5, 3.8 to 3.11).
use Rattle.std.specs.Prelude.{◌≡◌, ◌<◌, ◌≤◌, ◌^◌, ◌⊎◌, ℕ, List, [], ◌∷◌, ◌++◌, length}
use Rattle.byteorder.specs.Endian.{big_bytes}
use Rattle.wire.specs.Numbers.{IKE_PROTOCOL, AH_PROTOCOL, ESP_PROTOCOL, SPI_LENGTH, NONCE_LEAST, NONCE_LIMIT, KEY_EXCHANGE_LIMIT}
use Rattle.wire.specs.Parts.{SpellsEach}

-- Section 3.4: the Diffie-Hellman group, two reserved octets, 1 to 1024 octets of data. These limits are this
-- implementation's.
pub record SpellsKe (Free : ℕ → Type 0) (group : ℕ) (octets body : List ℕ) : Type 0 where
  pub reserved_1 : ℕ
  pub reserved_2 : ℕ
  pub free : Free reserved_1 × Free reserved_2
  pub spelled : body ≡ big_bytes 2 group ++ (reserved_1 ∷ reserved_2 ∷ octets)
  pub group_fits : group < 2 ^ 16
  pub some : 1 ≤ length octets
  pub few : length octets ≤ KEY_EXCHANGE_LIMIT

-- Sections 3.5 and 3.8: the identity's type or the method, three reserved octets, and data of 1 octet up to
-- a limit of this implementation.
pub record SpellsTyped (Free : ℕ → Type 0) (limit : ℕ) (kind : ℕ) (octets body : List ℕ) : Type 0 where
  pub reserved_1 : ℕ
  pub reserved_2 : ℕ
  pub reserved_3 : ℕ
  pub free : Free reserved_1 × Free reserved_2 × Free reserved_3
  pub spelled : body ≡ kind ∷ reserved_1 ∷ reserved_2 ∷ reserved_3 ∷ octets
  pub some : 1 ≤ length octets
  pub few : length octets ≤ limit

-- Section 3.9: 16 to 256 octets.
pub record SpellsNonce (octets body : List ℕ) : Type 0 where
  pub spelled : body ≡ octets
  pub some : NONCE_LEAST ≤ length octets
  pub few : length octets ≤ NONCE_LIMIT

-- Section 3.10: protocol, size of the SPI, the notification's type, the SPI, the data.
pub record SpellsNotify (protocol : ℕ) (spi : List ℕ) (kind : ℕ) (octets body : List ℕ) : Type 0 where
  pub spelled : body ≡ protocol ∷ length spi ∷ big_bytes 2 kind ++ spi ++ octets
  pub spi_fits : length spi < 2 ^ 8
  pub kind_fits : kind < 2 ^ 16

-- The size of each SPI of a deletion: there is none of the IKE SA itself (protocol 1), and those of AH and
-- ESP (2 and 3) have four octets.
abbrev pub HasSpiSize : ℕ → ℕ → List ℕ → Type 0
HasSpiSize protocol size spis =
    ((protocol ≡ IKE_PROTOCOL) × (size ≡ 0) × (spis ≡ [])) ⊎ (((protocol ≡ AH_PROTOCOL) ⊎ (protocol ≡ ESP_PROTOCOL)) × (size ≡ SPI_LENGTH))

abbrev pub SpellsSpi : ℕ → List ℕ → Type 0
SpellsSpi spi x = (x ≡ big_bytes 4 spi) × (spi < 2 ^ 32)

-- Section 3.11: protocol, size of each SPI, count of the SPIs, the SPIs.
pub record SpellsDelete (protocol : ℕ) (spis : List ℕ) (body : List ℕ) : Type 0 where
  pub size : ℕ
  pub list : List ℕ
  pub spelled : body ≡ protocol ∷ size ∷ big_bytes 2 (length spis) ++ list
  pub count : length spis < 2 ^ 16
  pub sized : HasSpiSize protocol size spis
  pub each : SpellsEach SpellsSpi spis list
