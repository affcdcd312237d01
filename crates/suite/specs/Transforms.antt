-- The numbers of protocols, transforms and attributes that are understood here (RFC 7296, section 3.3),
-- those of the format by their short names. Code has the same names in `transforms`.
use Rattle.std.specs.Prelude.{ℕ}
use Rattle.wire.specs.Numbers.{ENCRYPTION_TRANSFORM, ESP_PROTOCOL, GROUP_TRANSFORM, IKE_PROTOCOL, INTEGRITY_TRANSFORM, PRF_TRANSFORM, SEQUENCE_NUMBERS_TRANSFORM}

-- Protocols (section 3.3.1).
abbrev pub IKE : ℕ
IKE = IKE_PROTOCOL

abbrev pub ESP : ℕ
ESP = ESP_PROTOCOL

-- The SPIs up to 255 are reserved (RFC 4303, section 2.1).
abbrev pub FIRST_SPI : ℕ
FIRST_SPI = 256

-- Types of transforms (section 3.3.2).
abbrev pub ENCR : ℕ
ENCR = ENCRYPTION_TRANSFORM

abbrev pub PRF : ℕ
PRF = PRF_TRANSFORM

abbrev pub INTEG : ℕ
INTEG = INTEGRITY_TRANSFORM

abbrev pub GROUP : ℕ
GROUP = GROUP_TRANSFORM

abbrev pub ESN : ℕ
ESN = SEQUENCE_NUMBERS_TRANSFORM

-- Encryption: none (RFC 2410).
abbrev pub ENCR_NULL : ℕ
ENCR_NULL = 11

-- HMAC-SHA-256 as pseudorandom function, and cut to 128 bits as integrity (RFC 4868).
abbrev pub PRF_HMAC_SHA2_256 : ℕ
PRF_HMAC_SHA2_256 = 5

abbrev pub AUTH_HMAC_SHA2_256_128 : ℕ
AUTH_HMAC_SHA2_256_128 = 12

-- Sequence numbers of 32 bits, and extended ones.
abbrev pub NO_EXTENSION : ℕ
NO_EXTENSION = 0

abbrev pub EXTENSION : ℕ
EXTENSION = 1

-- The attribute that tells the length of a key in bits (section 3.3.5).
abbrev pub KEY_LENGTH : ℕ
KEY_LENGTH = 14
