-- The numbers of RFC 7296 that messages are made of, and this implementation's limits. Code has the same
-- names in `numbers`.
use Rattle.std.specs.Prelude.{ℕ}

-- Payload types (section 3.2).
abbrev pub NO_PAYLOAD : ℕ
NO_PAYLOAD = 0

abbrev pub SA_TYPE : ℕ
SA_TYPE = 33

abbrev pub KE_TYPE : ℕ
KE_TYPE = 34

abbrev pub ID_I_TYPE : ℕ
ID_I_TYPE = 35

abbrev pub ID_R_TYPE : ℕ
ID_R_TYPE = 36

abbrev pub CERTIFICATE_TYPE : ℕ
CERTIFICATE_TYPE = 37

abbrev pub CERTIFICATE_REQUEST_TYPE : ℕ
CERTIFICATE_REQUEST_TYPE = 38

abbrev pub AUTH_TYPE : ℕ
AUTH_TYPE = 39

abbrev pub NONCE_TYPE : ℕ
NONCE_TYPE = 40

abbrev pub NOTIFY_TYPE : ℕ
NOTIFY_TYPE = 41

abbrev pub DELETE_TYPE : ℕ
DELETE_TYPE = 42

abbrev pub VENDOR_ID_TYPE : ℕ
VENDOR_ID_TYPE = 43

abbrev pub TS_I_TYPE : ℕ
TS_I_TYPE = 44

abbrev pub TS_R_TYPE : ℕ
TS_R_TYPE = 45

abbrev pub SEALED_TYPE : ℕ
SEALED_TYPE = 46

abbrev pub CONFIGURATION_TYPE : ℕ
CONFIGURATION_TYPE = 47

abbrev pub EAP_TYPE : ℕ
EAP_TYPE = 48

-- Exchange types (section 3.1).
abbrev pub IKE_SA_INIT : ℕ
IKE_SA_INIT = 34

abbrev pub IKE_AUTH : ℕ
IKE_AUTH = 35

abbrev pub CREATE_CHILD_SA : ℕ
CREATE_CHILD_SA = 36

abbrev pub INFORMATIONAL : ℕ
INFORMATIONAL = 37

-- Notifications' types (section 3.10.1).
abbrev pub UNSUPPORTED_CRITICAL_PAYLOAD : ℕ
UNSUPPORTED_CRITICAL_PAYLOAD = 1

abbrev pub INVALID_SYNTAX : ℕ
INVALID_SYNTAX = 7

abbrev pub NO_PROPOSAL_CHOSEN : ℕ
NO_PROPOSAL_CHOSEN = 14

abbrev pub AUTHENTICATION_FAILED : ℕ
AUTHENTICATION_FAILED = 24

abbrev pub NO_ADDITIONAL_SAS : ℕ
NO_ADDITIONAL_SAS = 35

abbrev pub TS_UNACCEPTABLE : ℕ
TS_UNACCEPTABLE = 38

abbrev pub SET_WINDOW_SIZE : ℕ
SET_WINDOW_SIZE = 16385

abbrev pub COOKIE : ℕ
COOKIE = 16390

-- Protocols (section 3.3.1).
abbrev pub IKE_PROTOCOL : ℕ
IKE_PROTOCOL = 1

abbrev pub AH_PROTOCOL : ℕ
AH_PROTOCOL = 2

abbrev pub ESP_PROTOCOL : ℕ
ESP_PROTOCOL = 3

-- Transform types (section 3.3.2).
abbrev pub ENCRYPTION_TRANSFORM : ℕ
ENCRYPTION_TRANSFORM = 1

abbrev pub PRF_TRANSFORM : ℕ
PRF_TRANSFORM = 2

abbrev pub INTEGRITY_TRANSFORM : ℕ
INTEGRITY_TRANSFORM = 3

abbrev pub GROUP_TRANSFORM : ℕ
GROUP_TRANSFORM = 4

abbrev pub SEQUENCE_NUMBERS_TRANSFORM : ℕ
SEQUENCE_NUMBERS_TRANSFORM = 5

-- Types of traffic selectors (section 3.13.1).
abbrev pub IPV4_RANGE_TYPE : ℕ
IPV4_RANGE_TYPE = 7

abbrev pub IPV6_RANGE_TYPE : ℕ
IPV6_RANGE_TYPE = 8

-- Marks of proposals and transforms with another behind them (sections 3.3.1 and 3.3.2).
abbrev pub MORE_PROPOSALS : ℕ
MORE_PROPOSALS = 2

abbrev pub MORE_TRANSFORMS : ℕ
MORE_TRANSFORMS = 3

-- The major version (section 2.5).
abbrev pub MAJOR_VERSION : ℕ
MAJOR_VERSION = 2

-- Lengths in octets: of a header (section 3.1), of a nonce (section 3.9), of an SPI of AH or ESP, and of
-- selectors of both types.
abbrev pub HEADER_LENGTH : ℕ
HEADER_LENGTH = 28

abbrev pub NONCE_LEAST : ℕ
NONCE_LEAST = 16

abbrev pub NONCE_LIMIT : ℕ
NONCE_LIMIT = 256

abbrev pub SPI_LENGTH : ℕ
SPI_LENGTH = 4

abbrev pub IPV4_RANGE_LENGTH : ℕ
IPV4_RANGE_LENGTH = 16

abbrev pub IPV6_RANGE_LENGTH : ℕ
IPV6_RANGE_LENGTH = 40

-- This implementation's limits: the octets of a message, the selectors of a payload, the octets of data of
-- a key exchange, an identity and an authentication.
abbrev pub MESSAGE_LIMIT : ℕ
MESSAGE_LIMIT = 3000

abbrev pub SELECTOR_LIMIT : ℕ
SELECTOR_LIMIT = 16

abbrev pub KEY_EXCHANGE_LIMIT : ℕ
KEY_EXCHANGE_LIMIT = 1024

abbrev pub IDENTITY_LIMIT : ℕ
IDENTITY_LIMIT = 256

abbrev pub AUTHENTICATION_LIMIT : ℕ
AUTHENTICATION_LIMIT = 1024
