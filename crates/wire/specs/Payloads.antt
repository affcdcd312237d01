-- One payload, and a chain of payloads (RFC 7296 sections 3.2 and 3.14).
use Rattle.std.specs.Prelude.{◌≡◌, ◌<◌, ◌+◌, ◌⊎◌, ℕ, Bool, List, [], ◌∷◌, if◌then◌else◌}
use Rattle.std.specs.List.{AllByRecursion}
use Rattle.base.specs.Octets.{IsOctet, AreOctets}
use Rattle.wire.specs.Numbers.{NO_PAYLOAD, SA_TYPE, KE_TYPE, ID_I_TYPE, ID_R_TYPE, CERTIFICATE_TYPE, CERTIFICATE_REQUEST_TYPE, AUTH_TYPE, NONCE_TYPE, NOTIFY_TYPE, DELETE_TYPE, VENDOR_ID_TYPE, TS_I_TYPE, TS_R_TYPE, SEALED_TYPE, CONFIGURATION_TYPE, EAP_TYPE, IDENTITY_LIMIT, AUTHENTICATION_LIMIT}
use Rattle.wire.specs.Parts.{IsPart, Joins}
use Rattle.wire.specs.Proposals.{SpellsProposals}
use Rattle.wire.specs.Selectors.{SpellsSelectors}
use Rattle.wire.specs.Fields.{SpellsKe, SpellsTyped, SpellsNonce, SpellsNotify, SpellsDelete}
use Rattle.wire.specs.declared.payload.Payload.{Payload}
use Rattle.wire.specs.declared.payload.Payload.TheVariants.{Sa, Ke, IdI, IdR, Auth, Nonce, Notify, Delete, TsI, TsR, Sealed, Skipped, Unknown}
use Rattle.wire.specs.declared.payload.SkippedKind.{SkippedKind}
use Rattle.wire.specs.declared.payload.SkippedKind.TheVariants.{Certificate, CertificateRequest, VendorId, Configuration, Eap}

abbrev pub type_of_skipped : SkippedKind → ℕ
type_of_skipped Certificate = CERTIFICATE_TYPE
type_of_skipped CertificateRequest = CERTIFICATE_REQUEST_TYPE
type_of_skipped VendorId = VENDOR_ID_TYPE
type_of_skipped Configuration = CONFIGURATION_TYPE
type_of_skipped Eap = EAP_TYPE

-- the number that the chain names a payload by
abbrev pub type_of : Payload → ℕ
type_of (Sa proposals) = SA_TYPE
type_of (Ke group octets) = KE_TYPE
type_of (IdI kind octets) = ID_I_TYPE
type_of (IdR kind octets) = ID_R_TYPE
type_of (Auth method octets) = AUTH_TYPE
type_of (Nonce octets) = NONCE_TYPE
type_of (Notify protocol spi kind octets) = NOTIFY_TYPE
type_of (Delete protocol spis) = DELETE_TYPE
type_of (TsI selectors) = TS_I_TYPE
type_of (TsR selectors) = TS_R_TYPE
type_of (Sealed first body) = SEALED_TYPE
type_of (Skipped kind octets) = type_of_skipped kind
type_of (Unknown kind critical octets) = kind

-- what stands behind the payload's header
abbrev pub SpellsBody : (ℕ → Type 0) → Payload → List ℕ → Type 0
SpellsBody Free (Sa proposals) x = SpellsProposals Free proposals x
SpellsBody Free (Ke group octets) x = SpellsKe Free group octets x
SpellsBody Free (IdI kind octets) x = SpellsTyped Free IDENTITY_LIMIT kind octets x
SpellsBody Free (IdR kind octets) x = SpellsTyped Free IDENTITY_LIMIT kind octets x
SpellsBody Free (Auth method octets) x = SpellsTyped Free AUTHENTICATION_LIMIT method octets x
SpellsBody Free (Nonce octets) x = SpellsNonce octets x
SpellsBody Free (Notify protocol spi kind octets) x = SpellsNotify protocol spi kind octets x
SpellsBody Free (Delete protocol spis) x = SpellsDelete protocol spis x
SpellsBody Free (TsI selectors) x = SpellsSelectors Free selectors x
SpellsBody Free (TsR selectors) x = SpellsSelectors Free selectors x
SpellsBody Free (Sealed first body) x = x ≡ body
SpellsBody Free (Skipped kind octets) x = x ≡ octets
SpellsBody Free (Unknown kind critical octets) x = x ≡ octets

-- The types that are not known: not 0, which ends a chain, and none of those with a form of their own.
abbrev pub IsUnknownType : ℕ → Type 0
IsUnknownType kind = ((NO_PAYLOAD < kind) × (kind < SA_TYPE)) ⊎ ((EAP_TYPE < kind) × (kind < 256))

-- Section 2.5: the top bit of the second octet is the critical bit, and the others are reserved.
pub record HasCriticalBit (Free : ℕ → Type 0) (critical : Bool) (second : ℕ) : Type 0 where
  pub reserved : ℕ
  pub low : reserved < 128
  pub free : Free reserved
  pub value : second ≡ (if critical then 128 else 0) + reserved

-- The octets of the payload's header before its length: the type that it names next, which an encrypted
-- payload has of the first payload inside it, and a second octet, of which only an unknown payload keeps
-- the critical bit.
abbrev pub HasHeader : (ℕ → Type 0) → Payload → ℕ → ℕ → Type 0
HasHeader Free (Sealed first body) next second = (next ≡ first) × Free second
HasHeader Free (Unknown kind critical octets) next second = IsUnknownType kind × HasCriticalBit Free critical second
HasHeader Free p next second = Free second

-- a payload, which names the type next
pub record SpellsPayload (Free : ℕ → Type 0) (p : Payload) (next : ℕ) (x : List ℕ) : Type 0 where
  pub second : ℕ
  pub body : List ℕ
  pub part : IsPart next second body x
  pub header : HasHeader Free p next second
  pub inside : SpellsBody Free p body

-- The type of the payload behind this one, 0 for none: nothing follows an encrypted payload (section 3.14).
abbrev pub following : Payload → ℕ → ℕ
following (Sealed first body) next = NO_PAYLOAD
following p next = next

-- a chain of payloads, whose first has the type t; 0 stands for no payload
abbrev pub SpellsPayloads : (ℕ → Type 0) → ℕ → List Payload → List ℕ → Type 0
SpellsPayloads Free t [] x = (t ≡ NO_PAYLOAD) × (x ≡ [])
SpellsPayloads Free t (p ∷ ps) x = (t ≡ type_of p) × (next : ℕ) × Joins (SpellsPayload Free p next) (SpellsPayloads Free (following p next) ps) x

abbrev pub IsClear : Payload → Type 0
IsClear p = type_of p ≡ SEALED_TYPE → ⊥

-- the octets spell these payloads, none of them encrypted, of which the first has the type first
pub record SpellsChain (first : ℕ) (ps : List Payload) (b : List ℕ) : Type 0 where
  pub clear : AllByRecursion IsClear ps
  pub payloads : SpellsPayloads IsOctet first ps b
  pub octets : AreOctets b
