-- The sizes of payloads in octets, and what their fields allow (RFC 7296 section 3).
use Rattle.std.specs.Prelude.{◌≡◌, ◌<◌, ◌≤◌, ◌+◌, ◌*◌, ◌^◌, ◌-◌, ◌⊎◌, min, ℕ, List, [], length}
use Rattle.std.specs.List.{AllByRecursion, sum_by}
use Rattle.base.specs.Addresses.{FitsRange, IsOrdered}
use Rattle.base.specs.Octets.{AreOctets}
use Rattle.base.specs.declared.address.Range.{Range}
use Rattle.base.specs.declared.address.Range.TheVariants as range
use Rattle.base.specs.declared.selector.Selector.{Selector}
use Rattle.wire.specs.Numbers.{IKE_PROTOCOL, AH_PROTOCOL, ESP_PROTOCOL, NONCE_LEAST, NONCE_LIMIT, SELECTOR_LIMIT, KEY_EXCHANGE_LIMIT, IDENTITY_LIMIT, AUTHENTICATION_LIMIT}
use Rattle.wire.specs.Payloads.{IsUnknownType}
use Rattle.wire.specs.Proposals.{AreNumbered}
use Rattle.wire.specs.Messages.{SpellsPlainly}
use Rattle.wire.specs.declared.message.Header.{Header}
use Rattle.wire.specs.declared.message.Message.{Message}
use Rattle.wire.specs.declared.payload.Payload.{Payload}
use Rattle.wire.specs.declared.payload.Payload.TheVariants.{Sa, Ke, IdI, IdR, Auth, Nonce, Notify, Delete, TsI, TsR, Sealed, Skipped, Unknown}
use Rattle.wire.specs.declared.proposal.Proposal.{Proposal}
use Rattle.wire.specs.declared.proposal.Transform.{Transform}
use Rattle.wire.specs.declared.proposal.Attribute.{Attribute}
use Rattle.wire.specs.declared.proposal.Attribute.TheVariants.{Short, Long}

abbrev pub attribute_size : Attribute → ℕ
attribute_size (Short kind value) = 4
attribute_size (Long kind value) = 4 + length value

abbrev pub transform_size : Transform → ℕ
transform_size t = 8 + sum_by attribute_size t.attributes

abbrev pub proposal_size : Proposal → ℕ
proposal_size p = 8 + (length p.spi + sum_by transform_size p.transforms)

-- four octets, the ports, and two addresses of 4 or 16 octets (section 3.13.1)
abbrev pub range_size : Range → ℕ
range_size (range.V4 start end) = 8
range_size (range.V6 start end) = 32

abbrev pub selector_size : Selector → ℕ
selector_size s = 8 + range_size s.addresses

-- the octets of a payload behind its header of four
abbrev pub body_size : Payload → ℕ
body_size (Sa proposals) = sum_by proposal_size proposals
body_size (Ke group octets) = 4 + length octets
body_size (IdI kind octets) = 4 + length octets
body_size (IdR kind octets) = 4 + length octets
body_size (Auth method octets) = 4 + length octets
body_size (Nonce octets) = length octets
body_size (Notify protocol spi kind octets) = 4 + (length spi + length octets)
body_size (Delete protocol spis) = 4 + 4 * length spis
body_size (TsI selectors) = 4 + sum_by selector_size selectors
body_size (TsR selectors) = 4 + sum_by selector_size selectors
body_size (Sealed first body) = length body
body_size (Skipped kind octets) = length octets
body_size (Unknown kind critical octets) = length octets

abbrev pub size_of : Payload → ℕ
size_of p = 4 + body_size p

-- as a `usize`, which stops at its greatest number
abbrev pub usize_of : ℕ → ℕ
usize_of size = min size (2 ^ 64 - 1)

abbrev pub FitsAttribute : Attribute → Type 0
FitsAttribute (Short kind value) = (kind < 2 ^ 15) × (value < 2 ^ 16)
FitsAttribute (Long kind value) = (kind < 2 ^ 15) × (length value < 2 ^ 16) × AreOctets value

pub record FitsTransform (t : Transform) : Type 0 where
  pub kind : t.kind < 256
  pub id : t.id < 2 ^ 16
  pub attributes : AllByRecursion FitsAttribute t.attributes

pub record FitsProposal (p : Proposal) : Type 0 where
  pub number : p.number < 256
  pub protocol : p.protocol < 256
  pub spi : AreOctets p.spi
  pub short : length p.spi < 256
  pub some : 1 ≤ length p.transforms
  pub few : length p.transforms < 256
  pub transforms : AllByRecursion FitsTransform p.transforms

pub record FitsSelector (s : Selector) : Type 0 where
  pub protocol : s.protocol < 256
  pub ports : s.start_port ≤ s.end_port
  pub port : s.end_port < 2 ^ 16
  pub addresses : IsOrdered s.addresses
  pub fits : FitsRange s.addresses

-- so many octets of data
pub record FitsData (least most : ℕ) (octets : List ℕ) : Type 0 where
  pub some : least ≤ length octets
  pub few : length octets ≤ most
  pub fits : AreOctets octets

pub record FitsSelectors (selectors : List Selector) : Type 0 where
  pub some : 1 ≤ length selectors
  pub few : length selectors ≤ SELECTOR_LIMIT
  pub each : AllByRecursion FitsSelector selectors

pub record FitsNotify (protocol : ℕ) (spi : List ℕ) (kind : ℕ) (octets : List ℕ) : Type 0 where
  pub protocol_fits : protocol < 256
  pub kind_fits : kind < 2 ^ 16
  pub spi_fits : FitsData 0 255 spi
  pub octets_fit : AreOctets octets

-- IKE names no SPI to be deleted, AH and ESP name theirs (section 3.11)
abbrev pub NamesSpis : ℕ → List ℕ → Type 0
NamesSpis protocol spis = ((protocol ≡ IKE_PROTOCOL) × (spis ≡ [])) ⊎ ((protocol ≡ AH_PROTOCOL) ⊎ (protocol ≡ ESP_PROTOCOL))

-- What each field of a payload allows. Not of an encrypted payload, which the cipher makes and which has to
-- be the last.
abbrev pub FitsFields : Payload → Type 0
FitsFields (Sa proposals) = AreNumbered proposals × AllByRecursion FitsProposal proposals
FitsFields (Ke group octets) = (group < 2 ^ 16) × FitsData 1 KEY_EXCHANGE_LIMIT octets
FitsFields (IdI kind octets) = (kind < 256) × FitsData 1 IDENTITY_LIMIT octets
FitsFields (IdR kind octets) = (kind < 256) × FitsData 1 IDENTITY_LIMIT octets
FitsFields (Auth method octets) = (method < 256) × FitsData 1 AUTHENTICATION_LIMIT octets
FitsFields (Nonce octets) = FitsData NONCE_LEAST NONCE_LIMIT octets
FitsFields (Notify protocol spi kind octets) = FitsNotify protocol spi kind octets
FitsFields (Delete protocol spis) = NamesSpis protocol spis × AllByRecursion (λ spi. spi < 2 ^ 32) spis
FitsFields (TsI selectors) = FitsSelectors selectors
FitsFields (TsR selectors) = FitsSelectors selectors
FitsFields (Skipped kind octets) = AreOctets octets
FitsFields (Unknown kind critical octets) = IsUnknownType kind × AreOctets octets
FitsFields (Sealed first body) = ⊥

pub record FitsHeaderFields (h : Header) : Type 0 where
  pub spi_i : h.spi_i < 2 ^ 64
  pub spi_r : h.spi_r < 2 ^ 64
  pub minor : h.minor < 16
  pub exchange : h.exchange < 256
  pub id : h.id < 2 ^ 32

-- octets of this length, with zeros in reserved octets and bits, spell the message
pub record HasSpelling (m : Message) (size : ℕ) : Type 0 where
  pub octets : List ℕ
  pub spelled : SpellsPlainly m octets
  pub long : length octets ≡ size
