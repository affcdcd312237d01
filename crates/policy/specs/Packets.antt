-- The flow of an IP packet: IPv4 by RFC 791 section 3.1, IPv6 by RFC 8200 section 3; ports by RFC 9293
-- section 3.1 and RFC 768. Packets have at most 16,384 octets, a limit of this implementation.
use Rattle.std.specs.Prelude.{◌≡◌, ◌≢◌, ◌<◌, ◌≤◌, ◌^◌, ◌+◌, ◌*◌, ◌/◌, ◌%◌, ◌⊎◌, ◌==◌, ◌∷◌, [], ℕ, Option, Some, None, if◌then◌else◌, length, drop, slice_index}
use Rattle.byteorder.specs.Endian.{big_number}
use Rattle.base.specs.Octets.{Octets}
use Rattle.base.specs.declared.address.Address.TheVariants.{V4, V6}
use Rattle.base.specs.declared.address.Family.{Family}
use Rattle.base.specs.declared.address.Family.TheVariants as family
use Rattle.policy.specs.declared.flow.Flow.{Flow}
use Rattle.policy.specs.declared.flow.Ports.{Ports}
use Rattle.policy.specs.declared.fault.InnerFault.{InnerFault}
use Rattle.policy.specs.declared.fault.InnerFault.TheVariants.{BadInner, Fragment, ExtensionHeader}
use Rattle.policy.specs.Points.{HasPorts}

-- the version of IP, in the high half of the first octet
abbrev pub version_of : Octets → ℕ
version_of b = slice_index b 0 / 16

-- the family of a version
abbrev pub family_of_version : ℕ → Option Family
family_of_version version = if version == 4 then Some family.V4 else if version == 6 then Some family.V6 else None

-- the family that a packet's version names, whatever else the packet has
abbrev pub family_of_packet : Octets → Option Family
family_of_packet [] = None
family_of_packet (first ∷ others) = family_of_version (first / 16)

-- TCP and UDP begin with the source's and the target's port, in two octets each; of other protocols no
-- ports are read
abbrev pub ArePorts : ℕ → Octets → Option Ports → Type 0
ArePorts protocol content None = ¬ HasPorts protocol
ArePorts protocol content (Some ports) =
    HasPorts protocol × (4 ≤ length content)
    × (ports.source ≡ big_number 2 content) × (ports.target ≡ big_number 2 (drop 2 content))

-- TCP or UDP ends before its ports
abbrev pub LacksPorts : ℕ → Octets → Type 0
LacksPorts protocol content = HasPorts protocol × (length content < 4)

-- IPv4

-- the header's length in octets: the low half of the first octet counts words of four
abbrev pub ipv4_header_length : Octets → ℕ
ipv4_header_length b = 4 * (slice_index b 0 % 16)

-- what follows the header and its options
abbrev pub ipv4_content : Octets → Octets
ipv4_content b = drop (ipv4_header_length b) b

-- the protocol in octet 9
abbrev pub ipv4_protocol : Octets → ℕ
ipv4_protocol b = slice_index b 9

-- version 4, a header that fits, and the total length in octets 2 and 3
pub record IsIpv4Packet (b : Octets) : Type 0 where
  pub least : 20 ≤ length b
  pub most : length b ≤ 16384
  pub version : version_of b ≡ 4
  pub header : 20 ≤ ipv4_header_length b
  pub fits : ipv4_header_length b ≤ length b
  pub total : big_number 2 (drop 2 b) ≡ length b

-- the bit "more fragments" and the fragment offset in octets 6 and 7, behind a reserved bit and "don't
-- fragment"
abbrev pub more_fragments : Octets → ℕ
more_fragments b = big_number 2 (drop 6 b) / 2 ^ 13 % 2

abbrev pub fragment_offset : Octets → ℕ
fragment_offset b = big_number 2 (drop 6 b) % 2 ^ 13

abbrev pub IsFragment : Octets → Type 0
IsFragment b = (more_fragments b ≡ 1) ⊎ (fragment_offset b ≢ 0)

-- f is the flow of the packet b, which is no fragment: addresses in octets 12 to 15 and 16 to 19
pub record IsIpv4Flow (b : Octets) (f : Flow) : Type 0 where
  pub packet : IsIpv4Packet b
  pub whole : ¬ IsFragment b
  pub protocol : f.protocol ≡ ipv4_protocol b
  pub source : f.source ≡ V4 (big_number 4 (drop 12 b))
  pub target : f.target ≡ V4 (big_number 4 (drop 16 b))
  pub ports : ArePorts (ipv4_protocol b) (ipv4_content b) f.ports

-- a packet, and no fragment, that ends before its ports
pub record IsShortIpv4Packet (b : Octets) : Type 0 where
  pub packet : IsIpv4Packet b
  pub whole : ¬ IsFragment b
  pub short : LacksPorts (ipv4_protocol b) (ipv4_content b)

-- which IPv4 packets are refused, and for what
abbrev pub IsIpv4Refusal : Octets → InnerFault → Type 0
IsIpv4Refusal b BadInner = (¬ IsIpv4Packet b) ⊎ IsShortIpv4Packet b
IsIpv4Refusal b Fragment = IsIpv4Packet b × IsFragment b
IsIpv4Refusal b ExtensionHeader = ⊥

-- IPv6

-- what follows the header, which has 40 octets
abbrev pub ipv6_content : Octets → Octets
ipv6_content b = drop 40 b

-- the next header in octet 6
abbrev pub next_header : Octets → ℕ
next_header b = slice_index b 6

-- version 6, and the length of what follows the header in octets 4 and 5
pub record IsIpv6Packet (b : Octets) : Type 0 where
  pub least : 40 ≤ length b
  pub most : length b ≤ 16384
  pub version : version_of b ≡ 6
  pub payload : big_number 2 (drop 4 b) + 40 ≡ length b

-- Extension headers (RFC 8200 section 4): hop-by-hop options, routing, fragment, authentication (RFC 4302),
-- destination options. They are not read, a limit of this implementation.
abbrev pub IsExtensionHeader : ℕ → Type 0
IsExtensionHeader number = (number ≡ 0) ⊎ ((number ≡ 43) ⊎ ((number ≡ 44) ⊎ ((number ≡ 51) ⊎ (number ≡ 60))))

-- f is the flow of the packet b, whose next header is its protocol: addresses in octets 8 to 23 and 24 to 39
pub record IsIpv6Flow (b : Octets) (f : Flow) : Type 0 where
  pub packet : IsIpv6Packet b
  pub plain : ¬ IsExtensionHeader (next_header b)
  pub protocol : f.protocol ≡ next_header b
  pub source : f.source ≡ V6 (big_number 16 (drop 8 b))
  pub target : f.target ≡ V6 (big_number 16 (drop 24 b))
  pub ports : ArePorts (next_header b) (ipv6_content b) f.ports

-- a packet without extension headers that ends before its ports
pub record IsShortIpv6Packet (b : Octets) : Type 0 where
  pub packet : IsIpv6Packet b
  pub plain : ¬ IsExtensionHeader (next_header b)
  pub short : LacksPorts (next_header b) (ipv6_content b)

-- which IPv6 packets are refused, and for what
abbrev pub IsIpv6Refusal : Octets → InnerFault → Type 0
IsIpv6Refusal b BadInner = (¬ IsIpv6Packet b) ⊎ IsShortIpv6Packet b
IsIpv6Refusal b Fragment = ⊥
IsIpv6Refusal b ExtensionHeader = IsIpv6Packet b × IsExtensionHeader (next_header b)

-- Either

-- f is the flow of the packet b
abbrev pub IsFlowOf : Octets → Flow → Type 0
IsFlowOf b f = IsIpv4Flow b f ⊎ IsIpv6Flow b f

-- which octets are refused, and for what: E21 where neither version has a packet that can be read, and a
-- packet of one version is none of the other
abbrev pub IsInnerRefusal : Octets → InnerFault → Type 0
IsInnerRefusal b BadInner = IsIpv4Refusal b BadInner × IsIpv6Refusal b BadInner
IsInnerRefusal b Fragment = IsIpv4Refusal b Fragment
IsInnerRefusal b ExtensionHeader = IsIpv6Refusal b ExtensionHeader
