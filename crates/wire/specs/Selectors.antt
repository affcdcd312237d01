-- The inside of a payload of traffic selectors (RFC 7296 section 3.13).
use Rattle.std.specs.Prelude.{◌≡◌, ◌<◌, ◌≤◌, ◌^◌, ℕ, List, ◌∷◌, ◌++◌, length}
use Rattle.byteorder.specs.Endian.{big_bytes}
use Rattle.base.specs.Addresses.{FitsRange, IsOrdered}
use Rattle.base.specs.declared.address.Range.{Range}
use Rattle.base.specs.declared.address.Range.TheVariants as range
use Rattle.base.specs.declared.selector.Selector.{Selector}
use Rattle.wire.specs.Numbers.{IPV4_RANGE_TYPE, IPV6_RANGE_TYPE, SELECTOR_LIMIT}
use Rattle.wire.specs.Parts.{IsPart, SpellsEach}

-- Section 3.13.1: the type of a selector that is a range of addresses of this family.
abbrev pub selector_type : Range → ℕ
selector_type (range.V4 start end) = IPV4_RANGE_TYPE
selector_type (range.V6 start end) = IPV6_RANGE_TYPE

-- Both ends of the range: an IPv4 address is four octets, an IPv6 address sixteen.
abbrev pub ends_octets : Range → List ℕ
ends_octets (range.V4 start end) = big_bytes 4 start ++ big_bytes 4 end
ends_octets (range.V6 start end) = big_bytes 16 start ++ big_bytes 16 end

-- Section 3.13.1: the type, the IP protocol, the length, the ports, the addresses. So the length is 16 or
-- 40. No start is above its end: of ports, OPAQUE (65535 to 0) is not understood here.
pub record SpellsSelector (s : Selector) (x : List ℕ) : Type 0 where
  pub part : IsPart (selector_type s.addresses) s.protocol (big_bytes 2 s.start_port ++ big_bytes 2 s.end_port ++ ends_octets s.addresses) x
  pub ports : s.start_port ≤ s.end_port
  pub port : s.end_port < 2 ^ 16
  pub addresses : IsOrdered s.addresses
  pub fits : FitsRange s.addresses

-- Section 3.13: their count, three reserved octets, and 1 to 16 selectors, a limit of this implementation.
-- Selectors of both families may stand in one payload.
pub record SpellsSelectors (Free : ℕ → Type 0) (ss : List Selector) (body : List ℕ) : Type 0 where
  pub reserved_1 : ℕ
  pub reserved_2 : ℕ
  pub reserved_3 : ℕ
  pub free : Free reserved_1 × Free reserved_2 × Free reserved_3
  pub selectors : List ℕ
  pub spelled : body ≡ length ss ∷ reserved_1 ∷ reserved_2 ∷ reserved_3 ∷ selectors
  pub some : 1 ≤ length ss
  pub few : length ss ≤ SELECTOR_LIMIT
  pub each : SpellsEach SpellsSelector ss selectors
