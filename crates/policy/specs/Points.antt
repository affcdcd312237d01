-- Traffic selectors as sets of points (RFC 4301 section 4.4.1.1, RFC 7296 section 3.13.1). A point is one
-- end of a flow: an IP protocol, an address, and a port where the protocol has ports.
use Rattle.std.specs.Prelude.{◌≡◌, ◌<◌, ◌≤◌, ◌^◌, ◌⊎◌, ◌↔◌, ℕ, List, Option, Some, None, slice_get}
use Rattle.base.specs.Addresses.{FitsRange, HoldsAddress, IsAddress}
use Rattle.base.specs.declared.selector.Selector.{Selector}
use Rattle.policy.specs.declared.point.Point.{Point}

-- Of the protocols with ports (RFC 4301 section 4.4.1.1) TCP and UDP count alone. ICMP types, mobility
-- header types and OPAQUE ports are not understood: the points of every other protocol have no port, a
-- limit of this implementation.
abbrev pub HasPorts : ℕ → Type 0
HasPorts protocol = (protocol ≡ 6) ⊎ (protocol ≡ 17)

-- a port is there exactly where the protocol has ports
abbrev pub IsPortOf : ℕ → Option ℕ → Type 0
IsPortOf protocol None = ¬ HasPorts protocol
IsPortOf protocol (Some port) = HasPorts protocol × (port < 2 ^ 16)

pub record IsPoint (p : Point) : Type 0 where
  pub protocol : p.protocol < 2 ^ 8
  pub address : IsAddress p.address
  pub port : IsPortOf p.protocol p.port

-- a selector of protocol 0 has points of every protocol
abbrev pub FitsProtocol : ℕ → ℕ → Type 0
FitsProtocol wanted protocol = (wanted ≡ 0) ⊎ (wanted ≡ protocol)

-- a range of ports from start to end, both included
abbrev pub IsPortRange : ℕ → ℕ → Type 0
IsPortRange start end = start ≤ end

-- Where there is no port, only the range of all ports fits. So a selector of protocol 0 with a narrower
-- range has points of TCP and UDP alone, and one of another protocol has none.
abbrev pub FitsPort : ℕ → ℕ → Option ℕ → Type 0
FitsPort start end None = (start ≡ 0) × (end ≡ 65535)
FitsPort start end (Some port) = (start ≤ port) × (port ≤ end)

-- the points of a selector, all of one family of addresses
pub record HoldsPoint (s : Selector) (p : Point) : Type 0 where
  pub point : IsPoint p
  pub protocol : FitsProtocol s.protocol p.protocol
  pub address : HoldsAddress s.addresses p.address
  pub port : FitsPort s.start_port s.end_port p.port

-- the points of a list of selectors: those of any of them
pub record HoldsAny (ss : List Selector) (p : Point) : Type 0 where
  pub place : ℕ
  pub selector : Selector
  pub there : slice_get ss place ≡ Some selector
  pub held : HoldsPoint selector p

-- Of sets of points: a set is not empty, lies in another, meets another.
pub record IsNonempty (A : Point → Type 0) : Type 0 where
  pub point : Point
  pub inside : A point

abbrev pub LiesIn : (Point → Type 0) → (Point → Type 0) → Type 0
LiesIn A B = (p : Point) → A p → B p

pub record Meets (A B : Point → Type 0) : Type 0 where
  pub point : Point
  pub in_one : A point
  pub in_other : B point

-- the numbers of a selector are those that its fields can have
pub record FitsSelectorFields (s : Selector) : Type 0 where
  pub protocol : s.protocol < 2 ^ 8
  pub start_port : s.start_port < 2 ^ 16
  pub end_port : s.end_port < 2 ^ 16
  pub addresses : FitsRange s.addresses

-- the selector has exactly the points that two sets have in common, and there are some
pub record IsCommonPart (A B : Point → Type 0) (common : Selector) : Type 0 where
  pub points : (p : Point) → HoldsPoint common p ↔ (A p × B p)
  pub some : IsNonempty (HoldsPoint common)
  pub fields : FitsSelectorFields common
