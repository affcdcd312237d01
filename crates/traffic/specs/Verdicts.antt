-- The verdict on what an SA opened: by its next header, by what it is as a packet, and by the selectors of
-- the SA (RFC 4301 section 5.2, step 4).
use Rattle.std.specs.Prelude.{◌≡◌, ◌≢◌, ◌⊎◌, ℕ, List, Option, Result, Ok, Err, Some, None}
use Rattle.std.specs.Borrow.{Bor}
use Rattle.base.specs.Octets.{Octets}
use Rattle.base.specs.declared.selector.Selector.{Selector}
use Rattle.base.specs.declared.address.Family.{Family}
use Rattle.policy.specs.Decisions.{Covers}
use Rattle.policy.specs.Packets.{family_of_packet, IsFlowOf, IsInnerRefusal}
use Rattle.policy.specs.declared.fault.InnerFault.TheVariants.{BadInner, Fragment, ExtensionHeader}
use Rattle.policy.specs.declared.flow.Flow.{Flow}
use Rattle.traffic.specs.NextHeaders.{next_header_of, no_next_header}
use Rattle.traffic.specs.declared.fault.PacketFault.{PacketFault}
use Rattle.traffic.specs.declared.fault.PacketFault.TheVariants.{UnknownAssociation, Esp, Inner, OutsideSelectors}

-- what was carried, as plain data
pub data Verdict : Type 0 where
  Packet : Octets → Verdict
  Nothing : Verdict
  Refused : PacketFault → Verdict

-- The payload is of the family of packets that its next header names. That the family is the one in its
-- first octet is all that is asked of it here, before anything else of it is judged.
pub record IsNamedPacket (next : ℕ) (payload : Octets) : Type 0 where
  pub family : Family
  pub named : next ≡ next_header_of family
  pub version : family_of_packet payload ≡ Some family

-- the payload is such a packet, and this is its flow
pub record IsInnerPacket (next : ℕ) (payload : Octets) (flow : Flow) : Type 0 where
  pub named : IsNamedPacket next payload
  pub flow_is : IsFlowOf payload flow

-- a packet of the traffic that an SA carries inward: its source is on the peer's side, its target on this
-- end's
pub record IsTraffic (next : ℕ) (payload : Octets) (remote local : List Selector) : Type 0 where
  pub flow : Flow
  pub packet : IsInnerPacket next payload flow
  pub covered : Covers remote local flow

-- a packet of other traffic
pub record IsOtherTraffic (next : ℕ) (payload : Octets) (remote local : List Selector) : Type 0 where
  pub flow : Flow
  pub packet : IsInnerPacket next payload flow
  pub not_covered : ¬ Covers remote local flow

-- why a payload is not passed on: E21 for a next header that names no packet or not this one; then the
-- refusals of the packet itself; then E23
abbrev pub IsContentRefusal : ℕ → Octets → List Selector → List Selector → PacketFault → Type 0
IsContentRefusal next payload remote local (Inner BadInner) =
    (next ≢ no_next_header) × ((¬ IsNamedPacket next payload) ⊎ IsInnerRefusal payload BadInner)
IsContentRefusal next payload remote local (Inner Fragment) = IsNamedPacket next payload × IsInnerRefusal payload Fragment
IsContentRefusal next payload remote local (Inner ExtensionHeader) =
    IsNamedPacket next payload × IsInnerRefusal payload ExtensionHeader
IsContentRefusal next payload remote local OutsideSelectors = IsOtherTraffic next payload remote local
IsContentRefusal next payload remote local UnknownAssociation = ⊥
IsContentRefusal next payload remote local (Esp fault) = ⊥

abbrev pub IsVerdict : ℕ → Octets → List Selector → List Selector → Verdict → Type 0
IsVerdict next payload remote local (Packet packet) = (packet ≡ payload) × IsTraffic next payload remote local
IsVerdict next payload remote local Nothing = next ≡ no_next_header
IsVerdict next payload remote local (Refused fault) = IsContentRefusal next payload remote local fault

-- what the program's answer says
abbrev pub verdict_of : Result (Option (Bor Octets)) PacketFault → Verdict
verdict_of (Ok (Some packet)) = Packet packet.now
verdict_of (Ok None) = Nothing
verdict_of (Err fault) = Refused fault
