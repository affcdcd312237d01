-- What the next header of an ESP packet says of its payload (RFC 4303 section 2.6).
use Rattle.std.specs.Prelude.{◌==◌, ℕ, Option, Some, None, if◌then◌else◌}
use Rattle.base.specs.declared.address.Family.{Family}
use Rattle.base.specs.declared.address.Family.TheVariants.{V4, V6}

-- a packet of IPv4, and one of IPv6
abbrev pub next_header_of : Family → ℕ
next_header_of V4 = 4
next_header_of V6 = 41

-- the family of the packets under a next header; every other one names no packet
abbrev pub family_under : ℕ → Option Family
family_under next = if next == 4 then Some V4 else if next == 41 then Some V6 else None

-- no next header: the payload is nothing, and the packet a dummy
abbrev pub no_next_header : ℕ
no_next_header = 59
