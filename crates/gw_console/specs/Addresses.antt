-- Addresses as text.
use Rattle.std.specs.Prelude.{ℕ, List, ◌++◌, codes, drop, flat_map, slice_index}
use Rattle.std.specs.Int.{w32, w128, to_be_bytes}
use Rattle.std.specs.Net.Addr.{segments_of}
use Rattle.std.specs.Net.Text.{ipv4_text}
use Rattle.base.specs.declared.address.Address.{Address}
use Rattle.base.specs.declared.address.Address.TheVariants.{V4, V6}
use Rattle.gw_console.specs.Digits.{hexadecimal}

-- groups of four digits with colons between them, none left out
abbrev pub groups_text : List ℕ → List ℕ
groups_text groups = hexadecimal 4 (slice_index groups 0) ++ flat_map (λ group. codes ":" ++ hexadecimal 4 group) (drop 1 groups)

-- the four octets of an IPv4 address with dots between them, or the eight groups of an IPv6 address
abbrev pub address_text : Address → List ℕ
address_text (V4 number) = ipv4_text (to_be_bytes w32 number)
address_text (V6 number) = groups_text (segments_of (to_be_bytes w128 number))
