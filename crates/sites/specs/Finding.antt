-- Which gateway a datagram is for.
use Rattle.std.specs.Prelude.{◌+◌, ◌==◌, ◌&&◌, ◌||◌, ℕ, Bool, nat_le, nat_lt, nat_eq, if◌then◌else◌}
use Rattle.std.specs.Prelude.{Option, None, List, length, take, drop, option_map, reverse, not}
use Rattle.std.specs.Cmp.Lexicographic.{pointwise}
use Rattle.std.specs.Int.{from_be_bytes, w32, w64}
use Rattle.std.specs.List.{filter, find, list_any}
use Rattle.std.specs.Option.{option_or}
use Rattle.sites.specs.Ranges.{has_key}
use Rattle.sites.specs.declared.held.Held.{Held}
use Rattle.sites.specs.declared.site.Site.{Site}

-- all gateways but that of this name
abbrev pub others_than : ℕ → List Site → List Site
others_than key sites = filter (λ site. not (has_key key site)) sites

-- the SPI is in the gateway's range
abbrev pub takes : ℕ → Site → Bool
takes spi site = nat_le site.start spi && nat_lt spi (site.start + 65536)

-- the SPI that an ESP packet begins with (RFC 4303 section 2.1)
abbrev pub spi_of_esp : List ℕ → ℕ
spi_of_esp packet = from_be_bytes w32 (take 4 packet)

-- the gateway whose range has that SPI
abbrev pub site_of_esp : List ℕ → List Site → Option Site
site_of_esp packet sites = if nat_lt (length packet) 4 then None else find (takes (spi_of_esp packet)) sites

-- the SPIs that an IKE message begins with, the initiator's and the responder's (RFC 7296 section 3.1)
abbrev pub spi_i_of : List ℕ → ℕ
spi_i_of datagram = from_be_bytes w64 (take 8 datagram)

abbrev pub spi_r_of : List ℕ → ℕ
spi_r_of datagram = from_be_bytes w64 (take 8 (drop 8 datagram))

-- a gateway of this name holds an IKE SA with these SPIs: the responder's is zero until it is known (section
-- 3.1), and doesn't count then
abbrev pub has_association : ℕ → ℕ → ℕ → List Held → Bool
has_association spi_i spi_r key held =
    list_any (λ one. (one.key == key) && (one.spi_i == spi_i) && ((spi_r == 0) || (one.spi_r == spi_r))) held

-- the gateway's peer has this address
abbrev pub has_peer : List ℕ → Site → Bool
has_peer address site = pointwise nat_eq site.peer address

-- the gateway's peer has this address, and it holds an IKE SA with these SPIs
abbrev pub is_holder : List ℕ → ℕ → ℕ → List Held → Site → Bool
is_holder address spi_i spi_r held site = has_peer address site && has_association spi_i spi_r site.key held

-- the first such gateway
abbrev pub holder_of : List ℕ → ℕ → ℕ → List Held → List Site → Option Site
holder_of address spi_i spi_r held sites = find (is_holder address spi_i spi_r held) sites

-- the first gateway of this address that holds the IKE SA that a message is of
abbrev pub holder : List ℕ → List ℕ → List Held → List Site → Option Site
holder address datagram held sites =
    if nat_lt (length datagram) 16 then None
    else holder_of address (spi_i_of datagram) (spi_r_of datagram) held sites

-- the newest gateway of this address
abbrev pub newest : List ℕ → List Site → Option Site
newest address sites = find (has_peer address) (reverse sites)

-- that which holds the IKE SA, else the newest
abbrev pub site_of_ike : List ℕ → List ℕ → List Held → List Site → Option Site
site_of_ike address datagram held sites = option_or (holder address datagram held sites) (newest address sites)

-- the caller's own name of the gateway that was found
abbrev pub key_of : Option Site → Option ℕ
key_of found = option_map (λ site. site.key) found
