-- When an ESP packet is due at the SA pair that it is for (RFC 4303 section 3.4.3).
use Rattle.std.specs.Prelude.{◌≡◌, ◌+◌, ◌<◌, ℕ, false}
use Rattle.std.specs.FinSet as set
use Rattle.base.specs.Octets.{Octets}
use Rattle.esp.specs.Judging.{IsNumber, low_half}
use Rattle.sadb.specs.Database.{Database, IsInbound}
use Rattle.sadb.specs.declared.pair.Pair.{Pair}

-- The SA pair is found by its SPI, and this is the packet's sequence number there, not below the window and
-- not taken yet. Nothing is said here of the packet's ICV or of what it carries.
pub record IsDueAtPair (table : Database) (pair : Pair) (octets : Octets) (number : ℕ) : Type 0 where
  pub found : IsInbound table.pairs pair.inbound.association.spi pair
  pub number_is : IsNumber pair.inbound.association.extended pair.inbound.window (low_half octets) number
  pub in_reach : pair.inbound.window.top < number + pair.inbound.window.size
  pub new : set.contains pair.inbound.window.taken number ≡ false
