-- SA pairs of two ends that carry the same traffic (RFC 4301 section 4.1).
use Rattle.std.specs.Prelude.{◌≡◌}
use Rattle.sadb.specs.declared.pair.Pair.{Pair}

-- Two SA pairs mirror each other: what one end sends by its pair the other receives by its own, under the
-- same SPI and key, with sequence numbers of one length in both directions, and what is local to one is
-- remote to the other.
pub record Mirrors (a b : Pair) : Type 0 where
  pub inward : a.inbound.association ≡ b.outbound.association
  pub outward : a.outbound.association ≡ b.inbound.association
  pub extension : a.inbound.association.extended ≡ a.outbound.association.extended
  pub local : a.local ≡ b.remote
  pub remote : a.remote ≡ b.local

-- the same SA pair as the other end would hold it, but for sequence numbers, windows and serials of its own
abbrev pub reflection : Pair → Pair
reflection a = record a {
  inbound = record { association = a.outbound.association; window = a.inbound.window };
  outbound = record { association = a.inbound.association; last = a.outbound.last };
  local = a.remote;
  remote = a.local;
}
