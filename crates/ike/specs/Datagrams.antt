-- A datagram that came and was read, as plain data.
use Rattle.base.specs.Octets.{Octets}
use Rattle.wire.specs.declared.message.Message.{Message}

-- the IPv4 address that it was sent from, its octets, and the message that they spell
pub record Datagram : Type 0 where
  pub from : Octets
  pub octets : Octets
  pub message : Message
