-- The length of an encrypted body follows from its content (RFC 7296 section 3.14), under whole keys.
use Rattle.std.specs.Prelude.{◌≡◌, Some}
use Rattle.base.specs.Octets.{Octets}
use Rattle.suite.specs.Keys.{initiator_keys, responder_keys}
use Rattle.suite.specs.Sealing.{AreKeys}
use Rattle.suite.specs.declared.key_record.KeyRecord.{KeyRecord}
use Rattle.suite.specs.declared.keys.Keys.{Keys}
use Rattle.exchange.specs.Sealed.{TellsLength}
use Rattle.association.specs.Phases.{keys_in}
use Rattle.association.specs.declared.phase.Phase.{Phase}

-- both ends seal under keys of 32 octets
pub record AreWholeKeys (keys : KeyRecord) : Type 0 where
  pub initiator : AreKeys (initiator_keys keys)
  pub responder : AreKeys (responder_keys keys)

-- so are the keys of an IKE SA that has them
abbrev pub HoldsWholeKeys : Phase → Type 0
HoldsWholeKeys p = (keys : KeyRecord) → keys_in p ≡ Some keys → AreWholeKeys keys

-- Under such keys, and with these fresh octets, the length of a sealed body follows from that of its plain
-- text, as the cipher's law says.
pub record TellsLengths (body_of : Keys → Octets → Octets → Octets → Octets) (fresh : Octets) : Type 0 where
  pub told : (keys : Keys) → AreKeys keys → TellsLength body_of keys fresh
