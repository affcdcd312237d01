use Rattle.base.specs.Octets.{IsOctet}
use Rattle.wire.proofs.SizeLemmas.{payload_long, payloads_long, message_long}
use Rattle.wire.proofs.laws.spellings_have_their_size.Goals as goal

pub returns-clause-payload : goal.returns-clause-payload
returns-clause-payload c = payload_long IsOctet

pub returns-clause-payloads : goal.returns-clause-payloads
returns-clause-payloads c = payloads_long IsOctet

pub returns-clause-message : goal.returns-clause-message
returns-clause-message c = message_long IsOctet
