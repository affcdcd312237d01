use Rattle.wire.proofs.Encoding.{plain_is_spelled}
use Rattle.wire.proofs.WrittenPayloads.{payloads_weaken}
use Rattle.wire.proofs.laws.plain_spellings_are_spellings.Goals as goal

pub returns-clause-message : goal.returns-clause-message
returns-clause-message c = plain_is_spelled

pub returns-clause-payloads : goal.returns-clause-payloads
returns-clause-payloads c = payloads_weaken
