use Rattle.exchange.proofs.SealedLemmas.{opens_again}
use Rattle.exchange.proofs.laws.sealed_messages_open.Goals as goal

pub returns : goal.returns
returns g c keys fresh m b keyed octets long clear sealed =
    opens_again c.plain_spellings_are_spellings.ensures.message c.plain_spellings_are_spellings.ensures.payloads g.S.Sealer.body_of g.S.Sealer.plain_of g.met.S.Sealer.opens_again keys fresh m b keyed octets long clear sealed
