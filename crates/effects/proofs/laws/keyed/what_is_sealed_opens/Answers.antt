use Rattle.effects.proofs.laws.keyed.what_is_sealed_opens.Goals as goal

pub returns : goal.returns
returns g c = λ fresh fits long. record { again = λ keys m octets keyed clear sealed. c.sealed_messages_open.ensures keys fresh m octets keyed fits long clear sealed }
