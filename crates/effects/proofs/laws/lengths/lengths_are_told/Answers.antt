use Rattle.effects.proofs.laws.lengths.lengths_are_told.Goals as goal

pub returns : goal.returns
returns g c = λ fresh fits long. record { told = λ keys keyed. c.ciphers_tell_lengths.ensures keys fresh keyed fits long }
