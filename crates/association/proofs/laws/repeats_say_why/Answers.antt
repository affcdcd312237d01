use Rattle.association.proofs.RepeatingLemmas.{repeats_say}
use Rattle.association.proofs.laws.repeats_say_why.Goals as goal

pub returns : goal.returns
returns c = repeats_say
