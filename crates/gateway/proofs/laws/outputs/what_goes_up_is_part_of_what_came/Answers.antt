use Rattle.gateway.proofs.LentLemmas.{goes_up_as_lent}
use Rattle.gateway.proofs.laws.outputs.what_goes_up_is_part_of_what_came.Goals as goal

pub returns : goal.returns
returns g c = λ meaning given child number packet old new s. goes_up_as_lent meaning given child number packet old new s
