use Rattle.moments.proofs.HeldLemmas.{untouched}
use Rattle.moments.proofs.laws.nothing_comes_before_the_next_moment.Goals as goal

pub returns : goal.returns
returns c = λ moment now old new table new_table ticked quiet fits before is. untouched now old new table new_table ticked (quiet now fits before) is
