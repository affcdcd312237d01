use Rattle.moments.proofs.HoldLemmas.{fewer_left, some_held, still_reserved}
use Rattle.moments.proofs.laws.some_are_held_on.Goals as goal

pub returns-clause-held : goal.returns-clause-held
returns-clause-held c = λ now old table ticked new new_table is. some_held now old table ticked.requests ticked.closed new new_table is

pub returns-clause-pairs : goal.returns-clause-pairs
returns-clause-pairs c = λ now old table ticked new new_table is. fewer_left now old table ticked.requests ticked.closed new new_table is

pub returns-clause-reserved : goal.returns-clause-reserved
returns-clause-reserved c = λ now old table ticked new new_table spi none kept is. still_reserved now old table ticked.requests ticked.closed new new_table spi none kept is
