use Rattle.sadb.proofs.DeterminedTables.{same_after_preparing, same_after_reserving, same_after_releasing, same_after_installing, same_after_emptying}
use Rattle.sadb.proofs.laws.later_tables_are_determined.Goals as goal

pub returns-clause-prepared : goal.returns-clause-prepared
returns-clause-prepared c = same_after_preparing

pub returns-clause-reserved : goal.returns-clause-reserved
returns-clause-reserved c = λ old other a b spi mark same one two. same_after_reserving old other a b same spi mark one two

pub returns-clause-released : goal.returns-clause-released
returns-clause-released c = λ old other a b spi same one two. same_after_releasing old other a b same spi one two

pub returns-clause-installed : goal.returns-clause-installed
returns-clause-installed c = λ old other a b spi mark pair serial number same one two. same_after_installing old other a b same spi mark pair serial number one two

pub returns-clause-emptied : goal.returns-clause-emptied
returns-clause-emptied c = same_after_emptying
