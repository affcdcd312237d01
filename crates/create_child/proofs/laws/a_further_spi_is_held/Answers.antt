use Rattle.create_child.proofs.AskingLemmas.{asked_holds, asked_others, asked_own, asked_reserved}
use Rattle.create_child.proofs.laws.a_further_spi_is_held.Goals as goal

pub returns-clause-own : goal.returns-clause-own
returns-clause-own c = asked_own

pub returns-clause-held : goal.returns-clause-held
returns-clause-held c = asked_holds

pub returns-clause-reserved : goal.returns-clause-reserved
returns-clause-reserved c = asked_reserved

pub returns-clause-others : goal.returns-clause-others
returns-clause-others c = asked_others
