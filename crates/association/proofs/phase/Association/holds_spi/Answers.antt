use Rattle.std.proofs.Common.{MatchBool, subst, sym}
use Rattle.association.specs.Closing.{HoldsNoSpi, HoldsSomeSpi}
use Rattle.association.specs.declared.phase.Association.{Association}
use Rattle.association.proofs.AwaitingLemmas.{both_told, first_held}
use Rattle.association.proofs.phase.Association.holds_spi.Goals as goal

pub returns-then-asks_first : goal.returns-then-asks_first
returns-then-asks_first c =
    let a : Association = c.args.self.now in
    subst (λ b. MatchBool b (HoldsSomeSpi a) (HoldsNoSpi a)) (sym c.if-asks_first.true) (first_held a c.if-asks_first.ensures)

pub returns-else-asks_first : goal.returns-else-asks_first
returns-else-asks_first c = both_told c.args.self.now c.asks_further.result c.if-asks_first.ensures c.asks_further.ensures
