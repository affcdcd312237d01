use Rattle.std.proofs.Common.{ℕ, IfNone, subst}
use Rattle.sadb.specs.Database.{Carries}
use Rattle.sadb.proofs.table.Table.outbound.Goals as goal

pub returns-clause-none : goal.returns-clause-none
returns-clause-none c =
    subst (λ d. IfNone c.outbound.result ((serial : ℕ) → ¬ Carries d.pairs c.args.flow.now serial)) c.self.view_is c.outbound.ensures.none
