use Rattle.std.proofs.Common.{◌<◌, ℕ, IfNone, subst}
use Rattle.sadb.specs.Database.{BelongsTo}
use Rattle.sadb.proofs.table.Table.next_of.Goals as goal

pub returns-clause-none : goal.returns-clause-none
returns-clause-none c =
    subst (λ d. IfNone c.next_of.result ((other : ℕ) → c.args.serial < other → ¬ BelongsTo d.pairs c.args.ike other)) c.self.view_is c.next_of.ensures.none
