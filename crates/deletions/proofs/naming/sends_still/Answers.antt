use Rattle.std.proofs.Common.{sym, ◌∙◌}
use Rattle.deletions.proofs.LeftLemmas.{gone_sends, sends_by}
use Rattle.deletions.proofs.naming.sends_still.Goals as goal

pub returns-then-contains : goal.returns-then-contains
returns-then-contains c = (
  λ is. absurd (cc),
  λ s. absurd (gone_sends c.args.table.now.pairs c.args.gone.now c.args.ike c.args.spi c.args.serial (sym c.contains.ensures.value ∙ c.if-contains.true) s),
)

pub returns-in-Some : goal.returns-in-Some
returns-in-Some c = sends_by c.args.table.now.pairs c.args.gone.now c.args.ike c.args.spi c.args.serial c.spi.result c.in-Some.pair.now c.in-Some.ensures (sym c.contains.ensures.value ∙ c.if-contains.false) c.requires c.spi.ensures
