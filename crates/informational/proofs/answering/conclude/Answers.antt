use Rattle.std.proofs.Common.{ℕ, List, refl, subst, sym}
use Rattle.sadb.specs.Database.{Database}
use Rattle.association.specs.declared.phase.Association.{Association}
use Rattle.deletions.specs.Deciding.{is_closing_verdict, AreLivePairs, IsSoundVerdict}
use Rattle.deletions.specs.Removing.{RemovesNamed}
use Rattle.deletions.specs.declared.deciding.Verdict.{Verdict}
use Rattle.informational.specs.Answering.{gone_by}
use Rattle.informational.specs.Orders.{ClosesIf}
use Rattle.informational.proofs.answering.conclude.Goals as goal

pub returns-in-Deletes : goal.returns-in-Deletes
returns-in-Deletes c =
    let a : Association = c.args.association.now in
    let table : Database = c.args.table.now in
    let new : Database = c.remove_named-in-Deletes.new.table in
    let sound : AreLivePairs table.pairs a.serial c.in-Deletes.deleted = subst (λ (v : Verdict). IsSoundVerdict table.pairs a.serial v) c.in-Deletes.is c.requires.sound in
    let removed : RemovesNamed table c.in-Deletes.deleted.serials new = subst (λ (serials : List ℕ). RemovesNamed table serials new) c.as_slice.ensures c.remove_named-in-Deletes.ensures in
    subst (λ (v : Verdict). ClosesIf (is_closing_verdict v) (gone_by v) a table c.args.moment a new) (sym c.in-Deletes.is) (refl, record { its_own = sound.its_own; removed = removed })
