use Rattle.std.proofs.Common.{refl}
use Rattle.sadb.specs.declared.pair.State.TheVariants.{Deleting}
use Rattle.sadb.proofs.TableLemmas.{changed_in, marks_at}
use Rattle.sadb.proofs.table.Table.mark.Goals as goal

pub invariant_of-self : goal.invariant_of-self
invariant_of-self c =
    let marked = c.mark.ensures.marked in
    changed_in c.self.inside.places c.self.inside.pairs c.mark.new.self c.args.serial marked.pair (record marked.pair { state = Deleting }) c.self.invariant marked.there refl c.mark.ensures.rest marked.changed

pub returns : goal.returns
returns c = marks_at c.args.self.now c.self.inside.places c.self.inside.pairs c.mark.new.self c.args.serial c.self.view_is c.mark.ensures.rest c.mark.ensures.marked
