use Rattle.std.proofs.Common.{sym, subst}
use Rattle.sadb.specs.Storage.{AreGiven}
use Rattle.sadb.proofs.GivenLemmas.{none_given}
use Rattle.sadb.proofs.places.Places.new.Goals as goal

pub invariant_of-result : goal.invariant_of-result
invariant_of-result c = subst (λ places. AreGiven c.args.start places 0) (sym c.new.ensures.items) (none_given c.args.start c.requires)
