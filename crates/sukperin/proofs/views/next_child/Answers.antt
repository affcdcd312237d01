use Rattle.std.proofs.Common.{Some, refl}
use Rattle.sukperin.proofs.views.next_child.Goals as goal

pub returns-in-Some : goal.returns-in-Some
returns-in-Some c = record {
  child = Some c.in-Some.pair.now;
  next = c.in-Some.ensures.some;
  tells = (refl, c.child_of.ensures);
}
