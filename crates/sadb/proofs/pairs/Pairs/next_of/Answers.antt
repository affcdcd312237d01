use Rattle.std.proofs.Common.{◌<◌, arith}
use Rattle.sadb.proofs.pairs.Pairs.next_of.Goals as goal

pub returns-then-belongs_to-clause-some : goal.returns-then-belongs_to-clause-some
returns-then-belongs_to-clause-some c =
    let above : c.args.serial < c.loop-other.other = omega (arith, c.requires) in
    record {
      belongs = c.belongs_to.ensures.0 c.if-belongs_to.true;
      above = above;
      least = λ other over below. c.loop-other.invariant other (omega (arith, over)) below;
    }
