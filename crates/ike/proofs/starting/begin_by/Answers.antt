use Rattle.std.proofs.Common.{Bool, refl, subst}
use Rattle.ike.specs.Starting.{BeginsNext}
use Rattle.ike.proofs.starting.begin_by.Goals as goal

pub returns-clause-started : goal.returns-clause-started
returns-clause-started g c =
    let allowed = c.in_ok-allowed.ensures.allowed in
    record {
      entry = c.in_ok-allowed.allowed.entry;
      allowed = record { none = allowed.none; protects = allowed.protects; next = refl; left = allowed.left };
      beginning = c.in_ok-beginning.beginning;
      begins = c.in_ok-beginning.ensures;
      between = c.prepare.new.table;
      room = c.prepare.ensures.content;
      done = subst (λ (x : Bool). BeginsNext c.in_ok-allowed.allowed.entry x c.in_ok-beginning.beginning c.args.held.now c.prepare.new.table c.in_ok-begin_next.field-0 c.begin_next.new.held c.begin_next.new.table)
          c.extended.ensures c.in_ok-begin_next.ensures.begun;
    }
