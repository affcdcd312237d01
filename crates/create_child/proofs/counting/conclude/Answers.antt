use Rattle.std.proofs.Common.{ℕ, refl, subst, sym}
use Rattle.association.specs.Closing.{HoldsSpi}
use Rattle.association.specs.declared.outcome.Fate.TheVariants as fate
use Rattle.association.specs.declared.phase.Association.{Association}
use Rattle.further.specs.declared.concluding.Conclusion.{Conclusion}
use Rattle.create_child.specs.Counting.{EndsFurther}
use Rattle.create_child.proofs.CountingLemmas.{release_keeps}
use Rattle.create_child.proofs.counting.conclude.Goals as goal

pub close-requires : goal.close-requires
close-requires c =
    let a : Association = c.args.association.now in
    c.spis_stay_held.ensures.fewer a a c.args.table.now c.release.new.self (λ spi its. its) (λ number spi awaits. awaits)
    (λ q held there. release_keeps c.args.table.now c.args.spi c.release.new.self q (λ same. c.requires.apart (subst (λ (s : ℕ). HoldsSpi a s) same held)) c.release.ensures there)
    c.requires.held

pub returns-in-Closes : goal.returns-in-Closes
returns-in-Closes c =
    subst (λ (k : Conclusion). EndsFurther k c.args.spi c.args.association.now c.args.table.now c.args.moment fate.Closed c.close.new.self c.close.new.table) (sym c.in-Closes.is)
    (record { closed = refl; between = c.release.new.self; released = c.release.ensures; over = c.close.ensures })
