use Rattle.std.proofs.Common.{◌∙◌, sym, ap, subst, ℕ}
use Rattle.std.specs.FinSet as set
use Rattle.requests.specs.Storage.{AreMarks, counted}
use Rattle.requests.proofs.SetLemmas.{all_below_shown, all_below_marks}
use Rattle.requests.proofs.numbers.tests.all_below.Goals as goal

pub returns : goal.returns
returns c = λ n. ap (λ (gap : ℕ). set.contains (counted gap 0) n) c.from.ensures ∙ all_below_shown c.args.gap n

pub invariant_of-result : goal.invariant_of-result
invariant_of-result c = subst (λ (gap : ℕ). AreMarks gap 0) (sym c.from.ensures) (all_below_marks c.args.gap c.ranges.gap.fits)
