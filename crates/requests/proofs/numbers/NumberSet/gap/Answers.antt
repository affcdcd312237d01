use Rattle.std.proofs.Common.{subst, ◌^◌, ◌<◌, ℕ}
use Rattle.requests.specs.Numbers.{HasNumber, IsGap, NumberSet}
use Rattle.requests.proofs.SetLemmas.{is_gap_of, fits_of}
use Rattle.requests.proofs.numbers.NumberSet.gap.Goals as goal

pub returns-clause-gap : goal.returns-clause-gap
returns-clause-gap c = subst (λ (s : NumberSet). IsGap s c.self.inside.gap) c.self.view_is (is_gap_of c.self.inside.gap c.self.inside.marks c.self.invariant)

pub returns-clause-fits : goal.returns-clause-fits
returns-clause-fits c = subst (λ (s : NumberSet). (n : ℕ) → HasNumber s n → n < 2 ^ 32) c.self.view_is (fits_of c.self.inside.gap c.self.inside.marks c.self.invariant)
