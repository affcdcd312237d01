use Rattle.std.proofs.Common.{◌≡◌, ◌≤◌, ◌<◌, ◌-◌, ◌∙◌, sym, ap, nat_eq, nat_lt, true, arith}
use Rattle.std.specs.FinSet as set
use Rattle.std.specs.Int.{bit_at}
use Rattle.std.proofs.lemmas.Bool.Decides.{nat_tests}
use Rattle.requests.specs.Numbers.{NumberSet}
use Rattle.requests.proofs.SetLemmas.{counted_at, counted_below, counted_above}
use Rattle.requests.proofs.numbers.NumberSet.contains.Goals as goal

pub returns-then-number-self : goal.returns-then-number-self
returns-then-number-self c =
    let gap = c.self.inside.gap in
    let marks = c.self.inside.marks in
    let number_is = c.from-number.ensures in
    let below : c.args.number < gap = let is = c.if-number-self.true in omega arith in
    let less : nat_lt c.from-number.result gap ≡ true = let is = c.if-number-self.true in grind (arith, nat_tests) in
    less ∙ sym (counted_below gap marks c.args.number below) ∙ sym (counted_at gap marks c.args.number c.self.invariant.width)
    ∙ ap (λ (s : NumberSet). set.contains s c.args.number) c.self.view_is

pub returns-else-number-self : goal.returns-else-number-self
returns-else-number-self c =
    let gap = c.self.inside.gap in
    let marks = c.self.inside.marks in
    let number_is = c.from-number.ensures in
    let above : gap ≤ c.args.number = let is = c.if-number-self.false in omega arith in
    c.is_marked.ensures
    ∙ ap (λ n. nat_eq (bit_at marks (n - gap)) 1) number_is
    ∙ sym (counted_above gap marks c.args.number above) ∙ sym (counted_at gap marks c.args.number c.self.invariant.width)
    ∙ ap (λ (s : NumberSet). set.contains s c.args.number) c.self.view_is
