use Rattle.std.proofs.Common.{◌+◌, Bool, ℕ, eqb, sym, ap, ◌∙◌}
use Rattle.std.specs.Prelude.{◌&&◌}
use Rattle.wire.proofs.Numbering.{numbers_more}
use Rattle.wire.proofs.checking.with_number.Goals as goal

pub returns-then-numbers-clause-sees : goal.returns-then-numbers-clause-sees
returns-then-numbers-clause-sees c = λ before proposal e is.
    numbers_more c.args.numbers c.args.number before proposal e is
    ∙ ap (λ (b : Bool). record { count = c.args.numbers.count + 1; last = c.args.number; in_order = b && eqb c.args.number (c.args.numbers.count + 1) }) c.if-numbers.true
    ∙ ap (λ (n : ℕ). record { count = c.args.numbers.count + 1; last = c.args.number; in_order = eqb n (c.args.numbers.count + 1) }) (sym c.from.ensures)

pub returns-else-numbers-clause-sees : goal.returns-else-numbers-clause-sees
returns-else-numbers-clause-sees c = λ before proposal e is.
    numbers_more c.args.numbers c.args.number before proposal e is
    ∙ ap (λ (b : Bool). record { count = c.args.numbers.count + 1; last = c.args.number; in_order = b && eqb c.args.number (c.args.numbers.count + 1) }) c.if-numbers.false
    ∙ ap (λ (b : Bool). record { count = c.args.numbers.count + 1; last = c.args.number; in_order = b }) (sym c.if-numbers.false)
