use Rattle.std.proofs.Common.{◌≡◌, ap, sym, ◌∙◌, arith}
use Rattle.wire.specs.declared.checking.Numbers.{Numbers}
use Rattle.wire.specs.Reading.{last_number}
use Rattle.wire.proofs.Numbering.{last_decides, more_numbered, none_numbered}
use Rattle.wire.proofs.checking.are_numbered.Goals as goal

pub returns-in-0 : goal.returns-in-0
returns-in-0 c = λ proposals e. none_numbered proposals (omega (arith, ap (λ (n : Numbers). n.count) e, c.in-0.is))

pub returns-in-1 : goal.returns-in-1
returns-in-1 c = λ proposals e.
    let last : last_number proposals ≡ c.args.numbers.last = ap (λ (n : Numbers). n.last) e in
    rw (← last) (last_decides proposals (omega (arith, ap (λ (n : Numbers). n.count) e, c.in-1.is)))

pub returns-in_default : goal.returns-in_default
returns-in_default c = λ proposals e. sym (ap (λ (n : Numbers). n.in_order) e) ∙ more_numbered proposals (omega (arith, ap (λ (n : Numbers). n.count) e, c.in_default))
