use Rattle.std.proofs.Common.{◌≡◌, ◌∙◌, sym, ap, nat_eq, nat_lt, false, arith}
use Rattle.std.proofs.lemmas.Bool.Decides.{nat_tests}
use Rattle.std.proofs.lemmas.Nat.Bits.{bit_at_above}
use Rattle.requests.proofs.numbers.is_marked.Goals as goal

pub returns-else-place-lt16 : goal.returns-else-place-lt16
returns-else-place-lt16 c =
    let far : nat_lt c.args.place 16 ≡ false = let is = c.if-place-lt16.false in grind (arith, nat_tests) in
    far ∙ sym (ap (λ b. nat_eq b 1) (bit_at_above c.args.marks 16 c.args.place c.ranges.marks.fits c.if-place-lt16.false))
