use Rattle.std.proofs.Common.{length, arith, ap}
use Rattle.requests.proofs.OrderLemmas.{all_gone, next_of}
use Rattle.requests.proofs.outstanding.OutstandingIterator.next.Goals as goal

pub returns-in_err-number-clause-steps : goal.returns-in_err-number-clause-steps
returns-in_err-number-clause-steps g c =
    let none = all_gone c.args.self.now.low c.args.self.now.requests.now (c.in_err-number.ensures.none) in
    rw c.from_residual.ensures (none, none)

pub returns-clause-steps : goal.returns-clause-steps
returns-clause-steps g c = next_of c.args.self.now.low c.args.self.now.requests.now c.in_ok-number.number c.in_ok-number.request.now c.in_ok-number.ensures.some

pub returns-clause-goes : goal.returns-clause-goes
returns-clause-goes g c =
    let steps = ap length (next_of c.args.self.now.low c.args.self.now.requests.now c.in_ok-number.number c.in_ok-number.request.now c.in_ok-number.ensures.some) in
    record { on = λ finite. (tt, tt, omega arith); keeps = tt; rests = λ finite. tt }
