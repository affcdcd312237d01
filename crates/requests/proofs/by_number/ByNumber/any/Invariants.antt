-- the test is false of each item so far
use Rattle.std.proofs.Common.{false}
use Rattle.std.specs.Fn.{FnReturnsAt}
use Rattle.std.specs.List.{AllWithin}
use Rattle.requests.proofs.by_number.ByNumber.any.Given as goal

abbrev pub invariant-loop-entry : goal.invariant-loop-entry
invariant-loop-entry g l = AllWithin (λ e. FnReturnsAt g.F.Fn l.test e.1 false) l.entry-items 0 l.entry-index
