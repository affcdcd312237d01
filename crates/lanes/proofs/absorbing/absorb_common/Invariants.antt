use Rattle.lanes.specs.Absorbing.{Advances}
use Rattle.lanes.proofs.absorbing.absorb_common.Given as goal

abbrev pub invariant-loop-ahead : goal.invariant-loop-ahead
invariant-loop-ahead l = Advances l.messages l.taken l.fn.start 0 l.state l.ahead
