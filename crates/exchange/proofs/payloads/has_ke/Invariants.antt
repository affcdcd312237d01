use Rattle.std.proofs.Common.{◌≡◌, drop}
use Rattle.exchange.specs.Counting.{has_ke}
use Rattle.exchange.proofs.payloads.has_ke.Given as goal

abbrev pub invariant-loop-payload : goal.invariant-loop-payload
invariant-loop-payload l = has_ke (drop l.payload-index l.payloads) ≡ has_ke l.payloads
