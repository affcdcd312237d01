use Rattle.std.proofs.Common.{◌≡◌, drop}
use Rattle.exchange.specs.Counting.{unknown_critical}
use Rattle.exchange.proofs.payloads.unknown_critical.Given as goal

abbrev pub invariant-loop-payload : goal.invariant-loop-payload
invariant-loop-payload l = unknown_critical (drop l.payload-index l.payloads) ≡ unknown_critical l.payloads
