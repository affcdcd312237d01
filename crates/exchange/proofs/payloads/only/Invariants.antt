use Rattle.std.proofs.Common.{◌≡◌, drop}
use Rattle.std.specs.Option.{option_copied}
use Rattle.exchange.specs.Counting.{only}
use Rattle.exchange.proofs.CountingLemmas.{only_after}
use Rattle.exchange.proofs.payloads.only.Given as goal

abbrev pub invariant-loop-payload : goal.invariant-loop-payload
invariant-loop-payload l = only_after (option_copied l.found) l.kind (drop l.payload-index l.payloads) ≡ only l.kind l.payloads
