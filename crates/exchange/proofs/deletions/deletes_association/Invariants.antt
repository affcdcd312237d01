use Rattle.std.proofs.Common.{◌≡◌, drop}
use Rattle.exchange.specs.Deletions.{deletes_association}
use Rattle.exchange.proofs.deletions.deletes_association.Given as goal

abbrev pub invariant-loop-payload : goal.invariant-loop-payload
invariant-loop-payload l = deletes_association (drop l.payload-index l.payloads) ≡ deletes_association l.payloads
