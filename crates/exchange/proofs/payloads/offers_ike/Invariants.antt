use Rattle.std.proofs.Common.{◌≡◌, drop}
use Rattle.std.specs.List.{list_any}
use Rattle.exchange.specs.Counting.{offers_protocol}
use Rattle.exchange.proofs.payloads.offers_ike.Given as goal

abbrev pub invariant-loop-payload : goal.invariant-loop-payload
invariant-loop-payload l = list_any (offers_protocol 1) (drop l.payload-index l.payloads) ≡ list_any (offers_protocol 1) l.payloads
