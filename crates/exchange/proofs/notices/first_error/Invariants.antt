use Rattle.std.proofs.Common.{◌≡◌, drop}
use Rattle.exchange.specs.Notices.{first_error}
use Rattle.exchange.proofs.notices.first_error.Given as goal

abbrev pub invariant-loop-payload : goal.invariant-loop-payload
invariant-loop-payload l = first_error (drop l.payload-index l.payloads) ≡ first_error l.payloads
