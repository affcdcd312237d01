use Rattle.std.proofs.Common.{◌≡◌, drop}
use Rattle.std.specs.List.{list_any}
use Rattle.exchange.specs.Notices.{is_invalid_syntax}
use Rattle.exchange.proofs.notices.has_invalid_syntax.Given as goal

abbrev pub invariant-loop-payload : goal.invariant-loop-payload
invariant-loop-payload l = list_any is_invalid_syntax (drop l.payload-index l.payloads) ≡ list_any is_invalid_syntax l.payloads
