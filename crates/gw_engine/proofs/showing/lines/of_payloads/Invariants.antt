use Rattle.std.proofs.Common.{◌≡◌, ◌++◌, string_bytes, drop}
use Rattle.wire.specs.Numbers.{HEADER_LENGTH}
use Rattle.gw_engine.specs.Showing.{payloads_text}
use Rattle.gw_engine.proofs.showing.lines.of_payloads.Given as goal

abbrev pub invariant-loop-payload : goal.invariant-loop-payload
invariant-loop-payload l = payloads_text HEADER_LENGTH l.payloads ≡ string_bytes l.lines ++ payloads_text l.offset (drop l.payload-index l.payloads)
