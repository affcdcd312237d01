use Rattle.std.proofs.Common.{◌≡◌, drop}
use Rattle.wire.specs.Writing.{payloads_onto}
use Rattle.wire.proofs.chain.write_payloads.Given as goal

abbrev pub invariant-loop-place : goal.invariant-loop-place
invariant-loop-place l = payloads_onto (drop l.place l.payloads) l.out.items ≡ payloads_onto l.payloads l.initial.out.items
