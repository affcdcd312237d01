use Rattle.std.proofs.Common.{◌≡◌, drop}
use Rattle.auth.specs.Windows.{peer_window}
use Rattle.auth.proofs.window.peer_window.Given as goal

abbrev pub invariant-loop-payload : goal.invariant-loop-payload
invariant-loop-payload l = peer_window (drop l.payload-index l.payloads) ≡ peer_window l.payloads
