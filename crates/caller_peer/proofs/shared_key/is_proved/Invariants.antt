use Rattle.std.proofs.Common.{◌≡◌, drop}
use Rattle.caller_peer.specs.SharedKeys.{proved_by}
use Rattle.caller_peer.proofs.shared_key.is_proved.Given as goal

-- no peer so far has the identity
abbrev pub invariant-loop-peer : goal.invariant-loop-peer
invariant-loop-peer l = proved_by (drop l.peer-index l.peers) l.kind l.id l.octets l.proof ≡ proved_by l.peers l.kind l.id l.octets l.proof
