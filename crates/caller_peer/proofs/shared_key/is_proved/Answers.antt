use Rattle.caller_peer.proofs.PeerLemmas.{peer_found}
use Rattle.caller_peer.proofs.shared_key.is_proved.Goals as goal

pub returns-then-eq : goal.returns-then-eq
returns-then-eq c =
    peer_found c.args.peers.now c.loop-peer.peer-index c.peer-item.result c.args.kind c.args.id.now c.args.octets.now c.args.proof.now _ _ _ _
    c.loop-peer.invariant c.loop-peer-test.true c.peer-item.is c.if-peer-kind.true c.as_slice.ensures c.eq.ensures c.if-eq.true
    c.as_slice-then-eq.ensures c.is_proved_under.ensures
