-- What a gateway goes by whose caller speaks as real peers do.
use Rattle.caller_peer.specs.contracts.agreement.PeerCallerAgreement.TheImpl as agreement
use Rattle.caller_peer.specs.contracts.sealer.PeerCallerSealer.TheImpl as sealer
use Rattle.caller_peer.specs.contracts.shared_key.PeerCallerProof.TheImpl as proof
use Rattle.caller_peer.specs.declared.shared_key.PeerCaller.{PeerCaller}
use Rattle.effects.specs.Taking.{Meaning, meaning_of}

abbrev pub meaning_for : PeerCaller → Meaning
meaning_for caller = meaning_of sealer.ghosts agreement.ghosts proof.ghosts caller
