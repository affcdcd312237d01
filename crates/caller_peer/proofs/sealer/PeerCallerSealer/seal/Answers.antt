use Rattle.std.proofs.Common.{rules, refl}
use Rattle.std.proofs.lemmas.Slice.{pushed}
use Rattle.caller_peer.proofs.BodyLemmas.{sealed_behind}
use Rattle.caller_peer.proofs.sealer.PeerCallerSealer.seal.Goals as goal

pub returns-clause-appended : goal.returns-clause-appended
returns-clause-appended c =
    sealed_behind c.args.keys.now c.args.out.now.items c.args.head.now c.args.plain.now c.args.fresh.now c.deref.result.now _ c.check_value-value.result
    c.extend_from_slice.new.self.items c.len-start.result (search rules) (search rules) refl c.check_value-value.ensures
    (pushed c.check_value-value.result (search rules) c.unwrap.ensures c.extend_from_slice.ensures.items)
