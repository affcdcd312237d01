use Rattle.std.proofs.Common.{rules, refl}
use Rattle.caller_peer.proofs.BodyLemmas.{encrypted_behind}
use Rattle.caller_peer.proofs.sealer.append_encrypted.Goals as goal

pub returns-clause-appended : goal.returns-clause-appended
returns-clause-appended c =
    encrypted_behind c.args.keys.now c.new.result c.args.out.now.items c.args.vector.now c.args.plain.now _ c.append.new.out.items
    c.as_mut_slice.result.now _ c.encrypt.new.text c.len-start.result c.append.new.out.len (search rules) c.told-vector c.padding-pad.ensures.octets
    (search rules) c.as_mut_slice.ensures.value (search rules) refl (search rules) c.new.ensures c.encrypt.ensures
