use Rattle.std.proofs.Common.{rules, refl}
use Rattle.caller_peer.proofs.BodyLemmas.{decrypted_behind}
use Rattle.caller_peer.proofs.sealer.append_decrypted.Goals as goal

pub returns-clause-appended : goal.returns-clause-appended
returns-clause-appended c =
    decrypted_behind c.args.keys.now c.new.result c.args.out.now.items c.args.body.now c.block_of.result _ c.extend_from_slice.new.self.items
    c.as_mut_slice.result.now _ c.decrypt.new.text c.len-start.result c.extend_from_slice.new.self.len (search rules) c.requires.long c.block_of.ensures refl
    (search rules) c.as_mut_slice.ensures.value (search rules) refl (search rules) c.new.ensures c.decrypt.ensures
