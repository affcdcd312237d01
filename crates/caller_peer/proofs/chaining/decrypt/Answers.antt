use Rattle.std.proofs.Common.{◌≡◌, length, arith, rules, refl}
use Rattle.caller_peer.proofs.ChainingLemmas.{decrypted_none, decrypted_more, decrypted_all, whole_blocks}
use Rattle.caller_peer.proofs.chaining.decrypt.Goals as goal

pub loop-i-init : goal.loop-i-init
loop-i-init c = decrypted_none _ _ _ _

pub loop-i-preserved : goal.loop-i-preserved
loop-i-preserved c =
    let long : length c.both.result ≡ 16 = search rules in
    decrypted_more _ _ _ _ _ _ _ _ _ _ _ c.loop-i.i c.loop-i.invariant c.loop-i-test.true (whole_blocks _ c.requires) refl
    c.block_of-block.ensures c.decrypt_block.ensures c.both.ensures c.copy_from_slice.ensures.after long

pub returns : goal.returns
returns c = decrypted_all _ _ _ _ _ _ c.loop-i.i c.loop-i.invariant (omega arith) (whole_blocks _ c.requires)
