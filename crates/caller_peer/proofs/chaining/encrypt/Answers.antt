use Rattle.std.proofs.Common.{◌≡◌, length, arith, rules, refl}
use Rattle.caller_peer.proofs.ChainingLemmas.{encrypted_none, encrypted_more, encrypted_all, whole_blocks}
use Rattle.caller_peer.proofs.chaining.encrypt.Goals as goal

pub loop-i-init : goal.loop-i-init
loop-i-init c = encrypted_none _ _ _ _

pub loop-i-preserved : goal.loop-i-preserved
loop-i-preserved c =
    let long : length c.encrypt_block-previous.result ≡ 16 = search rules in
    encrypted_more _ _ _ _ _ _ _ _ _ _ _ c.loop-i.i c.loop-i.invariant c.loop-i-test.true (whole_blocks _ c.requires) refl
    c.block_of.ensures c.both.ensures c.encrypt_block-previous.ensures c.copy_from_slice.ensures.after long

pub returns : goal.returns
returns c = encrypted_all _ _ _ _ _ _ c.loop-i.i c.loop-i.invariant (omega arith) (whole_blocks _ c.requires)
