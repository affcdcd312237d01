use Rattle.std.proofs.Common.{◌≡◌, length, arith}
use Rattle.mac.proofs.HmacLemmas.{take-hmac_block, block-of_key}
use Rattle.mac.proofs.integrity.IcvKey.new.Goals as goal

pub invariant_of-result : goal.invariant_of-result
invariant_of-result c =
    let long : length c.args.key.now ≡ 32 = omega arith in
    block-of_key c.new.result c.args.key.now long c.new.ensures

pub returns : goal.returns
returns c =
    let long : length c.args.key.now ≡ 32 = omega arith in
    rw c.new.ensures (take-hmac_block c.args.key.now long)
