use Rattle.aes.proofs.KeyLemmas.{schedule_of}
use Rattle.aes.proofs.cipher.Aes256.new.Goals as goal

pub invariant_of-result : goal.invariant_of-result
invariant_of-result c =
    let is = schedule_of c.args.key.now c.key_expansion.result c.told-key c.key_expansion.ensures in
    (is.1, is.2)

pub returns : goal.returns
returns c = (schedule_of c.args.key.now c.key_expansion.result c.told-key c.key_expansion.ensures).0
