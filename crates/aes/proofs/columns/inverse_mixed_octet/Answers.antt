use Rattle.aes.proofs.FieldLemmas.{inverse_mixed_is}
use Rattle.aes.proofs.columns.inverse_mixed_octet.Goals as goal

pub returns : goal.returns
returns c =
    let is = inverse_mixed_is c.args.a c.args.b c.args.c c.args.d in
    cc
