use Rattle.std.proofs.Common.{ℕ, bit_xor, ap, ◌∙◌}
use Rattle.aes.proofs.FieldLemmas.{mixed_is}
use Rattle.aes.proofs.columns.mixed_octet.Goals as goal

pub returns : goal.returns
returns c =
    ap (λ (x : ℕ). bit_xor (bit_xor (bit_xor x c.args.b) c.args.c) c.args.d) c.xtimes.ensures
    ∙ mixed_is c.args.a c.args.b c.args.c c.args.d
