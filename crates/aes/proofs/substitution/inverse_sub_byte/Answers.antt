use Rattle.aes.proofs.TableLemmas.{inverse_sbox_at}
use Rattle.aes.proofs.substitution.inverse_sub_byte.Goals as goal

pub returns : goal.returns
returns c = inverse_sbox_at c.args.octet c.ranges.octet.fits
