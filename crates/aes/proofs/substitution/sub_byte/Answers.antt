use Rattle.aes.proofs.TableLemmas.{sbox_at}
use Rattle.aes.proofs.substitution.sub_byte.Goals as goal

pub returns : goal.returns
returns c = sbox_at c.args.octet c.ranges.octet.fits
