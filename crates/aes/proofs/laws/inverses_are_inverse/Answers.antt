use Rattle.aes.proofs.TableLemmas.{times-inverse, inv_sub_byte-sub_byte, sub_byte-inv_sub_byte}
use Rattle.aes.proofs.laws.inverses_are_inverse.Goals as goal

pub returns : goal.returns
returns c = record { product = times-inverse; there = inv_sub_byte-sub_byte; back = sub_byte-inv_sub_byte }
