use Rattle.std.proofs.Common.{arith, rules}
use Rattle.sa_init.proofs.encoding.nonce_fits.Goals as goal

pub returns-clause-fits : goal.returns-clause-fits
returns-clause-fits c = record {
  some = omega (arith, c.told-nonce);
  few = omega (arith, c.told-nonce);
  fits = search rules;
}
