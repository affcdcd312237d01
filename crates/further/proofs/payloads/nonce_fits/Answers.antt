use Rattle.std.proofs.Common.{arith, rules}
use Rattle.further.proofs.payloads.nonce_fits.Goals as goal

pub returns : goal.returns
returns c = record {
  some = omega (arith, c.told-nonce);
  few = omega (arith, c.told-nonce);
  fits = search rules;
}
