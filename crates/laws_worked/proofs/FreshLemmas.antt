-- What is fresh at the steps of the longer runs is of its type.
use Rattle.std.proofs.Common.{◌+◌, ◌<◌, ◌≤◌, ℕ, zero, suc, arith, refl}
use Rattle.std.specs.Prelude.{replicate}
use Rattle.base.specs.Octets.{AreOctets}
use Rattle.laws_two_ends.specs.WorkedRecords.{fresh_of, IsFresh}

alike : (number count : ℕ) → number < 256 → AreOctets (replicate count number)
alike number zero small = tt
alike number (suc count) small = (small, alike number count small)

pub is_fresh : (number : ℕ) → 1 ≤ number → number ≤ 15 → IsFresh (fresh_of number)
is_fresh number least most = record {
  named = λ is. absurd (omega (arith, least, is));
  spi_fits = omega (arith, most);
  nonce_long = refl;
  nonce_octets = alike number 32 (omega (arith, most));
  secret = record { whole = refl; octets = alike (number + 16) 32 (omega (arith, most)) };
  seal_long = refl;
  seal_octets = alike number 16 (omega (arith, most));
}
