use Rattle.std.proofs.Common.{ℕ, List, length, replicate, ◌-◌, refl, sym, ap, arith, length-append}
use Rattle.std.proofs.lemmas.List.{drop-replicate, length-replicate, take_at}
use Rattle.suite.specs.Nonces.{IsFilled, IsNonce, octets_kept}
use Rattle.suite.proofs.nonce.Nonce.new.Goals as goal

filled_with_zeros : (nonce : List ℕ) → IsNonce nonce → IsFilled (octets_kept nonce) (length nonce)
filled_with_zeros nonce is =
    record {
      some = is.some;
      few = is.few;
      whole = let few = is.few in omega (arith, length-append nonce (replicate (256 - length nonce) 0), length-replicate {A = ℕ} (256 - length nonce) 0);
      zeros = ap octets_kept (sym (take_at nonce (replicate (256 - length nonce) 0) (length nonce) refl));
    }

pub invariant_of-result : goal.invariant_of-result
invariant_of-result c = rw (drop-replicate, c.copy_from_slice.ensures.after) (filled_with_zeros c.args.octets.now c.requires)
