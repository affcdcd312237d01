-- The laws of an agreement and of proofs, at the MODP group and at shared keys.
use Rattle.std.proofs.Common.{◌≡◌, ℕ, Option, Some, List, length, sym, ap, ◌∙◌, arith}
use Rattle.base.specs.Octets.{AreOctets}
use Rattle.mac.proofs.HmacLemmas.{length-hmac_sha256}
use Rattle.modp.specs.Number.{octets_number, number_octets}
use Rattle.modp.specs.Group.{power}
use Rattle.modp.proofs.OctetLemmas.{element_again, length-number_octets}
use Rattle.modp.proofs.PowerLemmas.{power_lt, powers_agree}
use Rattle.suite.specs.Callers.{FitsPayload, IsSecret}
use Rattle.caller_peer.specs.Groups.{base, public_of, secret_of, shared_by, shared_of}
use Rattle.caller_peer.specs.SharedKeys.{proof_under}

pub shared_with : (a b : List ℕ) → shared_of a (public_of b) ≡ shared_by (Some (power base (octets_number b))) (octets_number a)
unfolding shared_of public_of
shared_with a b =
    ap (λ (o : Option ℕ). shared_by o (octets_number a)) (element_again (power base (octets_number b)) (power_lt base (octets_number b)))

by_power : (n m e f : ℕ) → power n e ≡ power m f → shared_by (Some n) e ≡ shared_by (Some m) f
unfolding shared_by
by_power n m e f same = ap secret_of same

pub symmetric : (a b : List ℕ) → IsSecret a → IsSecret b → shared_of a (public_of b) ≡ shared_of b (public_of a)
symmetric a b secret_a secret_b =
    shared_with a b
    ∙ by_power _ _ (octets_number a) (octets_number b) (powers_agree base (octets_number b) (octets_number a))
    ∙ sym (shared_with b a)

pub public_fits : (a : List ℕ) → IsSecret a → FitsPayload (public_of a)
unfolding public_of
public_fits a secret =
    let long : length (number_octets 256 (power base (octets_number a))) ≡ 256 = length-number_octets 256 (power base (octets_number a)) in
    record { some = omega arith; few = omega arith }

pub proof_fits : (secret octets : List ℕ) → AreOctets octets → FitsPayload (proof_under secret octets)
unfolding proof_under
proof_fits secret octets _ =
    let long : length (proof_under secret octets) ≡ 32 = length-hmac_sha256 _ octets in
    record { some = omega arith; few = omega arith }
