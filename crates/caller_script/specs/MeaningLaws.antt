-- The laws of the traits, at the caller of scripts.
use Rattle.std.proofs.Common.{◌≡◌, ◌≤◌, ◌+◌, ◌-◌, ℕ, suc, true, List, [], ◌∷◌, ◌++◌, Bool, Some, None, ◌&&◌, if◌then◌else◌, nat_le, length, take, drop, map, slice_index, refl, ap, ◌∙◌, arith, eq-eqb, length-append, nat_eq}
use Rattle.std.specs.List.{range_with_len}
use Rattle.std.specs.Cmp.Lexicographic.{pointwise}
use Rattle.std.proofs.lemmas.List.{take_at, drop_at}
use Rattle.std.proofs.lemmas.Nat.{xor_comm}
use Rattle.std.proofs.lemmas.Bool.Decides.{nat_tests}
use Rattle.mac.proofs.HmacLemmas.{length-hmac_sha256, length-icv_sha256}
use Rattle.suite.specs.declared.keys.Keys.{Keys}
use Rattle.base.specs.Octets.{AreOctets}
use Rattle.suite.specs.Sealing.{AreSealable}
use Rattle.suite.specs.Callers.{FitsPayload, IsSecret}
use Rattle.caller_script.specs.Meaning.{script_body, common_secret, keyed_proof, script_plain, tail_of}

pointwise_itself : (xs : List ℕ) → pointwise nat_eq xs xs ≡ true
pointwise_itself [] = refl
pointwise_itself (x ∷ xs) = rw (eq-eqb x x refl) (pointwise_itself xs)

plain_if : (long right : Bool) (plain : List ℕ) → long ≡ true → right ≡ true → (if long && right then Some plain else None) ≡ Some plain
plain_if long right plain is_long is_right = rw (is_long, is_right) refl

length-tail_of : (keys : Keys) (head plain : List ℕ) → length (tail_of keys head plain) ≡ 17
length-tail_of keys head plain = ap suc (length-icv_sha256 keys.integrity _)

pub body_length : (keys : Keys) (head plain fresh : List ℕ) → AreSealable keys head plain fresh → length (script_body keys head plain fresh) ≡ length plain + 17
unfolding script_body
body_length keys head plain fresh _ = omega (arith, length-append plain (tail_of keys head plain), length-tail_of keys head plain)

pub body_opens : (keys : Keys) (head plain fresh : List ℕ) → AreSealable keys head plain fresh → script_plain keys head (script_body keys head plain fresh) ≡ Some plain
unfolding script_body script_plain
body_opens keys head plain fresh _ =
    let tail = tail_of keys head plain in
    let long : length (plain ++ tail) ≡ length plain + 17 = omega (arith, length-append plain tail, length-tail_of keys head plain) in
    let end : length (plain ++ tail) - 17 ≡ length plain = omega arith in
    let enough : nat_le 17 (length (plain ++ tail)) ≡ true = grind (arith, nat_tests) in
    let front : take (length (plain ++ tail) - 17) (plain ++ tail) ≡ plain = ap (λ (n : ℕ). take n (plain ++ tail)) end ∙ take_at plain tail (length plain) refl in
    let back : drop (length (plain ++ tail) - 17) (plain ++ tail) ≡ tail = ap (λ (n : ℕ). drop n (plain ++ tail)) end ∙ drop_at plain tail (length plain) refl in
    plain_if _ _ _ enough
    (ap (λ (xs : List ℕ). pointwise nat_eq xs (tail_of keys head (take (length (plain ++ tail) - 17) (plain ++ tail)))) back
    ∙ ap (λ (xs : List ℕ). pointwise nat_eq tail (tail_of keys head xs)) front
    ∙ pointwise_itself tail)
    ∙ ap (λ (xs : List ℕ). Some xs) front

pub sizes : (n : ℕ) → (n ≤ n + 17) × (n + 17 ≤ n + 128)
sizes n = (omega arith, omega arith)

map_ext : (f g : ℕ → ℕ) → ((k : ℕ) → f k ≡ g k) → (xs : List ℕ) → map f xs ≡ map g xs
map_ext f g same [] = refl
map_ext f g same (x ∷ xs) = (λ i. same x i ∷ map_ext f g same xs i)

pub symmetric : (a b : List ℕ) → IsSecret a → IsSecret b → common_secret a b ≡ common_secret b a
unfolding common_secret
symmetric a b secret_a secret_b =
    let long_a : nat_eq (length a) 32 ≡ true = eq-eqb (length a) 32 secret_a.whole in
    let long_b : nat_eq (length b) 32 ≡ true = eq-eqb (length b) 32 secret_b.whole in
    rw (long_a, long_b) (ap (λ (xs : List ℕ). Some xs) (map_ext _ _ (λ k. xor_comm (slice_index a k) (slice_index b k)) (range_with_len 0 32)))

pub public_fits : (a : List ℕ) → IsSecret a → FitsPayload a
public_fits a secret = let long : length a ≡ 32 = secret.whole in record { some = omega arith; few = omega arith }

pub proof_fits : (octets : List ℕ) → AreOctets octets → FitsPayload (keyed_proof octets)
unfolding keyed_proof
proof_fits octets _ = let long : length (keyed_proof octets) ≡ 32 = length-hmac_sha256 _ octets in record { some = omega arith; few = omega arith }
