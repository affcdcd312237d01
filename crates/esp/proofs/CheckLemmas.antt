-- ICVs as numbers: octets that spell one number are the same octets.
use Rattle.std.proofs.Common.{◌≡◌, ℕ, zero, suc, ◌+◌, ◌*◌, ◌<◌, ◌≤◌, ◌++◌, List, length, get_or, take, drop, sym, ap, ◌∙◌, subst, arith, inl, inr, length-take-le, length-drop}
use Rattle.std.proofs.lemmas.List.{get_or-take, get_or-drop, get_or_past, take_all, take-append-drop}
use Rattle.std.specs.Prelude.{slice_index}
use Rattle.std.specs.Int.{from_le_bytes, w128}
use Rattle.std.proofs.lemmas.Bool.{cases_lt}
use Rattle.std.proofs.lemmas.Grind.{same_number_lists}
use Rattle.byteorder.specs.Endian.{little_from}

-- the least octet and the rest of a number
least_octet : (a b x y : ℕ) → a < 256 → b < 256 → a + 256 * x ≡ b + 256 * y → (a ≡ b) × (x ≡ y)
least_octet a b x y a_small b_small same = (omega arith, omega arith)

-- so many octets from a place on that spell one number are the same
same_from : (i n : ℕ) (xs ys : List ℕ) → ((k : ℕ) → get_or xs k 0 < 256) → ((k : ℕ) → get_or ys k 0 < 256)
    → little_from i n xs ≡ little_from i n ys → (k : ℕ) → i ≤ k → k < i + n → get_or xs k 0 ≡ get_or ys k 0
same_from i zero xs ys small_xs small_ys same k above below = absurd (omega arith)
same_from i (suc n) xs ys small_xs small_ys same k above below =
    let parts = least_octet (slice_index xs i) (slice_index ys i) (little_from (suc i) n xs) (little_from (suc i) n ys) (small_xs i) (small_ys i) same in
    elim (cases_lt i k) [
      | inl over ↦ same_from (suc i) n xs ys small_xs small_ys parts.1 k (omega arith) (omega arith)
      | inr at ↦ (let here : i ≡ k = omega arith in subst (λ (j : ℕ). get_or xs j 0 ≡ get_or ys j 0) here parts.0)
    ]

spelled : (xs : List ℕ) → from_le_bytes w128 xs ≡ little_from 0 16 xs
spelled xs = omega arith

pub same_octets : (xs ys : List ℕ) → length xs ≡ 16 → length ys ≡ 16 → ((k : ℕ) → get_or xs k 0 < 256) → ((k : ℕ) → get_or ys k 0 < 256)
    → from_le_bytes w128 xs ≡ from_le_bytes w128 ys → xs ≡ ys
same_octets xs ys long_xs long_ys small_xs small_ys same =
    same_number_lists xs ys (long_xs ∙ sym long_ys)
    (λ k within. same_from 0 16 xs ys small_xs small_ys (sym (spelled xs) ∙ same ∙ spelled ys) k (omega arith) (omega arith))

first_small : (n : ℕ) (xs : List ℕ) → n ≤ length xs → ((k : ℕ) → get_or xs k 0 < 256) → (k : ℕ) → get_or (take n xs) k 0 < 256
first_small n xs within small k =
    elim (cases_lt k n) [
      | inl inside ↦ subst (λ (x : ℕ). x < 256) (sym (get_or-take n xs k 0 inside)) (small k)
      | inr past ↦
          (let short : length (take n xs) ≤ k = omega (arith, length-take-le n xs within) in subst (λ (x : ℕ). x < 256) (sym (get_or_past (take n xs) k 0 short)) (omega arith))
    ]

last_small : (n : ℕ) (xs : List ℕ) → ((k : ℕ) → get_or xs k 0 < 256) → (k : ℕ) → get_or (drop n xs) k 0 < 256
last_small n xs small k = subst (λ (x : ℕ). x < 256) (sym (get_or-drop n xs k 0)) (small (n + k))

-- two keys whose halves spell the same numbers are the same
pub same_key : (xs ys : List ℕ) → length xs ≡ 32 → length ys ≡ 32 → ((k : ℕ) → get_or xs k 0 < 256) → ((k : ℕ) → get_or ys k 0 < 256)
    → from_le_bytes w128 (take 16 xs) ≡ from_le_bytes w128 (take 16 ys) → from_le_bytes w128 (take 16 (drop 16 xs)) ≡ from_le_bytes w128 (take 16 (drop 16 ys)) → xs ≡ ys
same_key xs ys long_xs long_ys small_xs small_ys first last =
    let firsts =
    same_octets (take 16 xs) (take 16 ys) (length-take-le 16 xs (omega arith)) (length-take-le 16 ys (omega arith))
    (first_small 16 xs (omega arith) small_xs) (first_small 16 ys (omega arith) small_ys) first
    in
    let long_last_xs : length (drop 16 xs) ≡ 16 = omega (arith, length-drop 16 xs) in
    let long_last_ys : length (drop 16 ys) ≡ 16 = omega (arith, length-drop 16 ys) in
    let whole_xs : take 16 (drop 16 xs) ≡ drop 16 xs = take_all 16 (drop 16 xs) (omega arith) in
    let whole_ys : take 16 (drop 16 ys) ≡ drop 16 ys = take_all 16 (drop 16 ys) (omega arith) in
    let lasts =
    same_octets (drop 16 xs) (drop 16 ys) long_last_xs long_last_ys (last_small 16 xs small_xs) (last_small 16 ys small_ys)
    (ap (from_le_bytes w128) (sym whole_xs) ∙ last ∙ ap (from_le_bytes w128) whole_ys)
    in
    sym (take-append-drop 16 xs) ∙ ap (λ (part : List ℕ). part ++ drop 16 xs) firsts
    ∙ ap (λ (part : List ℕ). take 16 ys ++ part) lasts ∙ take-append-drop 16 ys
