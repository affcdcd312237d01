-- The numbers of a block: those that differ from its start in their lowest bits alone.
use Rattle.std.proofs.Common.{◌≡◌, ◌↔◌, ℕ, suc, ◌+◌, ◌-◌, ◌*◌, ◌/◌, ◌%◌, ◌^◌, ◌<◌, ◌≤◌, sym, ap, subst, ◌∙◌, arith}
use Rattle.std.proofs.Math.Nat.{div-add-mod, div-eq_of_lt-le, div-lt_iff_lt-mul, mod-lt, mod-eq_of_lt, mul_comm, mul-le-mul_left, mul-suc}
use Rattle.std.proofs.lemmas.Nat.{one_shl, pow_pos, pow-add}

-- in a block are the numbers with the quotient of its start
block_of : (start size number : ℕ) → 0 < size → start % size ≡ 0 → ((start ≤ number) × (number ≤ start + (size - 1))) ↔ (number / size ≡ start / size)
block_of start size number some whole =
    let split : size * (start / size) + start % size ≡ start = div-add-mod start size in
    let numbers : size * (number / size) + number % size ≡ number = div-add-mod number size in
    let below : number % size < size = mod-lt number some in (
      λ within. div-eq_of_lt-le size (grind arith) (grind arith),
      λ same. let at : size * (number / size) ≡ size * (start / size) = ap (λ (q : ℕ). size * q) same in (omega arith, omega arith),
    )

pub block : (start free number : ℕ) → start % 2 ^ free ≡ 0 → ((start ≤ number) × (number ≤ start + (2 ^ free - 1))) ↔ (number / 2 ^ free ≡ start / 2 ^ free)
block start free number whole = block_of start (2 ^ free) number (pow_pos free) whole

ends_of : (start size count : ℕ) → 0 < size → start % size ≡ 0 → start < size * count → start + (size - 1) < size * count
ends_of start size count some whole below =
    let split : size * (start / size) + start % size ≡ start = div-add-mod start size in
    let before : start / size < count = (div-lt_iff_lt-mul some).1 (subst (λ (n : ℕ). start < n) (mul_comm size count) below) in
    let next : size * suc (start / size) ≤ size * count = mul-le-mul_left size before in
    let is : size * suc (start / size) ≡ size * (start / size) + size = mul-suc size (start / size) in omega arith

-- a block of a power of two that starts below a greater one ends below it
pub block_ends : (start free width : ℕ) → free ≤ width → start % 2 ^ free ≡ 0 → start < 2 ^ width → start + (2 ^ free - 1) < 2 ^ width
block_ends start free width le whole below =
    let count : 2 ^ width ≡ 2 ^ free * 2 ^ (width - free) = ap (λ (k : ℕ). 2 ^ k) (omega arith) ∙ pow-add 2 free (width - free) in
    subst (λ (n : ℕ). start + (2 ^ free - 1) < n) (sym count) (ends_of start (2 ^ free) (2 ^ (width - free)) (pow_pos free) whole (subst (λ (n : ℕ). start < n) count below))

-- one bit, shifted, in 128 bits
pub size_is : (free : ℕ) → free ≤ 128 → (free ≡ 128 → ⊥) → 1 * 2 ^ free % 2 ^ 128 ≡ 2 ^ free
size_is free le other = one_shl free 128 (omega arith)

pub size_some : (free : ℕ) → free ≤ 128 → (free ≡ 128 → ⊥) → 0 < 1 * 2 ^ free % 2 ^ 128
size_some free le other = subst (λ (n : ℕ). 0 < n) (sym (size_is free le other)) (pow_pos free)

-- the number that starts all others is zero
pub start_is : (start free : ℕ) → free ≡ 128 → start < 2 ^ 128 → start % 2 ^ free ≡ start
start_is start free all below = subst (λ (k : ℕ). start % 2 ^ k ≡ start) (sym all) (mod-eq_of_lt below)

pub rest_is : (free : ℕ) → free ≡ 128 → 2 ^ free - 1 ≡ 2 ^ 128 - 1
rest_is free all = ap (λ (k : ℕ). 2 ^ k - 1) all

pub last_fits : (start free : ℕ) → free ≤ 128 → (free ≡ 128 → ⊥) → start < 2 ^ 128 → start % (1 * 2 ^ free % 2 ^ 128) ≡ 0 → start + (1 * 2 ^ free % 2 ^ 128 - 1) < 2 ^ 128
last_fits start free le other below whole =
    let size : 1 * 2 ^ free % 2 ^ 128 ≡ 2 ^ free = size_is free le other in
    subst (λ (n : ℕ). start + (n - 1) < 2 ^ 128) (sym size) (block_ends start free 128 le (subst (λ (n : ℕ). start % n ≡ 0) size whole) below)
