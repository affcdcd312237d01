-- Sums of multiples of four octets by constants, in the field: each such sum is a form, a polynomial for each
-- octet.
use Rattle.std.proofs.Common.{◌≡◌, ℕ, zero, suc, ◌<◌, ◌+◌, ◌*◌, ◌/◌, ◌%◌, ◌^◌, eqb, bit_xor, Bool, true, false, cond, List, [], ◌∷◌, refl, sym, ap, ◌∙◌, arith, inl, inr, ◌⊎◌}
use Rattle.std.specs.Int.Bits.{xor_assoc, xor_self, xor_zero_r, xor_comm, xor_lt, xor_shr, xor_mod, xor_block}
use Rattle.aes.specs.Field.{xtimes, times}
use Rattle.aes.specs.State.{row_times}

pub xtimes_lt : (b : ℕ) → xtimes b < 256
unfolding xtimes
xtimes_lt b =
    let low : 2 * b % 256 < 2 ^ 8 = omega arith in
    let P : Bool → Type 0 = λ t. bit_xor (2 * b % 256) (cond t 0x1b 0) < 256 in
    let one : P true = xor_lt 8 (2 * b % 256) 0x1b low (omega arith) in
    let none : P false = xor_lt 8 (2 * b % 256) 0 low (omega arith) in
    elim (eqb (b / 128 % 2) 1) as P [ true ↦ one | false ↦ none ]

-- (a + b) + (c + d) = (a + c) + (b + d)
pub exchange : (a b c d : ℕ) → bit_xor (bit_xor a b) (bit_xor c d) ≡ bit_xor (bit_xor a c) (bit_xor b d)
exchange a b c d =
    xor_assoc a b (bit_xor c d)
    ∙ ap (bit_xor a) (sym (xor_assoc b c d) ∙ ap (λ (x : ℕ). bit_xor x d) (xor_comm b c) ∙ xor_assoc c b d)
    ∙ sym (xor_assoc a c (bit_xor b d))

bit_cases : (n : ℕ) → n < 2 → (n ≡ 0) ⊎ (n ≡ 1)
bit_cases zero h = inl refl
bit_cases (suc zero) h = inr refl
bit_cases (suc (suc n)) h = absurd (omega arith)

-- what is added in place of x^8
reduced : ℕ → ℕ
reduced bit = cond (eqb bit 1) 0x1b 0

reduced-xor : (a b : ℕ) → a < 2 → b < 2 → reduced (bit_xor a b) ≡ bit_xor (reduced a) (reduced b)
unfolding reduced
reduced-xor zero b p q = refl
reduced-xor (suc zero) zero p q = refl
reduced-xor (suc zero) (suc zero) p q = refl
reduced-xor (suc zero) (suc (suc b)) p q = absurd (omega arith)
reduced-xor (suc (suc a)) b p q = absurd (omega arith)

double-xor : (a b : ℕ) → 2 * bit_xor a b ≡ bit_xor (2 * a) (2 * b)
double-xor a b =
    let e : bit_xor (a * 2 ^ 1 + 0) (b * 2 ^ 1 + 0) ≡ bit_xor a b * 2 ^ 1 + 0 = xor_block 1 a b 0 0 (omega arith) (omega arith) in
    let left : a * 2 ^ 1 + 0 ≡ 2 * a = omega arith in
    let right : b * 2 ^ 1 + 0 ≡ 2 * b = omega arith in
    let all : bit_xor a b * 2 ^ 1 + 0 ≡ 2 * bit_xor a b = omega arith in
    sym all ∙ sym e ∙ ap (λ (x : ℕ). bit_xor x (b * 2 ^ 1 + 0)) left ∙ ap (bit_xor (2 * a)) right

pub xtimes-xor : (a b : ℕ) → xtimes (bit_xor a b) ≡ bit_xor (xtimes a) (xtimes b)
unfolding xtimes reduced
xtimes-xor a b =
    let low : 2 * bit_xor a b % 256 ≡ bit_xor (2 * a % 256) (2 * b % 256) =
    ap (λ (x : ℕ). x % 256) (double-xor a b) ∙ xor_mod (2 * a) (2 * b) 8 in
    let bit : bit_xor a b / 128 % 2 ≡ bit_xor (a / 128 % 2) (b / 128 % 2) =
    ap (λ (x : ℕ). x % 2) (xor_shr a b 7) ∙ xor_mod (a / 128) (b / 128) 1 in
    let high : reduced (bit_xor a b / 128 % 2) ≡ bit_xor (reduced (a / 128 % 2)) (reduced (b / 128 % 2)) =
    ap reduced bit ∙ reduced-xor (a / 128 % 2) (b / 128 % 2) (omega arith) (omega arith) in
    ap (λ (x : ℕ). bit_xor x (reduced (bit_xor a b / 128 % 2))) low
    ∙ ap (bit_xor (bit_xor (2 * a % 256) (2 * b % 256))) high
    ∙ exchange (2 * a % 256) (2 * b % 256) (reduced (a / 128 % 2)) (reduced (b / 128 % 2))

-- as the code has it
pub xtimes_by_shift : (b r : ℕ) → r ≡ cond (eqb (b / 128 % 2) 1) 0x1b 0 → bit_xor (b * 2 % 256) r ≡ xtimes b
unfolding xtimes
xtimes_by_shift b r is =
    let low : b * 2 % 256 ≡ 2 * b % 256 = omega arith in
    ap (λ (x : ℕ). bit_xor x r) low ∙ ap (bit_xor (2 * b % 256)) is

pub reduction_set : (b r : ℕ) → b / 128 ≡ 1 → r ≡ 0x1b → r ≡ cond (eqb (b / 128 % 2) 1) 0x1b 0
reduction_set b r set is = is ∙ sym (ap (λ (x : ℕ). cond (eqb (x % 2) 1) 0x1b 0) set)

pub reduction_clear : (b r : ℕ) → b < 256 → (b / 128 ≡ 1 → ⊥) → r ≡ 0 → r ≡ cond (eqb (b / 128 % 2) 1) 0x1b 0
reduction_clear b r fits clear is =
    let none : b / 128 ≡ 0 = omega arith in
    is ∙ sym (ap (λ (x : ℕ). cond (eqb (x % 2) 1) 0x1b 0) none)

-- a polynomial in x, lowest power first, times an octet
abbrev pub poly : List Bool → ℕ → ℕ
poly [] v = 0
poly (b ∷ bs) v = bit_xor (cond b v 0) (xtimes (poly bs v))

abbrev differ : Bool → Bool → Bool
differ true true = false
differ true false = true
differ false b = b

abbrev plus : List Bool → List Bool → List Bool
plus [] q = q
plus (a ∷ p) [] = a ∷ p
plus (a ∷ p) (b ∷ q) = differ a b ∷ plus p q

digit : (a b : Bool) (v : ℕ) → cond (differ a b) v 0 ≡ bit_xor (cond a v 0) (cond b v 0)
digit true true v = sym (xor_self v)
digit true false v = sym (xor_zero_r v)
digit false b v = refl

poly-plus : (p q : List Bool) (v : ℕ) → poly (plus p q) v ≡ bit_xor (poly p v) (poly q v)
poly-plus [] q v = refl
poly-plus (a ∷ p) [] v = sym (xor_zero_r (poly (a ∷ p) v))
poly-plus (a ∷ p) (b ∷ q) v =
    ap (λ (x : ℕ). bit_xor x (xtimes (poly (plus p q) v))) (digit a b v)
    ∙ ap (λ (x : ℕ). bit_xor (bit_xor (cond a v 0) (cond b v 0)) (xtimes x)) (poly-plus p q v)
    ∙ ap (bit_xor (bit_xor (cond a v 0) (cond b v 0))) (xtimes-xor (poly p v) (poly q v))
    ∙ exchange (cond a v 0) (cond b v 0) (xtimes (poly p v)) (xtimes (poly q v))

-- the sum of polynomials times octets
abbrev pub form : List (List Bool) → List ℕ → ℕ
form [] vs = 0
form (p ∷ ps) [] = 0
form (p ∷ ps) (v ∷ vs) = bit_xor (poly p v) (form ps vs)

abbrev pub plus_all : List (List Bool) → List (List Bool) → List (List Bool)
plus_all [] qs = qs
plus_all (p ∷ ps) [] = p ∷ ps
plus_all (p ∷ ps) (q ∷ qs) = plus p q ∷ plus_all ps qs

abbrev pub raised : List (List Bool) → List (List Bool)
raised [] = []
raised (p ∷ ps) = (false ∷ p) ∷ raised ps

form-plus : (ps qs : List (List Bool)) (vs : List ℕ) → form (plus_all ps qs) vs ≡ bit_xor (form ps vs) (form qs vs)
form-plus [] qs vs = refl
form-plus (p ∷ ps) [] vs = sym (xor_zero_r (form (p ∷ ps) vs))
form-plus (p ∷ ps) (q ∷ qs) [] = refl
form-plus (p ∷ ps) (q ∷ qs) (v ∷ vs) =
    ap (λ (x : ℕ). bit_xor x (form (plus_all ps qs) vs)) (poly-plus p q v)
    ∙ ap (bit_xor (bit_xor (poly p v) (poly q v))) (form-plus ps qs vs)
    ∙ exchange (poly p v) (poly q v) (form ps vs) (form qs vs)

form-raised : (ps : List (List Bool)) (vs : List ℕ) → form (raised ps) vs ≡ xtimes (form ps vs)
unfolding xtimes
form-raised [] vs = refl
form-raised (p ∷ ps) [] = refl
form-raised (p ∷ ps) (v ∷ vs) =
    ap (bit_xor (xtimes (poly p v))) (form-raised ps vs) ∙ sym (xtimes-xor (poly p v) (form ps vs))

-- ---- values that are forms
pub record Formed (vs : List ℕ) : Type 0 where
  pub value : ℕ
  pub polys : List (List Bool)
  pub is : value ≡ form polys vs

abbrev added : (vs : List ℕ) → Formed vs → Formed vs → Formed vs
added vs p q = record {
  value = bit_xor p.value q.value;
  polys = plus_all p.polys q.polys;
  is = ap (λ (x : ℕ). bit_xor x q.value) p.is ∙ ap (bit_xor (form p.polys vs)) q.is ∙ sym (form-plus p.polys q.polys vs);
}

abbrev doubled : (vs : List ℕ) → Formed vs → Formed vs
doubled vs p = record { value = xtimes p.value; polys = raised p.polys; is = ap xtimes p.is ∙ sym (form-raised p.polys vs) }

abbrev chosen : (vs : List ℕ) → Bool → Formed vs → Formed vs
chosen vs true p = p
chosen vs false p = record { value = 0; polys = []; is = refl }

chosen-value : (vs : List ℕ) (t : Bool) (p : Formed vs) → (chosen vs t p).value ≡ cond t p.value 0
chosen-value vs true p = refl
chosen-value vs false p = refl

abbrev multiple_bits : (vs : List ℕ) → ℕ → ℕ → Formed vs → Formed vs
multiple_bits vs zero a p = record { value = 0; polys = []; is = refl }
multiple_bits vs (suc n) a p = added vs (chosen vs (eqb (a % 2) 1) p) (multiple_bits vs n (a / 2) (doubled vs p))

-- a constant times a value
abbrev multiple : (vs : List ℕ) → ℕ → Formed vs → Formed vs
multiple vs a p = multiple_bits vs 8 a p

-- a row of a matrix times four values
abbrev row : (vs : List ℕ) → ℕ → ℕ → ℕ → ℕ → Formed vs → Formed vs → Formed vs → Formed vs → Formed vs
row vs a b c d w x y z = added vs (multiple vs a w) (added vs (multiple vs b x) (added vs (multiple vs c y) (multiple vs d z)))

-- ---- each of four octets
module _ (a b c d : ℕ) where
  abbrev four : List ℕ
  four = a ∷ b ∷ c ∷ d ∷ []

  first : Formed four
  unfolding xtimes
  first = record { value = a; polys = (true ∷ []) ∷ [] ∷ [] ∷ [] ∷ []; is = sym (xor_zero_r (bit_xor a 0) ∙ xor_zero_r a) }

  second : Formed four
  unfolding xtimes
  second = record { value = b; polys = [] ∷ (true ∷ []) ∷ [] ∷ [] ∷ []; is = sym (xor_zero_r (bit_xor b 0) ∙ xor_zero_r b) }

  third : Formed four
  unfolding xtimes
  third = record { value = c; polys = [] ∷ [] ∷ (true ∷ []) ∷ [] ∷ []; is = sym (xor_zero_r (bit_xor c 0) ∙ xor_zero_r c) }

  fourth : Formed four
  unfolding xtimes
  fourth = record { value = d; polys = [] ∷ [] ∷ [] ∷ (true ∷ []) ∷ []; is = sym (xor_zero_r (bit_xor d 0) ∙ xor_zero_r d) }

  -- the rows of both matrices, as the code has them
  pub mixed_is : bit_xor (bit_xor (bit_xor (xtimes (bit_xor a b)) b) c) d ≡ row_times 0x02 0x03 0x01 0x01 a b c d
  unfolding first second third fourth xtimes times
  mixed_is =
      let by_code = added four (added four (added four (doubled four (added four first second)) second) third) fourth in
      by_code.is ∙ sym (row four 0x02 0x03 0x01 0x01 first second third fourth).is

  pub inverse_mixed_is :
      bit_xor (bit_xor (bit_xor (bit_xor (bit_xor
      (xtimes (xtimes (xtimes (bit_xor (bit_xor (bit_xor a b) c) d))))
      (xtimes (xtimes (bit_xor a c)))) (xtimes (bit_xor a b))) b) c) d
      ≡ row_times 0x0e 0x0b 0x0d 0x09 a b c d
  unfolding first second third fourth xtimes times
  inverse_mixed_is =
      let eight = doubled four (doubled four (doubled four (added four (added four (added four first second) third) fourth))) in
      let fours = doubled four (doubled four (added four first third)) in
      let twos = doubled four (added four first second) in
      let by_code = added four (added four (added four (added four (added four eight fours) twos) second) third) fourth in
      by_code.is ∙ sym (row four 0x0e 0x0b 0x0d 0x09 first second third fourth).is

  -- one matrix is the other's inverse
  pub unmixed : row_times 0x0e 0x0b 0x0d 0x09
      (row_times 0x02 0x03 0x01 0x01 a b c d) (row_times 0x02 0x03 0x01 0x01 b c d a)
      (row_times 0x02 0x03 0x01 0x01 c d a b) (row_times 0x02 0x03 0x01 0x01 d a b c) ≡ a
  unfolding first second third fourth xtimes times
  unmixed =
      let mixed = row four 0x02 0x03 0x01 0x01 in
      (row four 0x0e 0x0b 0x0d 0x09 (mixed first second third fourth) (mixed second third fourth first)
      (mixed third fourth first second) (mixed fourth first second third)).is
      ∙ sym first.is

  pub mixed_again : row_times 0x02 0x03 0x01 0x01
      (row_times 0x0e 0x0b 0x0d 0x09 a b c d) (row_times 0x0e 0x0b 0x0d 0x09 b c d a)
      (row_times 0x0e 0x0b 0x0d 0x09 c d a b) (row_times 0x0e 0x0b 0x0d 0x09 d a b c) ≡ a
  unfolding first second third fourth xtimes times
  mixed_again =
      let unmixed = row four 0x0e 0x0b 0x0d 0x09 in
      (row four 0x02 0x03 0x01 0x01 (unmixed first second third fourth) (unmixed second third fourth first)
      (unmixed third fourth first second) (unmixed fourth first second third)).is
      ∙ sym first.is
