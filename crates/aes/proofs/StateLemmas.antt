-- Each step on a state is undone by its inverse, and makes a state of a state.
use Rattle.std.proofs.Common.{◌≡◌, ℕ, zero, suc, ◌+◌, ◌-◌, ◌*◌, ◌/◌, ◌%◌, ◌<◌, ◌≤◌, Bool, true, false, cond, eqb, List, length, get_or, slice_index, bit_xor, refl, sym, ap, ◌∙◌, subst, arith, inl, inr}
use Rattle.std.specs.Int.Bits.{xor_assoc, xor_self, xor_zero_r, xor_lt}
use Rattle.std.proofs.lemmas.Bool.{cases_lt}
use Rattle.std.proofs.lemmas.List.{get_or_past}
use Rattle.std.proofs.lemmas.List.FromFn.{fill_by_all, get_or-map-range_with_len, length-map-range_with_len}
use Rattle.aes.specs.Field.{xtimes, times_bits, times}
use Rattle.aes.specs.Substitution.{sub_byte, inv_sub_byte}
use Rattle.aes.specs.State.{cell, state_of, row_times, columns_times, sub_bytes, inv_sub_bytes, shift_rows, inv_shift_rows, mix_columns, inv_mix_columns, add_round_key}
use Rattle.aes.proofs.FieldLemmas.{xtimes_lt, unmixed, mixed_again}
use Rattle.aes.proofs.TableLemmas.{sub_byte_lt, inv_sub_byte_lt, inv_sub_byte-sub_byte, sub_byte-inv_sub_byte}

-- 16 octets
pub record IsState (s : List ℕ) : Type 0 where
  pub whole : length s ≡ 16
  pub octets : (k : ℕ) → get_or s k 0 < 256

abbrev octet_of : (ℕ → ℕ → ℕ) → ℕ → ℕ
octet_of f k = f (k % 4) (k / 4)

state_of-cell : (f : ℕ → ℕ → ℕ) (r c : ℕ) → r < 4 → c < 4 → cell (state_of f) r c ≡ f r c
state_of-cell f r c row column =
    let low : r + 4 * c < 16 = omega arith in
    let same : 0 + (r + 4 * c) ≡ r + 4 * c = omega arith in
    let is_row : (r + 4 * c) % 4 ≡ r = omega arith in
    let is_column : (r + 4 * c) / 4 ≡ c = omega arith in
    get_or-map-range_with_len (octet_of f) 0 16 (r + 4 * c) (r + 4 * c) 0 low same ∙ (λ i. f (is_row i) (is_column i))

same_state : (s : List ℕ) (f : ℕ → ℕ → ℕ) → length s ≡ 16 → ((r c : ℕ) → r < 4 → c < 4 → f r c ≡ cell s r c) → state_of f ≡ s
same_state s f whole same =
    sym (fill_by_all (octet_of f) s 16 0 whole (λ k within.
    let place : k % 4 + 4 * (k / 4) ≡ k = omega arith in
    sym (same (k % 4) (k / 4) (omega arith) (omega arith) ∙ ap (λ (n : ℕ). get_or s n 0) place)))

is_state : (f : ℕ → ℕ → ℕ) → ((r c : ℕ) → r < 4 → c < 4 → f r c < 256) → IsState (state_of f)
is_state f fits = record {
  whole = length-map-range_with_len (octet_of f) 0 16;
  octets = λ k. elim (cases_lt k 16) [
    | inl within ↦
        (let at = get_or-map-range_with_len (octet_of f) 0 16 k k 0 within (omega arith) in
        let low : octet_of f k < 256 = fits (k % 4) (k / 4) (omega arith) (omega arith) in
        subst (λ (x : ℕ). x < 256) (sym at) low)
    | inr past ↦
        (let at = get_or_past (state_of f) k 0 (subst (λ (n : ℕ). n ≤ k) (sym (length-map-range_with_len (octet_of f) 0 16)) past) in
        subst (λ (x : ℕ). x < 256) (sym at) (omega arith))
  ];
}

-- ---- SUBBYTES
pub sub_bytes-state : (s : List ℕ) → IsState s → IsState (sub_bytes s)
unfolding sub_bytes
sub_bytes-state s is = is_state _ (λ r c row column. sub_byte_lt (cell s r c) (is.octets (r + 4 * c)))

pub inv_sub_bytes-state : (s : List ℕ) → IsState s → IsState (inv_sub_bytes s)
unfolding inv_sub_bytes
inv_sub_bytes-state s is = is_state _ (λ r c row column. inv_sub_byte_lt (cell s r c) (is.octets (r + 4 * c)))

pub inv_sub_bytes-sub_bytes : (s : List ℕ) → IsState s → inv_sub_bytes (sub_bytes s) ≡ s
unfolding sub_bytes inv_sub_bytes
inv_sub_bytes-sub_bytes s is =
    same_state s _ is.whole (λ r c row column.
    ap inv_sub_byte (state_of-cell (λ r c. sub_byte (cell s r c)) r c row column)
    ∙ inv_sub_byte-sub_byte (cell s r c) (is.octets (r + 4 * c)))

pub sub_bytes-inv_sub_bytes : (s : List ℕ) → IsState s → sub_bytes (inv_sub_bytes s) ≡ s
unfolding sub_bytes inv_sub_bytes
sub_bytes-inv_sub_bytes s is =
    same_state s _ is.whole (λ r c row column.
    ap sub_byte (state_of-cell (λ r c. inv_sub_byte (cell s r c)) r c row column)
    ∙ sub_byte-inv_sub_byte (cell s r c) (is.octets (r + 4 * c)))

-- ---- SHIFTROWS
pub shift_rows-state : (s : List ℕ) → IsState s → IsState (shift_rows s)
unfolding shift_rows
shift_rows-state s is = is_state _ (λ r c row column. is.octets (r + 4 * ((c + r) % 4)))

pub inv_shift_rows-state : (s : List ℕ) → IsState s → IsState (inv_shift_rows s)
unfolding inv_shift_rows
inv_shift_rows-state s is = is_state _ (λ r c row column. is.octets (r + 4 * ((c + 4 - r) % 4)))

pub inv_shift_rows-shift_rows : (s : List ℕ) → IsState s → inv_shift_rows (shift_rows s) ≡ s
unfolding shift_rows inv_shift_rows
inv_shift_rows-shift_rows s is =
    same_state s _ is.whole (λ r c row column.
    let back : ((c + 4 - r) % 4 + r) % 4 ≡ c = omega arith in
    state_of-cell (λ r c. cell s r ((c + r) % 4)) r ((c + 4 - r) % 4) row (omega arith) ∙ ap (cell s r) back)

pub shift_rows-inv_shift_rows : (s : List ℕ) → IsState s → shift_rows (inv_shift_rows s) ≡ s
unfolding shift_rows inv_shift_rows
shift_rows-inv_shift_rows s is =
    same_state s _ is.whole (λ r c row column.
    let back : ((c + r) % 4 + 4 - r) % 4 ≡ c = omega arith in
    state_of-cell (λ r c. cell s r ((c + 4 - r) % 4)) r ((c + r) % 4) row (omega arith) ∙ ap (cell s r) back)

-- ---- ADDROUNDKEY
pub add_round_key-state : (w : List ℕ) (round : ℕ) (s : List ℕ) → ((k : ℕ) → get_or w k 0 < 256) → IsState s → IsState (add_round_key w round s)
unfolding add_round_key
add_round_key-state w round s key is =
    is_state _ (λ r c row column. xor_lt 8 (cell s r c) _ (is.octets (r + 4 * c)) (key (4 * (4 * round + c) + r)))

pub add_round_key-twice : (w : List ℕ) (round : ℕ) (s : List ℕ) → length s ≡ 16 → add_round_key w round (add_round_key w round s) ≡ s
unfolding add_round_key
add_round_key-twice w round s whole =
    same_state s _ whole (λ r c row column.
    let key = slice_index w (4 * (4 * round + c) + r) in
    ap (λ (x : ℕ). bit_xor x key) (state_of-cell (λ r c. bit_xor (cell s r c) (slice_index w (4 * (4 * round + c) + r))) r c row column)
    ∙ xor_assoc (cell s r c) key key ∙ ap (bit_xor (cell s r c)) (xor_self key) ∙ xor_zero_r (cell s r c))

-- ---- MIXCOLUMNS
chosen_lt : (t : Bool) (b : ℕ) → b < 256 → cond t b 0 < 256
chosen_lt true b fits = fits
chosen_lt false b fits = omega arith

times_bits_lt : (n a b : ℕ) → b < 256 → times_bits n a b < 256
times_bits_lt zero a b fits = omega arith
times_bits_lt (suc n) a b fits =
    xor_lt 8 (cond (eqb (a % 2) 1) b 0) (times_bits n (a / 2) (xtimes b)) (chosen_lt (eqb (a % 2) 1) b fits) (times_bits_lt n (a / 2) (xtimes b) (xtimes_lt b))

times_lt : (a b : ℕ) → b < 256 → times a b < 256
unfolding times
times_lt a b fits = times_bits_lt 8 a b fits

row_times_lt : (a b c d v0 v1 v2 v3 : ℕ) → v0 < 256 → v1 < 256 → v2 < 256 → v3 < 256 → row_times a b c d v0 v1 v2 v3 < 256
row_times_lt a b c d v0 v1 v2 v3 f0 f1 f2 f3 =
    xor_lt 8 _ _ (times_lt a v0 f0) (xor_lt 8 _ _ (times_lt b v1 f1) (xor_lt 8 _ _ (times_lt c v2 f2) (times_lt d v3 f3)))

columns_times-state : (a b c d : ℕ) (s : List ℕ) → IsState s → IsState (columns_times a b c d s)
columns_times-state a b c d s is =
    is_state _ (λ r k row column. row_times_lt a b c d (cell s r k) (cell s ((r + 1) % 4) k) (cell s ((r + 2) % 4) k) (cell s ((r + 3) % 4) k)
    (is.octets _) (is.octets _) (is.octets _) (is.octets _))

pub mix_columns-state : (s : List ℕ) → IsState s → IsState (mix_columns s)
unfolding mix_columns
mix_columns-state s is = columns_times-state 0x02 0x03 0x01 0x01 s is

pub inv_mix_columns-state : (s : List ℕ) → IsState s → IsState (inv_mix_columns s)
unfolding inv_mix_columns
inv_mix_columns-state s is = columns_times-state 0x0e 0x0b 0x0d 0x09 s is

-- a cell of what a matrix makes, by the rows that it reads
mixed_cell : (a b c d : ℕ) (s : List ℕ) (r r1 r2 r3 k : ℕ) → r < 4 → k < 4 → (r + 1) % 4 ≡ r1 → (r + 2) % 4 ≡ r2 → (r + 3) % 4 ≡ r3 →
    cell (columns_times a b c d s) r k ≡ row_times a b c d (cell s r k) (cell s r1 k) (cell s r2 k) (cell s r3 k)
mixed_cell a b c d s r r1 r2 r3 k row column e1 e2 e3 =
    state_of-cell (λ r k. row_times a b c d (cell s r k) (cell s ((r + 1) % 4) k) (cell s ((r + 2) % 4) k) (cell s ((r + 3) % 4) k)) r k row column
    ∙ (λ i. row_times a b c d (cell s r k) (cell s (e1 i) k) (cell s (e2 i) k) (cell s (e3 i) k))

-- one matrix after another, by the rows
mixed_twice : (a b c d e f g h : ℕ) (s : List ℕ) (r k : ℕ) → r < 4 → k < 4 →
    (let r1 = (r + 1) % 4 in let r2 = (r + 2) % 4 in let r3 = (r + 3) % 4 in
    let row = row_times a b c d in let m = columns_times a b c d s in
    row_times e f g h (cell m r k) (cell m r1 k) (cell m r2 k) (cell m r3 k)
    ≡ row_times e f g h
    (row (cell s r k) (cell s r1 k) (cell s r2 k) (cell s r3 k)) (row (cell s r1 k) (cell s r2 k) (cell s r3 k) (cell s r k))
    (row (cell s r2 k) (cell s r3 k) (cell s r k) (cell s r1 k)) (row (cell s r3 k) (cell s r k) (cell s r1 k) (cell s r2 k)))
mixed_twice a b c d e f g h s r k row column =
    let r1 = (r + 1) % 4 in
    let r2 = (r + 2) % 4 in
    let r3 = (r + 3) % 4 in
    let m0 = mixed_cell a b c d s r r1 r2 r3 k row column refl refl refl in
    let m1 = mixed_cell a b c d s r1 r2 r3 r k (omega arith) column (omega arith) (omega arith) (omega arith) in
    let m2 = mixed_cell a b c d s r2 r3 r r1 k (omega arith) column (omega arith) (omega arith) (omega arith) in
    let m3 = mixed_cell a b c d s r3 r r1 r2 k (omega arith) column (omega arith) (omega arith) (omega arith) in
    (λ i. row_times e f g h (m0 i) (m1 i) (m2 i) (m3 i))

pub inv_mix_columns-mix_columns : (s : List ℕ) → IsState s → inv_mix_columns (mix_columns s) ≡ s
unfolding mix_columns inv_mix_columns
inv_mix_columns-mix_columns s is =
    same_state s _ is.whole (λ r k row column.
    mixed_twice 0x02 0x03 0x01 0x01 0x0e 0x0b 0x0d 0x09 s r k row column
    ∙ unmixed (cell s r k) (cell s ((r + 1) % 4) k) (cell s ((r + 2) % 4) k) (cell s ((r + 3) % 4) k))

pub mix_columns-inv_mix_columns : (s : List ℕ) → IsState s → mix_columns (inv_mix_columns s) ≡ s
unfolding mix_columns inv_mix_columns
mix_columns-inv_mix_columns s is =
    same_state s _ is.whole (λ r k row column.
    mixed_twice 0x0e 0x0b 0x0d 0x09 0x02 0x03 0x01 0x01 s r k row column
    ∙ mixed_again (cell s r k) (cell s ((r + 1) % 4) k) (cell s ((r + 2) % 4) k) (cell s ((r + 3) % 4) k))
