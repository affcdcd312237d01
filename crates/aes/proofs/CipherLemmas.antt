-- One round more.
use Rattle.std.proofs.Common.{◌≡◌, ℕ, suc, ◌+◌, ◌-◌, ◌≤◌, List, refl, ap, arith}
use Rattle.aes.specs.State.{sub_bytes, inv_sub_bytes, shift_rows, inv_shift_rows, mix_columns, inv_mix_columns, add_round_key}
use Rattle.aes.specs.Cipher.{rounds, inv_rounds}

pub rounds-suc : (w block : List ℕ) (n : ℕ) → rounds w block (suc n) ≡ add_round_key w (suc n) (mix_columns (shift_rows (sub_bytes (rounds w block n))))
unfolding rounds
rounds-suc w block n = refl

pub round_more : (w block state sub shifted mixed after : List ℕ) (round : ℕ) → 1 ≤ round → state ≡ rounds w block (round - 1) →
    sub ≡ sub_bytes state → shifted ≡ shift_rows sub → mixed ≡ mix_columns shifted → after ≡ add_round_key w round mixed →
    after ≡ rounds w block (round + 1 - 1)
round_more w block state sub shifted mixed after round some is is_sub is_shifted is_mixed is_after =
    let next : suc (round - 1) ≡ round + 1 - 1 = omega arith in
    let same : suc (round - 1) ≡ round = omega arith in
    let step = rounds-suc w block (round - 1) in
    let moved = ap (rounds w block) next in
    cc

pub inv_rounds-suc : (w block : List ℕ) (n : ℕ) → inv_rounds w block (suc n) ≡ inv_mix_columns (add_round_key w (13 - n) (inv_sub_bytes (inv_shift_rows (inv_rounds w block n))))
unfolding inv_rounds
inv_rounds-suc w block n = refl

pub inv_round_more : (w block state shifted sub keyed after : List ℕ) (done : ℕ) → 1 ≤ done → state ≡ inv_rounds w block (done - 1) →
    shifted ≡ inv_shift_rows state → sub ≡ inv_sub_bytes shifted → keyed ≡ add_round_key w (14 - done) sub → after ≡ inv_mix_columns keyed →
    after ≡ inv_rounds w block (done + 1 - 1)
inv_round_more w block state shifted sub keyed after done some is is_shifted is_sub is_keyed is_after =
    let next : suc (done - 1) ≡ done + 1 - 1 = omega arith in
    let same : 13 - (done - 1) ≡ 14 - done = omega arith in
    let step = inv_rounds-suc w block (done - 1) in
    let moved = ap (inv_rounds w block) next in
    let key = ap (λ (n : ℕ). add_round_key w n sub) same in
    cc

pub rounds_begin : (w block : List ℕ) → rounds w block 0 ≡ add_round_key w 0 block
unfolding rounds
rounds_begin w block = refl

pub inv_rounds_begin : (w block : List ℕ) → inv_rounds w block 0 ≡ add_round_key w 14 block
unfolding inv_rounds
inv_rounds_begin w block = refl
