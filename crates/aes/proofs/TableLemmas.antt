-- The tables are SBOX and INVSBOX, each tested entry by entry.
use Rattle.std.proofs.Common.{◌≡◌, ℕ, ◌<◌, eqb, ltb, Bool, true, ◌||◌, get_or, refl, sym, ◌∙◌, ap, inl, inr}
use Rattle.std.specs.List.{position_or_len}
use Rattle.std.proofs.lemmas.List.FromFn.{fill_by_all}
use Rattle.std.proofs.lemmas.Bool.{agree_below, agree_below_at, eqb-true, ltb-true, or_cases}
use Rattle.aes.specs.Field.{xtimes, times, inverse}
use Rattle.aes.specs.Substitution.{sub_byte, sbox, inv_sub_byte}
use Rattle.aes.specs.declared.substitution.TheConstants.{SBOX, INVERSE_SBOX}

-- what holds by a test of each octet holds of each
tested : (f : ℕ → Bool) (b : ℕ) → agree_below f (λ _. true) 256 ≡ true → b < 256 → f b ≡ true
tested f b test fits = agree_below_at f (λ _. true) 256 b test fits

abbrev sbox_right : ℕ → Bool
sbox_right b = eqb (get_or SBOX b 0) (sub_byte b)

sbox_test : agree_below sbox_right (λ _. true) 256 ≡ true
unfolding xtimes times inverse sub_byte
sbox_test = refl

abbrev inverse_right : ℕ → Bool
inverse_right b = eqb b 0 || eqb (times b (inverse b)) 1

inverse_test : agree_below inverse_right (λ _. true) 256 ≡ true
unfolding xtimes times inverse
inverse_test = refl

abbrev inverse_sbox_right : ℕ → Bool
inverse_sbox_right s = eqb (get_or INVERSE_SBOX s 0) (position_or_len (λ x. eqb x s) SBOX)

inverse_sbox_test : agree_below inverse_sbox_right (λ _. true) 256 ≡ true
inverse_sbox_test = refl

abbrev there_right : ℕ → Bool
there_right b = eqb (get_or INVERSE_SBOX (get_or SBOX b 0) 0) b

there_test : agree_below there_right (λ _. true) 256 ≡ true
there_test = refl

abbrev back_right : ℕ → Bool
back_right s = eqb (get_or SBOX (get_or INVERSE_SBOX s 0) 0) s

back_test : agree_below back_right (λ _. true) 256 ≡ true
back_test = refl

abbrev sbox_fits : ℕ → Bool
sbox_fits b = ltb (get_or SBOX b 0) 256

sbox_fits_test : agree_below sbox_fits (λ _. true) 256 ≡ true
sbox_fits_test = refl

abbrev inverse_sbox_fits : ℕ → Bool
inverse_sbox_fits b = ltb (get_or INVERSE_SBOX b 0) 256

inverse_sbox_fits_test : agree_below inverse_sbox_fits (λ _. true) 256 ≡ true
inverse_sbox_fits_test = refl

pub sbox_at : (b : ℕ) → b < 256 → get_or SBOX b 0 ≡ sub_byte b
sbox_at b fits = eqb-true (get_or SBOX b 0) (sub_byte b) (tested sbox_right b sbox_test fits)

-- the table is SBOX of every octet
sbox_is : SBOX ≡ sbox
sbox_is = fill_by_all sub_byte SBOX 256 0 refl sbox_at

pub inverse_sbox_at : (s : ℕ) → s < 256 → get_or INVERSE_SBOX s 0 ≡ inv_sub_byte s
unfolding inv_sub_byte
inverse_sbox_at s fits =
    eqb-true (get_or INVERSE_SBOX s 0) (position_or_len (λ x. eqb x s) SBOX) (tested inverse_sbox_right s inverse_sbox_test fits)
    ∙ ap (position_or_len (λ x. eqb x s)) sbox_is

pub sub_byte_lt : (b : ℕ) → b < 256 → sub_byte b < 256
sub_byte_lt b fits =
    let at = sbox_at b fits in
    let low : get_or SBOX b 0 < 256 = ltb-true (get_or SBOX b 0) 256 (tested sbox_fits b sbox_fits_test fits) in
    rw at at low

pub inv_sub_byte_lt : (s : ℕ) → s < 256 → inv_sub_byte s < 256
inv_sub_byte_lt s fits =
    let at = inverse_sbox_at s fits in
    let low : get_or INVERSE_SBOX s 0 < 256 = ltb-true (get_or INVERSE_SBOX s 0) 256 (tested inverse_sbox_fits s inverse_sbox_fits_test fits) in
    rw at at low

pub inv_sub_byte-sub_byte : (b : ℕ) → b < 256 → inv_sub_byte (sub_byte b) ≡ b
inv_sub_byte-sub_byte b fits =
    sym (inverse_sbox_at (sub_byte b) (sub_byte_lt b fits))
    ∙ ap (λ (s : ℕ). get_or INVERSE_SBOX s 0) (sym (sbox_at b fits))
    ∙ eqb-true (get_or INVERSE_SBOX (get_or SBOX b 0) 0) b (tested there_right b there_test fits)

pub sub_byte-inv_sub_byte : (s : ℕ) → s < 256 → sub_byte (inv_sub_byte s) ≡ s
sub_byte-inv_sub_byte s fits =
    sym (sbox_at (inv_sub_byte s) (inv_sub_byte_lt s fits))
    ∙ ap (λ (b : ℕ). get_or SBOX b 0) (sym (inverse_sbox_at s fits))
    ∙ eqb-true (get_or SBOX (get_or INVERSE_SBOX s 0) 0) s (tested back_right s back_test fits)

-- the inverse of an octet that is not 0 is one
pub times-inverse : (b : ℕ) → b < 256 → (b ≡ 0 → ⊥) → times b (inverse b) ≡ 1
times-inverse b fits some =
    elim (or_cases (eqb b 0) (eqb (times b (inverse b)) 1) (tested inverse_right b inverse_test fits)) [
      | inl zero_is ↦ absurd (some (eqb-true b 0 zero_is))
      | inr one_is ↦ eqb-true (times b (inverse b)) 1 one_is
    ]
