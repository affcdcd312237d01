-- One word more.
use Rattle.std.proofs.Common.{◌≡◌, ℕ, zero, suc, ◌+◌, ◌-◌, ◌*◌, ◌<◌, ◌≤◌, List, ◌++◌, length, take, drop, refl, sym, ap, ◌∙◌, arith}
use Rattle.std.proofs.lemmas.Slice.{take-put_mid}
use Rattle.std.proofs.lemmas.List.{length-append, length-take-le, length-drop, take-append-le, take_all}
use borrow.Rule.Slice.PartMut.{put_mid}
use Rattle.aes.specs.KeyExpansion.{expanded, key_expansion, next_word}

pub next_word-length : (w : List ℕ) → length (next_word w) ≡ 4
unfolding next_word
next_word-length w = refl

pub expanded-suc : (key : List ℕ) (n : ℕ) → expanded key (suc n) ≡ expanded key n ++ next_word (expanded key n)
unfolding expanded
expanded-suc key n = refl

pub expanded-zero : (key : List ℕ) → expanded key 0 ≡ key
unfolding expanded
expanded-zero key = refl

-- the word that follows the words so far, written behind them
pub words_more : (key schedule so_far word written : List ℕ) (i : ℕ) → 8 ≤ i → i < 60 → length schedule ≡ 240 → length written ≡ 4 →
    take (4 * i) schedule ≡ expanded key (i - 8) → so_far ≡ take (4 * i) schedule → word ≡ next_word so_far → written ≡ word →
    take (4 * (i + 1)) (put_mid (4 * i) (4 * i + 4 - 4 * i) schedule written) ≡ expanded key (i + 1 - 8)
words_more key schedule so_far word written i some few whole long before is next same =
    let end : 4 * (i + 1) ≡ 4 * i + length written = omega arith in
    let count : suc (i - 8) ≡ i + 1 - 8 = omega arith in
    let front = take-put_mid (4 * i) (4 * i + 4 - 4 * i) schedule written (4 * (i + 1)) end (omega arith) in
    let step = expanded-suc key (i - 8) in
    let moved = ap (expanded key) count in
    cc

pub expanded-length : (key : List ℕ) (n : ℕ) → length key ≡ 32 → length (expanded key n) ≡ 32 + 4 * n
expanded-length key zero whole = ap length (expanded-zero key) ∙ whole
expanded-length key (suc n) whole =
    let before = expanded-length key n whole in
    let word : length (next_word (expanded key n)) ≡ 4 = next_word-length (expanded key n) in
    ap length (expanded-suc key n) ∙ omega (arith, length-append (expanded key n) (next_word (expanded key n)))

-- the first words are the key
pub take-expanded : (key : List ℕ) (n : ℕ) → length key ≡ 32 → take 32 (expanded key n) ≡ key
take-expanded key zero whole = ap (take 32) (expanded-zero key) ∙ take_all 32 key (omega arith)
take-expanded key (suc n) whole =
    let long = expanded-length key n whole in
    ap (take 32) (expanded-suc key n)
    ∙ take-append-le 32 (expanded key n) (next_word (expanded key n)) (omega arith)
    ∙ take-expanded key n whole

-- the finished schedule
pub schedule_done : (key schedule : List ℕ) (i : ℕ) → i ≡ 60 → length schedule ≡ 240 → take (4 * i) schedule ≡ expanded key (i - 8) → schedule ≡ key_expansion key
unfolding key_expansion
schedule_done key schedule i last whole is =
    let all : length schedule ≤ 4 * i = omega arith in
    let count : i - 8 ≡ 52 = omega arith in
    sym (take_all (4 * i) schedule all) ∙ is ∙ ap (expanded key) count

pub schedule_of : (key schedule : List ℕ) → length key ≡ 32 → schedule ≡ key_expansion key → (take 32 schedule ≡ key) × (schedule ≡ key_expansion (take 32 schedule)) × (length (take 32 schedule) ≡ 32)
unfolding key_expansion
schedule_of key schedule whole is =
    let front : take 32 schedule ≡ key = ap (take 32) is ∙ take-expanded key 52 whole in
    (front, is ∙ ap key_expansion (sym front), ap length front ∙ whole)

pub written_length : (schedule written : List ℕ) (i : ℕ) → i < 60 → length schedule ≡ 240 → length written ≡ 4 →
    length (put_mid (4 * i) (4 * i + 4 - 4 * i) schedule written) ≡ 240
written_length schedule written i few whole long =
    let front : length (take (4 * i) schedule) ≡ 4 * i = length-take-le (4 * i) schedule (omega arith) in
    let back : length (drop (4 * i + 4 - 4 * i) (drop (4 * i) schedule)) ≡ 240 - 4 * i - 4 = length-drop (4 * i + 4 - 4 * i) (drop (4 * i) schedule) ∙ omega (arith, length-drop (4 * i) schedule) in
    length-append (take (4 * i) schedule) (written ++ drop (4 * i + 4 - 4 * i) (drop (4 * i) schedule))
    ∙ omega (arith, length-append written (drop (4 * i + 4 - 4 * i) (drop (4 * i) schedule)))
