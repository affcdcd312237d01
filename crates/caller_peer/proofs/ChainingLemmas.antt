-- One block more, in place.
use Rattle.std.proofs.Common.{◌≡◌, ℕ, suc, ◌+◌, ◌-◌, ◌*◌, ◌/◌, ◌%◌, ◌<◌, List, [], ◌++◌, length, take, drop, refl, sym, ap, ◌∙◌, arith}
use Rattle.std.proofs.lemmas.List.{length-append, length-take-le, length-drop, take_all, drop-drop, append_assoc, append-nil}
use Rattle.std.proofs.lemmas.Slice.{take-put_mid, drop-put_mid}
use borrow.Rule.Slice.PartMut.{put_mid}
use Rattle.aes.specs.Cipher.{encrypted, decrypted}
use Rattle.caller_peer.specs.Chaining.{both, cbc_encrypted, cbc_decrypted}
use Rattle.caller_peer.specs.BodyLaws.{cbc_encrypted-zero, cbc_encrypted-suc, cbc_decrypted-zero, cbc_decrypted-suc}

-- the blocks below i are encrypted, and the others as they are become the whole's others
pub record IsEncrypted (key vector initial text before : List ℕ) (n i : ℕ) : Type 0 where
  pub whole : length text ≡ length initial
  pub is : take (16 * i) text ++ cbc_encrypted key before (n - i) (drop (16 * i) text) ≡ cbc_encrypted key vector n initial

pub record IsDecrypted (key vector initial text before : List ℕ) (n i : ℕ) : Type 0 where
  pub whole : length text ≡ length initial
  pub is : take (16 * i) text ++ cbc_decrypted key before (n - i) (drop (16 * i) text) ≡ cbc_decrypted key vector n initial

all : (n : ℕ) → n - 0 ≡ n
all n = omega arith

pub encrypted_none : (key vector text : List ℕ) (n : ℕ) → IsEncrypted key vector text text vector n 0
encrypted_none key vector text n = record { whole = refl; is = ap (λ (k : ℕ). cbc_encrypted key vector k text) (all n) }

pub decrypted_none : (key vector text : List ℕ) (n : ℕ) → IsDecrypted key vector text text vector n 0
decrypted_none key vector text n = record { whole = refl; is = ap (λ (k : ℕ). cbc_decrypted key vector k text) (all n) }

-- a block that is written over
module _ (text block : List ℕ) (i n : ℕ) (few : i < n) (whole : length text ≡ 16 * n) (long : length block ≡ 16) where
  abbrev after : List ℕ
  after = put_mid (16 * i) (16 * i + 16 - 16 * i) text block

  after_front : take (16 * (i + 1)) after ≡ take (16 * i) text ++ block
  after_front = take-put_mid (16 * i) (16 * i + 16 - 16 * i) text block (16 * (i + 1)) (omega arith) (omega arith)

  after_back : drop (16 * (i + 1)) after ≡ drop 16 (drop (16 * i) text)
  after_back =
      let place : 16 * (i + 1) ≡ 16 * i + 16 = omega arith in
      drop-put_mid (16 * i) (16 * i + 16 - 16 * i) text block (16 * (i + 1)) (omega arith) (omega arith) (omega arith)
      ∙ ap (λ (k : ℕ). drop k text) place ∙ sym (drop-drop 16 (16 * i) text)

  after_whole : length after ≡ length text
  after_whole =
      let front : length (take (16 * i) text) ≡ 16 * i = length-take-le (16 * i) text (omega arith) in
      let back : length (drop (16 * i + 16 - 16 * i) (drop (16 * i) text)) ≡ 16 * n - 16 * i - 16 =
      length-drop (16 * i + 16 - 16 * i) (drop (16 * i) text) ∙ omega (arith, length-drop (16 * i) text) in
      length-append (take (16 * i) text) (block ++ drop (16 * i + 16 - 16 * i) (drop (16 * i) text))
      ∙ omega (arith, length-append block (drop (16 * i + 16 - 16 * i) (drop (16 * i) text)))

part_is : (text : List ℕ) (i : ℕ) → take (16 * i + 16 - 16 * i) (drop (16 * i) text) ≡ take 16 (drop (16 * i) text)
part_is text i = let count : 16 * i + 16 - 16 * i ≡ 16 = omega arith in ap (λ (k : ℕ). take k (drop (16 * i) text)) count

pub encrypted_more : (key vector initial text before part read sum block written : List ℕ) (n i : ℕ) → IsEncrypted key vector initial text before n i →
    i < n → length initial ≡ 16 * n → part ≡ take (16 * i + 16 - 16 * i) (drop (16 * i) text) → read ≡ part → sum ≡ both read before →
    block ≡ encrypted key sum → written ≡ block → length block ≡ 16 →
    IsEncrypted key vector initial (put_mid (16 * i) (16 * i + 16 - 16 * i) text written) block n (i + 1)
encrypted_more key vector initial text before part read sum block written n i is few initial_whole is_part is_read is_sum is_block is_written long =
    let whole : length text ≡ 16 * n = is.whole ∙ initial_whole in
    let rest = drop (16 * i) text in
    let made : block ≡ encrypted key (both (take 16 rest) before) =
    is_block ∙ ap (encrypted key) (is_sum ∙ ap (λ (xs : List ℕ). both xs before) (is_read ∙ is_part ∙ part_is text i)) in
    let written_long : length written ≡ 16 = ap length is_written ∙ long in
    let count : n - i ≡ suc (n - (i + 1)) = omega arith in
    let step : cbc_encrypted key before (n - i) rest ≡ block ++ cbc_encrypted key block (n - (i + 1)) (drop 16 rest) =
    ap (λ (k : ℕ). cbc_encrypted key before k rest) count
    ∙ cbc_encrypted-suc key before (n - (i + 1)) rest
    ∙ ap (λ (b : List ℕ). b ++ cbc_encrypted key b (n - (i + 1)) (drop 16 rest)) (sym made) in
    record {
      whole = after_whole text written i n few whole written_long ∙ is.whole;
      is =
          (λ k. after_front text written i n few whole written_long k ++ cbc_encrypted key block (n - (i + 1)) (after_back text written i n few whole written_long k))
          ∙ ap (λ (b : List ℕ). (take (16 * i) text ++ b) ++ cbc_encrypted key block (n - (i + 1)) (drop 16 rest)) is_written
          ∙ append_assoc (take (16 * i) text) block (cbc_encrypted key block (n - (i + 1)) (drop 16 rest))
          ∙ ap (λ (xs : List ℕ). take (16 * i) text ++ xs) (sym step)
          ∙ is.is;
    }

pub decrypted_more : (key vector initial text before part read plain sum written : List ℕ) (n i : ℕ) → IsDecrypted key vector initial text before n i →
    i < n → length initial ≡ 16 * n → part ≡ take (16 * i + 16 - 16 * i) (drop (16 * i) text) → read ≡ part → plain ≡ decrypted key read →
    sum ≡ both plain before → written ≡ sum → length sum ≡ 16 →
    IsDecrypted key vector initial (put_mid (16 * i) (16 * i + 16 - 16 * i) text written) read n (i + 1)
decrypted_more key vector initial text before part read plain sum written n i is few initial_whole is_part is_read is_plain is_sum is_written long =
    let whole : length text ≡ 16 * n = is.whole ∙ initial_whole in
    let rest = drop (16 * i) text in
    let read_is : read ≡ take 16 rest = is_read ∙ is_part ∙ part_is text i in
    let made : sum ≡ both (decrypted key read) before = is_sum ∙ ap (λ (xs : List ℕ). both xs before) is_plain in
    let written_long : length written ≡ 16 = ap length is_written ∙ long in
    let count : n - i ≡ suc (n - (i + 1)) = omega arith in
    let step : cbc_decrypted key before (n - i) rest ≡ sum ++ cbc_decrypted key read (n - (i + 1)) (drop 16 rest) =
    ap (λ (k : ℕ). cbc_decrypted key before k rest) count
    ∙ cbc_decrypted-suc key before (n - (i + 1)) rest
    ∙ ap (λ (b : List ℕ). both (decrypted key b) before ++ cbc_decrypted key b (n - (i + 1)) (drop 16 rest)) (sym read_is)
    ∙ ap (λ (b : List ℕ). b ++ cbc_decrypted key read (n - (i + 1)) (drop 16 rest)) (sym made) in
    record {
      whole = after_whole text written i n few whole written_long ∙ is.whole;
      is =
          (λ k. after_front text written i n few whole written_long k ++ cbc_decrypted key read (n - (i + 1)) (after_back text written i n few whole written_long k))
          ∙ ap (λ (b : List ℕ). (take (16 * i) text ++ b) ++ cbc_decrypted key read (n - (i + 1)) (drop 16 rest)) is_written
          ∙ append_assoc (take (16 * i) text) sum (cbc_decrypted key read (n - (i + 1)) (drop 16 rest))
          ∙ ap (λ (xs : List ℕ). take (16 * i) text ++ xs) (sym step)
          ∙ is.is;
    }

pub encrypted_all : (key vector initial text before : List ℕ) (n i : ℕ) → IsEncrypted key vector initial text before n i → i ≡ n → length initial ≡ 16 * n →
    text ≡ cbc_encrypted key vector n initial
encrypted_all key vector initial text before n i is last initial_whole =
    let whole : length text ≡ 16 * n = is.whole ∙ initial_whole in
    let none : n - i ≡ 0 = omega arith in
    let front : take (16 * i) text ≡ text = take_all (16 * i) text (omega arith) in
    let back : cbc_encrypted key before (n - i) (drop (16 * i) text) ≡ [] =
    ap (λ (k : ℕ). cbc_encrypted key before k (drop (16 * i) text)) none ∙ cbc_encrypted-zero key before (drop (16 * i) text) in
    sym ((λ k. front k ++ back k) ∙ append-nil text) ∙ is.is

pub decrypted_all : (key vector initial text before : List ℕ) (n i : ℕ) → IsDecrypted key vector initial text before n i → i ≡ n → length initial ≡ 16 * n →
    text ≡ cbc_decrypted key vector n initial
decrypted_all key vector initial text before n i is last initial_whole =
    let whole : length text ≡ 16 * n = is.whole ∙ initial_whole in
    let none : n - i ≡ 0 = omega arith in
    let front : take (16 * i) text ≡ text = take_all (16 * i) text (omega arith) in
    let back : cbc_decrypted key before (n - i) (drop (16 * i) text) ≡ [] =
    ap (λ (k : ℕ). cbc_decrypted key before k (drop (16 * i) text)) none ∙ cbc_decrypted-zero key before (drop (16 * i) text) in
    sym ((λ k. front k ++ back k) ∙ append-nil text) ∙ is.is

pub whole_blocks : (xs : List ℕ) → length xs % 16 ≡ 0 → length xs ≡ 16 * (length xs / 16)
whole_blocks xs none = omega arith
