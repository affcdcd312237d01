-- The recursion over blocks is what section 6.2 of SP 800-38A says of each, and what is decrypted is
-- encrypted to the same blocks.
use Rattle.std.proofs.Common.{◌≡◌, ℕ, zero, suc, ◌+◌, ◌*◌, ◌<◌, ◌≤◌, List, ◌++◌, length, take, drop, refl, sym, ap, ◌∙◌, subst, arith}
use Rattle.std.proofs.lemmas.List.{length-append, length-take-le, length-drop, take_at, drop_at, drop-drop, take-append-drop}
use Rattle.base.specs.Octets.{AreOctets}
use Rattle.aes.specs.Cipher.{encrypted, decrypted}
use Rattle.aes.specs.Laws.{IsKey, IsBlock}
use Rattle.aes.proofs.InverseLemmas.{encrypted-decrypted, encrypted_block, decrypted_block}
use Rattle.caller_peer.specs.Chaining.{both, block_at, AreChained, cbc_encrypted, cbc_decrypted}
use Rattle.caller_peer.specs.BodyLaws.{append_octets, take_octets, drop_octets, both_block, both_twice, nothing, cbc_encrypted-zero, cbc_encrypted-suc, cbc_decrypted-zero, cbc_decrypted-suc}

rest_block : (xs : List ℕ) (j : ℕ) → block_at (drop 16 xs) j ≡ block_at xs (suc j)
rest_block xs j =
    let place : 16 + 16 * j ≡ 16 * suc j = omega arith in
    ap (take 16) (drop-drop (16 * j) 16 xs ∙ ap (λ (n : ℕ). drop n xs) place)

behind : (front xs : List ℕ) (j : ℕ) → length front ≡ 16 → block_at (front ++ xs) (suc j) ≡ block_at xs j
behind front xs j long = sym (rest_block (front ++ xs) j) ∙ ap (λ (ys : List ℕ). block_at ys j) (drop_at front xs 16 long)

-- ---- one block more
module _ (key before text block rest : List ℕ) (before_long : length before ≡ 16) (block_long : length block ≡ 16)
    (is : block ≡ encrypted key (both (take 16 text) before)) (more : AreChained key block (drop 16 text) rest) where
  each : (j : ℕ) → 16 * j < length text → block_at (block ++ rest) j ≡ encrypted key (both (block_at text j) (block_at (before ++ (block ++ rest)) j))
  each zero within =
      take_at block rest 16 block_long ∙ is
      ∙ ap (λ (b : List ℕ). encrypted key (both (take 16 text) b)) (sym (take_at before (block ++ rest) 16 before_long))
  each (suc j) within =
      let inside : 16 * j < length (drop 16 text) = omega (arith, length-drop 16 text) in
      behind block rest j block_long
      ∙ more.each j inside
      ∙ (λ i. encrypted key (both (rest_block text j i) (sym (behind before (block ++ rest) j before_long) i)))

  joined : 16 ≤ length text → AreChained key before text (block ++ rest)
  joined some = record {
    as_long = length-append block rest ∙ omega (arith, more.as_long, length-drop 16 text);
    each = each;
  }

-- ---- there is one chain
pub only_chain : (key : List ℕ) (n : ℕ) (before text blocks : List ℕ) → length before ≡ 16 → length text ≡ 16 * n → AreChained key before text blocks →
    blocks ≡ cbc_encrypted key before n text
only_chain key zero before text blocks before_long whole chain =
    nothing blocks (chain.as_long ∙ whole) ∙ sym (cbc_encrypted-zero key before text)
only_chain key (suc n) before text blocks before_long whole chain =
    let long : length blocks ≡ length text = chain.as_long in
    let first : take 16 blocks ≡ encrypted key (both (take 16 text) before) =
    chain.each 0 (omega arith) ∙ ap (λ (b : List ℕ). encrypted key (both (take 16 text) b)) (take_at before blocks 16 before_long) in
    let first_long : length (take 16 blocks) ≡ 16 = length-take-le 16 blocks (omega arith) in
    let rest_whole : length (drop 16 text) ≡ 16 * n = length-drop 16 text ∙ omega arith in
    let shifted : (j : ℕ) → block_at (before ++ blocks) (suc j) ≡ block_at (take 16 blocks ++ drop 16 blocks) j =
    λ j. behind before blocks j before_long ∙ ap (λ (ys : List ℕ). block_at ys j) (sym (take-append-drop 16 blocks)) in
    let more : AreChained key (take 16 blocks) (drop 16 text) (drop 16 blocks) = record {
      as_long = length-drop 16 blocks ∙ omega (arith, length-drop 16 text);
      each = λ j within.
          let inside : 16 * suc j < length text = omega (arith, length-drop 16 text) in
          rest_block blocks j
          ∙ chain.each (suc j) inside
          ∙ (λ i. encrypted key (both (sym (rest_block text j) i) (shifted j i)));
    } in
    sym (take-append-drop 16 blocks)
    ∙ ap (λ (xs : List ℕ). take 16 blocks ++ xs) (only_chain key n (take 16 blocks) (drop 16 text) (drop 16 blocks) first_long rest_whole more)
    ∙ ap (λ (b : List ℕ). b ++ cbc_encrypted key b n (drop 16 text)) first
    ∙ sym (cbc_encrypted-suc key before n text)

module _ (key : List ℕ) (is_key : IsKey key) where
  pub chained : (n : ℕ) (before text : List ℕ) → IsBlock before → AreOctets text → length text ≡ 16 * n → AreChained key before text (cbc_encrypted key before n text)
  chained zero before text is octets whole = record {
    as_long = ap length (cbc_encrypted-zero key before text) ∙ sym whole;
    each = λ j within. absurd (omega arith);
  }
  chained (suc n) before text is octets whole =
      let sum = both (take 16 text) before in
      let block = encrypted key sum in
      let is_block = encrypted_block key sum is_key (both_block (take 16 text) before (take_octets 16 text octets) is.octets) in
      let rest_whole : length (drop 16 text) ≡ 16 * n = length-drop 16 text ∙ omega arith in
      let more = chained n block (drop 16 text) is_block (drop_octets 16 text octets) rest_whole in
      subst (λ (blocks : List ℕ). AreChained key before text blocks) (sym (cbc_encrypted-suc key before n text))
      (joined key before text block (cbc_encrypted key block n (drop 16 text)) is.whole is_block.whole refl more (omega arith))

  -- ---- decrypted text
  first_block : (n : ℕ) (text : List ℕ) → AreOctets text → length text ≡ 16 * suc n → IsBlock (take 16 text)
  first_block n text octets whole = record { whole = length-take-le 16 text (omega arith); octets = take_octets 16 text octets }

  pub decrypted_octets : (n : ℕ) (before text : List ℕ) → IsBlock before → AreOctets text → length text ≡ 16 * n → AreOctets (cbc_decrypted key before n text)
  decrypted_octets zero before text is octets whole = subst AreOctets (sym (cbc_decrypted-zero key before text)) tt
  decrypted_octets (suc n) before text is octets whole =
      let first = first_block n text octets whole in
      let opened = decrypted_block key (take 16 text) is_key first in
      let plain = both_block (decrypted key (take 16 text)) before opened.octets is.octets in
      let rest_whole : length (drop 16 text) ≡ 16 * n = length-drop 16 text ∙ omega arith in
      let more = decrypted_octets n (take 16 text) (drop 16 text) first (drop_octets 16 text octets) rest_whole in
      subst AreOctets (sym (cbc_decrypted-suc key before n text))
      (append_octets (both (decrypted key (take 16 text)) before) (cbc_decrypted key (take 16 text) n (drop 16 text)) plain.octets more)

  pub decrypted_long : (n : ℕ) (before text : List ℕ) → IsBlock before → AreOctets text → length text ≡ 16 * n → length (cbc_decrypted key before n text) ≡ 16 * n
  decrypted_long zero before text is octets whole = ap length (cbc_decrypted-zero key before text)
  decrypted_long (suc n) before text is octets whole =
      let first = first_block n text octets whole in
      let opened = decrypted_block key (take 16 text) is_key first in
      let plain = both_block (decrypted key (take 16 text)) before opened.octets is.octets in
      let plain_long : length (both (decrypted key (take 16 text)) before) ≡ 16 = plain.whole in
      let rest_whole : length (drop 16 text) ≡ 16 * n = length-drop 16 text ∙ omega arith in
      let more = decrypted_long n (take 16 text) (drop 16 text) first (drop_octets 16 text octets) rest_whole in
      ap length (cbc_decrypted-suc key before n text)
      ∙ length-append (both (decrypted key (take 16 text)) before) (cbc_decrypted key (take 16 text) n (drop 16 text))
      ∙ omega arith

  -- what is decrypted is encrypted to the same blocks
  pub cbc_again : (n : ℕ) (before text : List ℕ) → IsBlock before → AreOctets text → length text ≡ 16 * n →
      cbc_encrypted key before n (cbc_decrypted key before n text) ≡ text
  cbc_again zero before text is octets whole =
      cbc_encrypted-zero key before (cbc_decrypted key before 0 text) ∙ sym (nothing text whole)
  cbc_again (suc n) before text is octets whole =
      let first = first_block n text octets whole in
      let opened = decrypted_block key (take 16 text) is_key first in
      let plain = both (decrypted key (take 16 text)) before in
      let is_plain = both_block (decrypted key (take 16 text)) before opened.octets is.octets in
      let rest = cbc_decrypted key (take 16 text) n (drop 16 text) in
      let made : cbc_decrypted key before (suc n) text ≡ plain ++ rest = cbc_decrypted-suc key before n text in
      let rest_whole : length (drop 16 text) ≡ 16 * n = length-drop 16 text ∙ omega arith in
      let front : take 16 (plain ++ rest) ≡ plain = take_at plain rest 16 is_plain.whole in
      let back : drop 16 (plain ++ rest) ≡ rest = drop_at plain rest 16 is_plain.whole in
      let block : encrypted key (both plain before) ≡ take 16 text =
      ap (encrypted key) (both_twice (decrypted key (take 16 text)) before opened.whole) ∙ encrypted-decrypted key (take 16 text) is_key first in
      ap (λ (xs : List ℕ). cbc_encrypted key before (suc n) xs) made
      ∙ cbc_encrypted-suc key before n (plain ++ rest)
      ∙ (λ i. encrypted key (both (front i) before) ++ cbc_encrypted key (encrypted key (both (front i) before)) n (back i))
      ∙ ap (λ (b : List ℕ). b ++ cbc_encrypted key b n rest) block
      ∙ ap (λ (xs : List ℕ). take 16 text ++ xs) (cbc_again n (take 16 text) (drop 16 text) first (drop_octets 16 text octets) rest_whole)
      ∙ take-append-drop 16 text
