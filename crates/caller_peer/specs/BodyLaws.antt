-- The laws of a sealer, at AES-256 in CBC mode with HMAC-SHA-256-128.
use Rattle.std.proofs.Common.{◌≡◌, ℕ, zero, suc, ◌+◌, ◌-◌, ◌*◌, ◌/◌, ◌%◌, ◌<◌, ◌≤◌, Bool, true, ◌&&◌, if◌then◌else◌, nat_eq, nat_le, nat_lt, Option, Some, None, List, [], ◌∷◌, ◌++◌, length, map, get_or, take, drop, bit_xor, refl, sym, ap, ◌∙◌, arith, length-append}
use Rattle.std.specs.List.{range_with_len}
use Rattle.std.specs.Int.Bits.{xor_assoc, xor_self, xor_zero_r, xor_lt}
use Rattle.std.specs.Cmp.Lexicographic.{pointwise}
use Rattle.std.proofs.lemmas.Bool.{eq-eqb, le-leb, lt-ltb}
use Rattle.std.proofs.lemmas.List.{take_at, drop_at, take-append-drop, length-take-le, length-drop, get_or_at, append_assoc, length-replicate}
use Rattle.std.proofs.lemmas.List.FromFn.{fill_by_all, get_or-map-range_with_len}
use Rattle.base.specs.Octets.{AreOctets}
use Rattle.mac.proofs.HmacLemmas.{length-icv_sha256}
use Rattle.aes.specs.Cipher.{encrypted, decrypted}
use Rattle.aes.specs.Laws.{IsKey, IsBlock}
use Rattle.aes.proofs.InverseLemmas.{are_octets, decrypted-encrypted, encrypted_block}
use Rattle.suite.specs.declared.keys.Keys.{Keys}
use Rattle.suite.specs.Sealing.{AreSealable}
use Rattle.caller_peer.specs.Chaining.{both, cbc_encrypted, cbc_decrypted}
use Rattle.caller_peer.specs.Bodies.{pad_length, padding, zeros, blocks_of, body_size, encrypted_part, check_value, sealed_body, unpadded, is_intact, decrypted_part, opened_body}

-- ---- octets
pub append_octets : (xs ys : List ℕ) → AreOctets xs → AreOctets ys → AreOctets (xs ++ ys)
append_octets [] ys front back = back
append_octets (x ∷ xs) ys front back = (front.0, append_octets xs ys front.1 back)

pub take_octets : (n : ℕ) (xs : List ℕ) → AreOctets xs → AreOctets (take n xs)
take_octets zero xs octets = tt
take_octets (suc n) [] octets = tt
take_octets (suc n) (x ∷ xs) octets = (octets.0, take_octets n xs octets.1)

pub drop_octets : (n : ℕ) (xs : List ℕ) → AreOctets xs → AreOctets (drop n xs)
drop_octets zero xs octets = octets
drop_octets (suc n) [] octets = tt
drop_octets (suc n) (x ∷ xs) octets = drop_octets n xs octets.1

map_octets : (f : ℕ → ℕ) → ((k : ℕ) → f k < 256) → (xs : List ℕ) → AreOctets (map f xs)
map_octets f fits [] = tt
map_octets f fits (x ∷ xs) = (fits x, map_octets f fits xs)

zeros_octets : (n : ℕ) → AreOctets (zeros n)
zeros_octets zero = tt
zeros_octets (suc n) = (omega arith, zeros_octets n)

length-zeros : (n : ℕ) → length (zeros n) ≡ n
length-zeros n = length-replicate {A = ℕ} n _

-- ---- blocks
pub both_block : (a b : List ℕ) → AreOctets a → AreOctets b → IsBlock (both a b)
unfolding both
both_block a b octets_a octets_b = record {
  whole = refl;
  octets = map_octets (λ k. bit_xor (get_or a k 0) (get_or b k 0)) (λ k. xor_lt 8 (get_or a k 0) (get_or b k 0) (are_octets a octets_a k) (are_octets b octets_b k)) (range_with_len 0 16);
}

pub both_twice : (a b : List ℕ) → length a ≡ 16 → both (both a b) b ≡ a
unfolding both
both_twice a b whole =
    sym (fill_by_all (λ k. bit_xor (get_or (map (λ j. bit_xor (get_or a j 0) (get_or b j 0)) (range_with_len 0 16)) k 0) (get_or b k 0)) a 16 0 whole (λ k within.
    let at = get_or-map-range_with_len (λ j. bit_xor (get_or a j 0) (get_or b j 0)) 0 16 k k 0 within (omega arith) in
    sym (ap (λ (x : ℕ). bit_xor x (get_or b k 0)) at ∙ xor_assoc (get_or a k 0) (get_or b k 0) (get_or b k 0)
    ∙ ap (bit_xor (get_or a k 0)) (xor_self (get_or b k 0)) ∙ xor_zero_r (get_or a k 0))))

pub cbc_encrypted-suc : (key before : List ℕ) (n : ℕ) (text : List ℕ) → cbc_encrypted key before (suc n) text
    ≡ encrypted key (both (take 16 text) before) ++ cbc_encrypted key (encrypted key (both (take 16 text) before)) n (drop 16 text)
unfolding cbc_encrypted
cbc_encrypted-suc key before n text = refl

pub cbc_encrypted-zero : (key before text : List ℕ) → cbc_encrypted key before 0 text ≡ []
unfolding cbc_encrypted
cbc_encrypted-zero key before text = refl

pub cbc_decrypted-suc : (key before : List ℕ) (n : ℕ) (text : List ℕ) → cbc_decrypted key before (suc n) text
    ≡ both (decrypted key (take 16 text)) before ++ cbc_decrypted key (take 16 text) n (drop 16 text)
unfolding cbc_decrypted
cbc_decrypted-suc key before n text = refl

pub cbc_decrypted-zero : (key before text : List ℕ) → cbc_decrypted key before 0 text ≡ []
unfolding cbc_decrypted
cbc_decrypted-zero key before text = refl

pub nothing : (xs : List ℕ) → length xs ≡ 16 * 0 → xs ≡ []
nothing [] none = refl
nothing (x ∷ xs) none = absurd (omega arith)

module _ (key : List ℕ) (is_key : IsKey key) where
  block_of : (before text : List ℕ) → IsBlock before → AreOctets text → IsBlock (encrypted key (both (take 16 text) before))
  block_of before text is octets =
      encrypted_block key (both (take 16 text) before) is_key (both_block (take 16 text) before (take_octets 16 text octets) is.octets)

  pub cbc_long : (n : ℕ) (before text : List ℕ) → IsBlock before → AreOctets text → length (cbc_encrypted key before n text) ≡ 16 * n
  cbc_long zero before text is octets = ap length (cbc_encrypted-zero key before text)
  cbc_long (suc n) before text is octets =
      let block = encrypted key (both (take 16 text) before) in
      let is_block = block_of before text is octets in
      let whole : length block ≡ 16 = is_block.whole in
      let rest = cbc_long n block (drop 16 text) is_block (drop_octets 16 text octets) in
      ap length (cbc_encrypted-suc key before n text) ∙ omega (arith, length-append block (cbc_encrypted key block n (drop 16 text)))

  -- what is encrypted is decrypted to the same text
  pub cbc_back : (n : ℕ) (before text : List ℕ) → IsBlock before → AreOctets text → length text ≡ 16 * n →
      cbc_decrypted key before n (cbc_encrypted key before n text) ≡ text
  cbc_back zero before text is octets whole =
      cbc_decrypted-zero key before (cbc_encrypted key before 0 text) ∙ sym (nothing text whole)
  cbc_back (suc n) before text is octets whole =
      let sum = both (take 16 text) before in
      let block = encrypted key sum in
      let is_sum = both_block (take 16 text) before (take_octets 16 text octets) is.octets in
      let is_block = block_of before text is octets in
      let rest = cbc_encrypted key block n (drop 16 text) in
      let made : cbc_encrypted key before (suc n) text ≡ block ++ rest = cbc_encrypted-suc key before n text in
      let front : take 16 (block ++ rest) ≡ block = take_at block rest 16 is_block.whole in
      let back : drop 16 (block ++ rest) ≡ rest = drop_at block rest 16 is_block.whole in
      let first : both (decrypted key block) before ≡ take 16 text =
      ap (λ (xs : List ℕ). both xs before) (decrypted-encrypted key sum is_key is_sum)
      ∙ both_twice (take 16 text) before (length-take-le 16 text (omega arith)) in
      let others : cbc_decrypted key block n rest ≡ drop 16 text =
      cbc_back n block (drop 16 text) is_block (drop_octets 16 text octets) (length-drop 16 text ∙ omega arith) in
      ap (cbc_decrypted key before (suc n)) made
      ∙ cbc_decrypted-suc key before n (block ++ rest)
      ∙ (λ i. both (decrypted key (front i)) before ++ cbc_decrypted key (front i) n (back i))
      ∙ (λ i. first i ++ others i)
      ∙ take-append-drop 16 text

-- ---- padding
pub length-padding : (plain : ℕ) → length (padding plain) ≡ pad_length plain + 1
unfolding padding
length-padding plain =
    length-append (zeros (pad_length plain)) (pad_length plain ∷ []) ∙ ap (λ (n : ℕ). n + 1) (length-zeros (pad_length plain))

padding_octets : (plain : ℕ) → AreOctets (padding plain)
unfolding padding
padding_octets plain = append_octets (zeros (pad_length plain)) (pad_length plain ∷ []) (zeros_octets (pad_length plain)) (omega arith, tt)

pub padded_long : (plain : List ℕ) → length (plain ++ padding (length plain)) ≡ 16 * blocks_of (length plain)
padded_long plain =
    length-append plain (padding (length plain)) ∙ ap (λ (n : ℕ). length plain + n) (length-padding (length plain)) ∙ omega arith

chosen : (t : Bool) (xs ys : List ℕ) → t ≡ true → xs ≡ ys → (if t then Some xs else None) ≡ Some ys
chosen t xs ys is same = rw is (ap (λ (zs : List ℕ). Some zs) same)

unpadded_plain : (plain text : List ℕ) (pad : ℕ) → text ≡ plain ++ (zeros pad ++ pad ∷ []) → unpadded text ≡ Some plain
unfolding unpadded
unpadded_plain plain text pad is =
    let split : text ≡ (plain ++ zeros pad) ++ pad ∷ [] = is ∙ sym (append_assoc plain (zeros pad) (pad ∷ [])) in
    let front : length (plain ++ zeros pad) ≡ length plain + pad =
    length-append plain (zeros pad) ∙ ap (λ (n : ℕ). length plain + n) (length-zeros pad) in
    let long : length text ≡ length plain + pad + 1 =
    ap length split ∙ length-append (plain ++ zeros pad) (pad ∷ []) ∙ ap (λ (n : ℕ). n + 1) front in
    let place : length (plain ++ zeros pad) ≡ length text - 1 = omega arith in
    let last : get_or text (length text - 1) 0 ≡ pad =
    ap (λ (xs : List ℕ). get_or xs (length text - 1) 0) split ∙ get_or_at (plain ++ zeros pad) pad [] 0 (length text - 1) place in
    let enough : nat_lt (get_or text (length text - 1) 0) (length text) ≡ true = lt-ltb (get_or text (length text - 1) 0) (length text) (omega arith) in
    let count : length text - 1 - get_or text (length text - 1) 0 ≡ length plain = omega arith in
    chosen (nat_lt (get_or text (length text - 1) 0) (length text)) _ plain enough
    ((λ i. take (count i) (is i)) ∙ take_at plain (zeros pad ++ pad ∷ []) (length plain) refl)

unpadded_again : (plain : List ℕ) → unpadded (plain ++ padding (length plain)) ≡ Some plain
unfolding padding
unpadded_again plain = unpadded_plain plain (plain ++ padding (length plain)) (pad_length (length plain)) refl

-- ---- bodies
pub key_of : (keys : Keys) (head plain fresh : List ℕ) → AreSealable keys head plain fresh → IsKey keys.encryption
key_of keys head plain fresh is = record { whole = is.keyed.encryption_long; octets = is.keyed.encryption_octets }

pub vector_of : (keys : Keys) (head plain fresh : List ℕ) → AreSealable keys head plain fresh → IsBlock fresh
vector_of keys head plain fresh is = record { whole = is.fresh_long; octets = is.fresh_octets }

pub length-check_value : (keys : Keys) (head sealed : List ℕ) → length (check_value keys head sealed) ≡ 16
unfolding check_value
length-check_value keys head sealed = length-icv_sha256 keys.integrity (head ++ sealed)

abbrev encrypted_blocks : Keys → List ℕ → List ℕ → List ℕ
encrypted_blocks keys plain fresh = cbc_encrypted keys.encryption fresh (blocks_of (length plain)) (plain ++ padding (length plain))

pub padded_octets : (plain : List ℕ) → AreOctets plain → AreOctets (plain ++ padding (length plain))
padded_octets plain octets = append_octets plain (padding (length plain)) octets (padding_octets (length plain))

blocks_long : (keys : Keys) (head plain fresh : List ℕ) → AreSealable keys head plain fresh → length (encrypted_blocks keys plain fresh) ≡ 16 * blocks_of (length plain)
blocks_long keys head plain fresh is =
    cbc_long keys.encryption (key_of keys head plain fresh is) (blocks_of (length plain)) fresh (plain ++ padding (length plain))
    (vector_of keys head plain fresh is) (padded_octets plain is.plain_octets)

sealed_long : (keys : Keys) (head plain fresh : List ℕ) → AreSealable keys head plain fresh → length (encrypted_part keys plain fresh) ≡ 16 + 16 * blocks_of (length plain)
unfolding encrypted_part
sealed_long keys head plain fresh is =
    let vector : length fresh ≡ 16 = is.fresh_long in
    let blocks = blocks_long keys head plain fresh is in
    length-append fresh (encrypted_blocks keys plain fresh) ∙ (λ i. vector i + blocks i)

pub body_length : (keys : Keys) (head plain fresh : List ℕ) → AreSealable keys head plain fresh → length (sealed_body keys head plain fresh) ≡ body_size (length plain)
unfolding sealed_body
body_length keys head plain fresh is =
    let sealed = encrypted_part keys plain fresh in
    let long = sealed_long keys head plain fresh is in
    let value = length-check_value keys head sealed in
    length-append sealed (check_value keys head sealed) ∙ (λ i. long i + value i)

pub sizes : (n : ℕ) → (n ≤ body_size n) × (body_size n ≤ n + 128)
sizes n = (omega arith, omega arith)

pub pointwise_itself : (xs : List ℕ) → pointwise nat_eq xs xs ≡ true
pointwise_itself [] = refl
pointwise_itself (x ∷ xs) = rw (eq-eqb x x refl) (pointwise_itself xs)

all_three : (a b c : Bool) → a ≡ true → b ≡ true → c ≡ true → (a && b && c) ≡ true
all_three a b c is_a is_b is_c = rw (is_a, is_b, is_c) refl

picked : (t : Bool) (x y : Option (List ℕ)) → t ≡ true → x ≡ y → (if t then x else None) ≡ y
picked t x y is same = rw is same

-- vector, blocks and ICV, told apart
pub opens_parts : (keys : Keys) (head vector blocks value plain : List ℕ) (m : ℕ) →
    length vector ≡ 16 → length blocks ≡ 16 * (m + 1) → length value ≡ 16 → value ≡ check_value keys head (vector ++ blocks) →
    unpadded (cbc_decrypted keys.encryption vector (m + 1) blocks) ≡ Some plain →
    opened_body keys head ((vector ++ blocks) ++ value) ≡ Some plain
unfolding opened_body is_intact decrypted_part
opens_parts keys head vector blocks value plain m vector_long blocks_long value_long is_value opens =
    let sealed = vector ++ blocks in
    let body = sealed ++ value in
    let sealed_long : length sealed ≡ 16 + 16 * (m + 1) = length-append vector blocks ∙ (λ i. vector_long i + blocks_long i) in
    let body_long : length body ≡ 16 + 16 * (m + 1) + 16 = length-append sealed value ∙ (λ i. sealed_long i + value_long i) in
    let end : length body - 16 ≡ length sealed = omega arith in
    let front : take (length body - 16) body ≡ sealed = ap (λ (n : ℕ). take n body) end ∙ take_at sealed value (length sealed) refl in
    let back : drop (length body - 16) body ≡ value = ap (λ (n : ℕ). drop n body) end ∙ drop_at sealed value (length sealed) refl in
    let enough : nat_le 48 (length body) ≡ true = le-leb 48 (length body) (omega arith) in
    let whole : nat_eq (length body % 16) 0 ≡ true = eq-eqb (length body % 16) 0 (omega arith) in
    let right : pointwise nat_eq (drop (length body - 16) body) (check_value keys head (take (length body - 16) body)) ≡ true =
    (λ i. pointwise nat_eq (back i) (check_value keys head (front i)))
    ∙ ap (pointwise nat_eq value) (sym is_value) ∙ pointwise_itself value in
    let intact = all_three (nat_le 48 (length body)) (nat_eq (length body % 16) 0) _ enough whole right in
    let text : drop 16 (take (length body - 16) body) ≡ blocks = ap (drop 16) front ∙ drop_at vector blocks 16 vector_long in
    let count : length blocks / 16 ≡ m + 1 = omega arith in
    let first : take 16 body ≡ vector = ap (take 16) (append_assoc vector blocks value) ∙ take_at vector (blocks ++ value) 16 vector_long in
    let decrypted : cbc_decrypted keys.encryption (take 16 body) (length (drop 16 (take (length body - 16) body)) / 16) (drop 16 (take (length body - 16) body))
    ≡ cbc_decrypted keys.encryption vector (m + 1) blocks =
    (λ i. cbc_decrypted keys.encryption (first i) (length (text i) / 16) (text i)) ∙ ap (λ (n : ℕ). cbc_decrypted keys.encryption vector n blocks) count in
    picked (nat_le 48 (length body) && nat_eq (length body % 16) 0 && pointwise nat_eq (drop (length body - 16) body) (check_value keys head (take (length body - 16) body)))
    _ (Some plain) intact (ap unpadded decrypted ∙ opens)

pub body_opens : (keys : Keys) (head plain fresh : List ℕ) → AreSealable keys head plain fresh → opened_body keys head (sealed_body keys head plain fresh) ≡ Some plain
unfolding sealed_body encrypted_part
body_opens keys head plain fresh is =
    let blocks = encrypted_blocks keys plain fresh in
    let back : cbc_decrypted keys.encryption fresh (blocks_of (length plain)) blocks ≡ plain ++ padding (length plain) =
    cbc_back keys.encryption (key_of keys head plain fresh is) (blocks_of (length plain)) fresh (plain ++ padding (length plain))
    (vector_of keys head plain fresh is) (padded_octets plain is.plain_octets) (padded_long plain) in
    opens_parts keys head fresh blocks (check_value keys head (fresh ++ blocks)) plain (length plain / 16)
    is.fresh_long (blocks_long keys head plain fresh is) (length-check_value keys head (fresh ++ blocks)) refl
    (ap unpadded back ∙ unpadded_again plain)
