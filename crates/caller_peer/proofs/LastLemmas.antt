-- The last block of a body, decrypted alone, and the pad length in it.
use Rattle.std.proofs.Common.{◌≡◌, ℕ, zero, suc, ◌+◌, ◌-◌, ◌*◌, ◌/◌, ◌%◌, ◌≤◌, Bool, true, false, if◌then◌else◌, nat_lt, Option, Some, None, List, ◌++◌, length, get_or, take, drop, option_map, SomeIff, refl, sym, ap, ◌∙◌, arith}
use Rattle.std.proofs.lemmas.Bool.{lt-ltb, le-ltb}
use Rattle.std.proofs.lemmas.List.{length-append, length-take-le, length-drop, take_at, take_all, drop_at, drop-drop, drop-take, take-take, take-append-drop, append-nil, get_or-drop}
use Rattle.aes.specs.Cipher.{decrypted}
use Rattle.suite.specs.declared.keys.Keys.{Keys}
use Rattle.caller_peer.specs.Chaining.{both, cbc_decrypted}
use Rattle.caller_peer.specs.Bodies.{decrypted_part, unpadded}
use Rattle.caller_peer.specs.BodyLaws.{cbc_decrypted-suc, cbc_decrypted-zero}

both_long : (a b : List ℕ) → length (both a b) ≡ 16
unfolding both
both_long a b = refl

-- whatever is decrypted, each block has 16 octets
pub decrypted_size : (key : List ℕ) (n : ℕ) (before text : List ℕ) → length (cbc_decrypted key before n text) ≡ 16 * n
decrypted_size key zero before text = ap length (cbc_decrypted-zero key before text)
decrypted_size key (suc n) before text =
    let first = both (decrypted key (take 16 text)) before in
    let rest = cbc_decrypted key (take 16 text) n (drop 16 text) in
    let first_long : length first ≡ 16 = both_long (decrypted key (take 16 text)) before in
    let rest_long : length rest ≡ 16 * n = decrypted_size key n (take 16 text) (drop 16 text) in
    ap length (cbc_decrypted-suc key before n text) ∙ length-append first rest ∙ omega arith

skipped : (xs : List ℕ) (j : ℕ) → drop (16 * j) (drop 16 xs) ≡ drop (16 * suc j) xs
skipped xs j =
    let place : 16 + 16 * j ≡ 16 * suc j = omega arith in
    drop-drop (16 * j) 16 xs ∙ ap (λ (n : ℕ). drop n xs) place

behind : (front xs : List ℕ) (j : ℕ) → length front ≡ 16 → drop (16 * suc j) (front ++ xs) ≡ drop (16 * j) xs
behind front xs j long = sym (skipped (front ++ xs) j) ∙ ap (drop (16 * j)) (drop_at front xs 16 long)

last_decrypted : (key : List ℕ) (n : ℕ) (before text : List ℕ) → length before ≡ 16 → length text ≡ 16 * suc n →
    drop (16 * n) (cbc_decrypted key before (suc n) text) ≡ both (decrypted key (drop (16 * n) text)) (take 16 (drop (16 * n) (before ++ text)))
last_decrypted key zero before text before_long whole =
    cbc_decrypted-suc key before 0 text
    ∙ ap (λ (xs : List ℕ). both (decrypted key (take 16 text)) before ++ xs) (cbc_decrypted-zero key (take 16 text) (drop 16 text))
    ∙ append-nil (both (decrypted key (take 16 text)) before)
    ∙ (λ i. both (decrypted key (take_all 16 text (omega arith) i)) (sym (take_at before text 16 before_long) i))
last_decrypted key (suc n) before text before_long whole =
    let first = both (decrypted key (take 16 text)) before in
    let rest = cbc_decrypted key (take 16 text) (suc n) (drop 16 text) in
    let rest_whole : length (drop 16 text) ≡ 16 * suc n = length-drop 16 text ∙ omega arith in
    let middle : drop (16 * n) (take 16 text ++ drop 16 text) ≡ drop (16 * suc n) (before ++ text) =
    ap (drop (16 * n)) (take-append-drop 16 text) ∙ sym (behind before text n before_long) in
    ap (drop (16 * suc n)) (cbc_decrypted-suc key before (suc n) text)
    ∙ behind first rest n (both_long (decrypted key (take 16 text)) before)
    ∙ last_decrypted key n (take 16 text) (drop 16 text) (length-take-le 16 text (omega arith)) rest_whole
    ∙ (λ i. both (decrypted key (skipped text n i)) (take 16 (middle i)))

-- sixteen octets of what stands before an ICV
part_of : (body : List ℕ) (from count end : ℕ) → from + count ≡ end → 16 ≤ count → take 16 (drop from (take end body)) ≡ take 16 (drop from body)
part_of body from count end is enough =
    ap (λ (n : ℕ). take 16 (drop from (take n body))) (sym is)
    ∙ ap (take 16) (drop-take from count body)
    ∙ take-take 16 count (drop from body) enough

pub last_of_body : (keys : Keys) (body key before last : List ℕ) (before_at before_many last_at last_many : ℕ) → 48 ≤ length body → length body % 16 ≡ 0 →
    key ≡ keys.encryption → before ≡ take before_many (drop before_at body) → last ≡ take last_many (drop last_at body) →
    before_at + 48 ≡ length body → before_many ≡ 16 → last_at + 32 ≡ length body → last_many ≡ 16 →
    both (decrypted key last) before ≡ drop (length body - 48) (decrypted_part keys body)
unfolding decrypted_part
last_of_body keys body key before last before_at before_many last_at last_many enough whole is_key is_before is_last at_before many_before at_last many_last =
    let sealed = take (length body - 16) body in
    let vector = take 16 body in
    let text = drop 16 sealed in
    let n = length body / 16 - 3 in
    let place : 16 * n ≡ length body - 48 = omega arith in
    let before_from : before_at ≡ 16 * n = omega arith in
    let last_from : last_at ≡ 16 * suc n = omega arith in
    let sealed_long : length sealed ≡ length body - 16 = length-take-le (length body - 16) body (omega arith) in
    let vector_long : length vector ≡ 16 = length-take-le 16 body (omega arith) in
    let text_long : length text ≡ 16 * suc n = length-drop 16 sealed ∙ omega arith in
    let count : length text / 16 ≡ suc n = omega arith in
    let joined : vector ++ text ≡ sealed =
    ap (λ (xs : List ℕ). xs ++ text) (sym (take-take 16 (length body - 16) body (omega arith))) ∙ take-append-drop 16 sealed in
    let last_is : drop (16 * n) text ≡ last =
    sym (take_all 16 (drop (16 * n) text) (omega (arith, length-drop (16 * n) text)))
    ∙ ap (take 16) (skipped sealed n)
    ∙ part_of body (16 * suc n) 16 (length body - 16) (omega arith) (omega arith)
    ∙ sym (is_last ∙ (λ i. take (many_last i) (drop (last_from i) body))) in
    let before_is : take 16 (drop (16 * n) (vector ++ text)) ≡ before =
    ap (λ (xs : List ℕ). take 16 (drop (16 * n) xs)) joined
    ∙ part_of body (16 * n) 32 (length body - 16) (omega arith) (omega arith)
    ∙ sym (is_before ∙ (λ i. take (many_before i) (drop (before_from i) body))) in
    sym ((λ i. drop (sym place i) (cbc_decrypted keys.encryption vector (count i) text))
    ∙ last_decrypted keys.encryption n vector text vector_long text_long
    ∙ (λ i. both (decrypted (sym is_key i) (last_is i)) (before_is i)))

pub decrypted_part_long : (keys : Keys) (body : List ℕ) → 48 ≤ length body → length body % 16 ≡ 0 → length (decrypted_part keys body) ≡ length body - 32
unfolding decrypted_part
decrypted_part_long keys body enough whole =
    let text = drop 16 (take (length body - 16) body) in
    let text_long : length text ≡ length body - 32 =
    length-drop 16 (take (length body - 16) body) ∙ ap (λ (n : ℕ). n - 16) (length-take-le (length body - 16) body (omega arith)) ∙ omega arith in
    decrypted_size keys.encryption (length text / 16) (take 16 body) text ∙ omega arith

-- ---- the pad length is the last octet
known : (t : Bool) (xs ys : List ℕ) → t ≡ true → xs ≡ ys → Some xs ≡ (if t then Some ys else None)
known t xs ys is same = rw is (ap (λ (zs : List ℕ). Some zs) same)

unknown : (t : Bool) (xs : List ℕ) → t ≡ false → None ≡ (if t then Some xs else None)
unknown t xs is = rw is refl

last_octet : (text last : List ℕ) (from room pad : ℕ) → length text ≡ room + 1 → last ≡ drop from text → from + 15 ≡ room → pad ≡ get_or last 15 0 →
    get_or text (length text - 1) 0 ≡ pad
last_octet text last from room pad long is_last at is_pad =
    let place : length text - 1 ≡ from + 15 = omega arith in
    ap (λ (k : ℕ). get_or text k 0) place ∙ sym (is_pad ∙ ap (λ (xs : List ℕ). get_or xs 15 0) is_last ∙ get_or-drop from text 15 0)

pub plain_counted : (text last : List ℕ) (from room pad : ℕ) (result : Option ℕ) → length text ≡ room + 1 → last ≡ drop from text → from + 15 ≡ room →
    pad ≡ get_or last 15 0 → SomeIff result (pad ≤ room) (room - pad) → option_map (λ plain. take plain text) result ≡ unpadded text
unfolding unpadded
plain_counted text last from room pad None long is_last at is_pad told =
    let octet = last_octet text last from room pad long is_last at is_pad in
    unknown (nat_lt (get_or text (length text - 1) 0) (length text)) (take (length text - 1 - get_or text (length text - 1) 0) text)
    (le-ltb (get_or text (length text - 1) 0) (length text) (omega arith))
plain_counted text last from room pad (Some n) long is_last at is_pad told =
    let octet = last_octet text last from room pad long is_last at is_pad in
    let few : pad ≤ room = told.0 in
    let many : n ≡ room - pad = told.1 in
    let count : n ≡ length text - 1 - get_or text (length text - 1) 0 = omega arith in
    known (nat_lt (get_or text (length text - 1) 0) (length text)) (take n text) (take (length text - 1 - get_or text (length text - 1) 0) text)
    (lt-ltb (get_or text (length text - 1) 0) (length text) (omega arith)) (ap (λ (k : ℕ). take k text) count)
