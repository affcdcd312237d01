-- prf+ block by block: a beginning of it needs the first blocks alone.
use Rattle.std.proofs.Common.{◌≡◌, ◌≤◌, ℕ, zero, suc, ◌+◌, ◌*◌, ◌-◌, List, [], ◌∷◌, ◌++◌, length, take, drop, refl, sym, ap, ◌∙◌, arith, add-one, add-zero, add-suc, length-append}
use Rattle.std.proofs.lemmas.List.{append-nil, drop_all, length-drop, length-take-le, take-append-le}
use Rattle.std.proofs.lemmas.Slice.{take-put_mid}
use Rattle.std.proofs.Math.Seq.{take-append-add}
use borrow.Rule.Slice.PartMut.{put_mid}
use Rattle.mac.specs.Hmac.{hmac_block, hmac_sha256, keyed_hash}
use Rattle.mac.specs.KeyMaterial.{prf_block, prf_blocks, prf_plus}
use Rattle.mac.proofs.HmacLemmas.{length-hmac_sha256}

-- each block is the tag of the one before it, the seed and its number
pub prf_block-more : (key seed : List ℕ) (i : ℕ) → keyed_hash (hmac_block key) (prf_block key seed i ++ seed ++ (i + 1) ∷ []) ≡ prf_block key seed (i + 1)
unfolding prf_block hmac_sha256
prf_block-more key seed i = rw add-one

pub prf_block-first : (key seed : List ℕ) → keyed_hash (hmac_block key) ([] ++ seed ++ 1 ∷ []) ≡ prf_block key seed 1
unfolding prf_block hmac_sha256
prf_block-first key seed = refl

pub prf_blocks-more : (key seed : List ℕ) (n : ℕ) → prf_blocks key seed (n + 1) ≡ prf_blocks key seed n ++ prf_block key seed (n + 1)
unfolding prf_blocks
prf_blocks-more key seed n = rw add-one

pub prf_blocks-first : (key seed : List ℕ) → prf_blocks key seed 1 ≡ prf_block key seed 1
unfolding prf_blocks
prf_blocks-first key seed = refl

length-prf_block : (key seed : List ℕ) (i : ℕ) → length (prf_block key seed (suc i)) ≡ 32
unfolding prf_block
length-prf_block key seed i = length-hmac_sha256 key _

pub length-prf_blocks : (key seed : List ℕ) (n : ℕ) → length (prf_blocks key seed n) ≡ 32 * n
unfolding prf_blocks
length-prf_blocks key seed zero = refl
length-prf_blocks key seed (suc n) =
    omega (arith, length-append (prf_blocks key seed n) (prf_block key seed (suc n)), length-prf_blocks key seed n, length-prf_block key seed n)

-- more blocks leave the beginning as it is
take-prf_blocks-more : (key seed : List ℕ) (count n more : ℕ) → count ≤ 32 * n → take count (prf_blocks key seed (n + more)) ≡ take count (prf_blocks key seed n)
unfolding prf_blocks
take-prf_blocks-more key seed count n zero within = rw add-zero
take-prf_blocks-more key seed count n (suc more) within =
    let long : count ≤ length (prf_blocks key seed (n + more)) = omega (arith, length-prf_blocks key seed (n + more)) in
    rw add-suc (take-append-le count (prf_blocks key seed (n + more)) (prf_block key seed (suc (n + more))) long ∙ take-prf_blocks-more key seed count n more within)

-- so any number of blocks that are enough give the same octets
pub prf_plus-of_blocks : (key seed : List ℕ) (count n : ℕ) → count ≤ 32 * n → n ≤ 255 → take count (prf_blocks key seed n) ≡ prf_plus key seed count
unfolding prf_plus
prf_plus-of_blocks key seed count n within few =
    let all : n + (255 - n) ≡ 255 = omega arith in
    sym (take-prf_blocks-more key seed count n (255 - n) within) ∙ ap (λ m. take count (prf_blocks key seed m)) all

-- one block more is written behind those that were
pub written-more : (key seed out block written next : List ℕ) (filled number : ℕ) →
    filled ≤ length out → written ≡ block → length written ≡ 32 → take filled out ++ block ≡ prf_blocks key seed number → next ≡ prf_block key seed (number + 1) →
    take (filled + 32) (put_mid filled (filled + 32 - filled) out written) ++ next ≡ prf_blocks key seed (number + 1)
written-more key seed out block written next filled number within same long before is =
    ap (λ xs. xs ++ next) (take-put_mid filled (filled + 32 - filled) out written (filled + 32) (omega arith) within)
    ∙ ap (λ (xs : List ℕ). (take filled out ++ xs) ++ next) same
    ∙ ap (λ (xs : List ℕ). xs ++ next) before
    ∙ ap (λ (xs : List ℕ). prf_blocks key seed number ++ xs) is
    ∙ sym (prf_blocks-more key seed number)

-- the last block is written as far as there is room
pub written-rest : (out block written : List ℕ) (filled : ℕ) → filled ≤ length out → written ≡ take (length out - filled) block →
    put_mid filled (length out - filled) out written ≡ take (length out) (take filled out ++ block)
written-rest out block written filled within is =
    let front : length (take filled out) ≡ filled = length-take-le filled out within in
    let nothing : drop (length out - filled) (drop filled out) ≡ [] = drop_all (length out - filled) (drop filled out) (omega (arith, length-drop filled out)) in
    let whole : length (take filled out) + (length out - filled) ≡ length out = omega arith in
    ap (λ (xs : List ℕ). take filled out ++ (written ++ xs)) nothing
    ∙ ap (λ (xs : List ℕ). take filled out ++ xs) (append-nil written ∙ is)
    ∙ sym (take-append-add (take filled out) block (length out - filled))
    ∙ ap (λ (n : ℕ). take n (take filled out ++ block)) whole
