-- What a step of reading takes from the front is spelled there, and what is spelled at the front is taken.
use Rattle.std.proofs.Common.{◌≡◌, ℕ, zero, suc, ◌+◌, ◌-◌, ◌*◌, ◌/◌, ◌^◌, ◌<◌, ◌≤◌, false, cond, ltb, List, [], ◌∷◌, ◌++◌, length, slice_index, Some, None, refl, sym, ap, subst, ◌∙◌, append_assoc, inl, inr, arith}
use Rattle.std.proofs.lemmas.Bool.{ltb-false, le-ltb, cases_order}
use Rattle.std.proofs.lemmas.List.{take_at, drop_at, take-append-drop, length-append, length-take, append-nil, nil_from_length}
use Rattle.std.proofs.Math.Nat.{add-mul, mul-le-mul_right, mod-lt}
use Rattle.byteorder.specs.Endian.{big_bytes, big_number}
use Rattle.byteorder.specs.Numbers.{big_number-reads_back, length-bytes_high_first, big_from-cons, big_from-lt}
use Rattle.base.specs.Octets.{AreOctets}
use Rattle.wire.specs.Parts.{IsPart}
use Rattle.wire.specs.Reading.{◌>>=◌, octets_at, octet_at, number_at, part_at, Piece, piece_of}
use Rattle.base.proofs.OctetLemmas.{octets_front, octet_in}
use Rattle.wire.proofs.Options.{some_is, with_some, with_guard}
use Rattle.wire.proofs.Pieces.{octets_take}

-- ---- so many octets

pub octets_takes : (count : ℕ) (xs : List ℕ) (x : List ℕ × List ℕ) → octets_at count xs ≡ Some x → (xs ≡ x.0 ++ x.1) × (length x.0 ≡ count)
octets_takes count xs x e =
    let t = octets_take count xs x e in
    (rw (t.front_is, t.rest_is) (sym (take-append-drop count xs)), rw t.front_is (omega (arith, t.long, length-take count xs)))

pub octets_again : (front rest : List ℕ) (count : ℕ) → length front ≡ count → octets_at count (front ++ rest) ≡ Some (front, rest)
octets_again front rest count e =
    let long : ltb (length (front ++ rest)) count ≡ false = le-ltb _ _ (omega (arith, length-append front rest)) in
    rw (long, take_at front rest count e, drop_at front rest count e) refl

-- ---- an octet

lone : (front : List ℕ) → length front ≡ 1 → front ≡ slice_index front 0 ∷ []
lone [] e = absurd (omega arith)
lone (x ∷ []) e = refl
lone (x ∷ y ∷ front) e = absurd (omega arith)

pub octet_takes : (xs : List ℕ) (x : ℕ × List ℕ) → octet_at xs ≡ Some x → xs ≡ x.0 ∷ x.1
octet_takes xs x e =
    with_some (octets_at 1 xs) (λ y. Some (slice_index y.0 0, y.1)) x e (λ y e1 r1.
    let t = octets_takes 1 xs y e1 in
    let is : (slice_index y.0 0, y.1) ≡ x = some_is (slice_index y.0 0, y.1) x r1 in
    t.0 ∙ ap (λ (front : List ℕ). front ++ y.1) (lone y.0 t.1) ∙ ap (λ (p : ℕ × List ℕ). p.0 ∷ p.1) is)

pub octet_again : (x : ℕ) (rest : List ℕ) → octet_at (x ∷ rest) ≡ Some (x, rest)
octet_again x rest = ap (λ o. o >>= λ y. Some (slice_index y.0 0, y.1)) (octets_again (x ∷ []) rest 1 refl)

-- ---- a number

-- the numbers of so many octets
pub record IsWide (count limit : ℕ) : Type 0 where
  pub back : (front : List ℕ) → length front ≡ count → AreOctets front → big_bytes count (big_number count front) ≡ front
  pub below : (front : List ℕ) → AreOctets front → big_number count front < limit
  pub limit_is : limit ≡ 256 ^ count

parts_same : (a b p u v : ℕ) → u < p → v < p → a * p + u ≡ b * p + v → (a ≡ b) × (u ≡ v)
parts_same a b p u v one other e = elim (cases_order a b) [
  | inl same ↦ (same, omega (arith, e, ap (λ (n : ℕ). n * p) same))
  | inr (inl less) ↦ absurd (omega (arith, e, one, other, add-mul a 1 p, mul-le-mul_right p (above a b less)))
  | inr (inr more) ↦ absurd (omega (arith, e, one, other, add-mul b 1 p, mul-le-mul_right p (above b a more)))
] where
  above : (m n : ℕ) → m < n → m + 1 ≤ n
  above m n less = omega (arith, less)

-- so many octets spell different numbers
one_number : (n : ℕ) (xs ys : List ℕ) → length xs ≡ n → length ys ≡ n → AreOctets xs → AreOctets ys → big_number n xs ≡ big_number n ys → xs ≡ ys
one_number zero xs ys none nothing fits other e = nil_from_length xs none ∙ sym (nil_from_length ys nothing)
one_number (suc n) [] ys long same fits other e = absurd (omega arith)
one_number (suc n) (x ∷ xs) [] long same fits other e = absurd (omega arith)
one_number (suc n) (x ∷ xs) (y ∷ ys) long same fits other e =
    let moved : x * 256 ^ n + big_number n xs ≡ y * 256 ^ n + big_number n ys =
    ap (λ (r : ℕ). x * 256 ^ n + r) (sym (big_from-cons 0 n x xs)) ∙ e ∙ ap (λ (r : ℕ). y * 256 ^ n + r) (big_from-cons 0 n y ys) in
    let both = parts_same x y (256 ^ n) (big_number n xs) (big_number n ys) (big_from-lt 0 n xs (λ i. octet_in xs i fits.1)) (big_from-lt 0 n ys (λ i. octet_in ys i other.1)) moved in
    let rest : xs ≡ ys = one_number n xs ys (omega (arith, long)) (omega (arith, same)) fits.1 other.1 both.1 in
    ap (λ (z : ℕ). z ∷ xs) both.0 ∙ ap (λ (zs : List ℕ). y ∷ zs) rest

pub number_octets : (count n : ℕ) → AreOctets (big_bytes count n)
number_octets zero n = tt
number_octets (suc zero) n = (omega arith, tt)
number_octets (suc (suc count)) n = (mod-lt (n / 256 ^ suc count) (omega arith), number_octets (suc count) n)

wide : (count : ℕ) → IsWide count (256 ^ count)
wide count = record {
  back = λ front len fits.
      let small : big_number count front < 256 ^ count = big_from-lt 0 count front (λ i. octet_in front i fits) in
      let again : big_number count (big_bytes count (big_number count front)) ≡ big_number count front =
      ap (big_number count) (sym (append-nil (big_bytes count (big_number count front)))) ∙ big_number-reads_back count (big_number count front) [] small in
      one_number count (big_bytes count (big_number count front)) front (length-bytes_high_first count (big_number count front)) len (number_octets count (big_number count front)) fits again;
  below = λ front fits. big_from-lt 0 count front (λ i. octet_in front i fits);
  limit_is = refl;
}

pub wide2 : IsWide 2 (2 ^ 16)
wide2 = wide 2

pub wide4 : IsWide 4 (2 ^ 32)
wide4 = wide 4

pub wide8 : IsWide 8 (2 ^ 64)
wide8 = wide 8

pub wide16 : IsWide 16 (2 ^ 128)
wide16 = wide 16

pub number_takes : (count limit : ℕ) → IsWide count limit → (xs : List ℕ) (x : ℕ × List ℕ) → AreOctets xs → number_at count xs ≡ Some x → (xs ≡ big_bytes count x.0 ++ x.1) × (x.0 < limit)
number_takes count limit wide xs x fits e =
    with_some (octets_at count xs) (λ y. Some (big_number count y.0, y.1)) x e (λ y e1 r1.
    let t = octets_takes count xs y e1 in
    let front_fits : AreOctets y.0 = octets_front y.0 y.1 (subst AreOctets t.0 fits) in
    let is : (big_number count y.0, y.1) ≡ x = some_is (big_number count y.0, y.1) x r1 in
    let P : ℕ × List ℕ → Type 0 = λ p. (xs ≡ big_bytes count p.0 ++ p.1) × (p.0 < limit) in
    subst P is (t.0 ∙ ap (λ (front : List ℕ). front ++ y.1) (sym (wide.back y.0 t.1 front_fits)), wide.below y.0 front_fits))

pub number_again : (count limit : ℕ) → IsWide count limit → (n : ℕ) (rest : List ℕ) → n < limit → number_at count (big_bytes count n ++ rest) ≡ Some (n, rest)
number_again count limit wide n rest lt =
    let len : length (big_bytes count n) ≡ count = length-bytes_high_first count n in
    let value : big_number count (big_bytes count n) ≡ n = ap (big_number count) (sym (append-nil (big_bytes count n))) ∙ big_number-reads_back count n [] (rw (← wide.limit_is) lt) in
    ap (λ o. o >>= λ y. Some (big_number count y.0, y.1)) (octets_again (big_bytes count n) rest count len) ∙ ap (λ (m : ℕ). Some (m, rest)) value

-- ---- a part

-- a part and what is behind it
pub record TakesPart (xs : List ℕ) (x : Piece × List ℕ) : Type 0 where
  pub front : List ℕ
  pub joined : xs ≡ front ++ x.1
  pub part : IsPart x.0.first x.0.second x.0.inside front

pub part_takes : (xs : List ℕ) (x : Piece × List ℕ) → AreOctets xs → part_at xs ≡ Some x → TakesPart xs x
unfolding part_at
part_takes xs x fits e =
    with_some (octet_at xs) _ x e (λ first e1 r1.
    with_some (octet_at first.1) _ x r1 (λ second e2 r2.
    with_some (number_at 2 second.1) _ x r2 (λ size e3 r3.
    with_guard (ltb size.0 4) _ x r3 (λ long r4.
    with_some (octets_at (size.0 - 4) size.1) _ x r4 (λ inside e5 r5.
    let t1 = octet_takes xs first e1 in
    let t2 = octet_takes first.1 second e2 in
    let fits1 : AreOctets first.1 = (subst AreOctets t1 fits).1 in
    let fits2 : AreOctets second.1 = (subst AreOctets t2 fits1).1 in
    let t3 = number_takes 2 (2 ^ 16) wide2 second.1 size fits2 e3 in
    let t5 = octets_takes (size.0 - 4) size.1 inside e5 in
    let four : 4 ≤ size.0 = ltb-false size.0 4 long in
    let size_is : size.0 ≡ 4 + length inside.0 = omega (arith, t5.1) in
    let is : (piece_of first.0 second.0 inside.0, inside.1) ≡ x = some_is (piece_of first.0 second.0 inside.0, inside.1) x r5 in
    let front : List ℕ = first.0 ∷ second.0 ∷ big_bytes 2 (4 + length inside.0) ++ inside.0 in
    let joined : xs ≡ front ++ inside.1 =
    t1 ∙ ap (λ (r : List ℕ). first.0 ∷ r) (t2 ∙ ap (λ (r : List ℕ). second.0 ∷ r) (t3.0 ∙ ap (λ (n : ℕ). big_bytes 2 n ++ size.1) size_is ∙ ap (λ (r : List ℕ). big_bytes 2 (4 + length inside.0) ++ r) t5.0 ∙ sym (append_assoc (big_bytes 2 (4 + length inside.0)) inside.0 inside.1))) in
    subst (TakesPart xs) is (record { front = front; joined = joined; part = record { spelled = refl; fits = rw (← size_is) t3.1 } }))))))

pub part_again : (first second : ℕ) (inside x rest : List ℕ) → IsPart first second inside x → part_at (x ++ rest) ≡ Some (piece_of first second inside, rest)
unfolding part_at
part_again first second inside x rest p =
    let n : ℕ = 4 + length inside in
    let behind : List ℕ = big_bytes 2 n ++ (inside ++ rest) in
    let whole : x ++ rest ≡ first ∷ second ∷ behind = ap (λ (y : List ℕ). y ++ rest) p.spelled ∙ ap (λ (y : List ℕ). first ∷ second ∷ y) (append_assoc (big_bytes 2 n) inside rest) in
    let four : ltb n 4 ≡ false = le-ltb _ _ (omega arith) in
    let read_inside : octets_at (n - 4) (inside ++ rest) ≡ Some (inside, rest) = octets_again inside rest (n - 4) (omega arith) in
    ap part_at whole
    ∙ ap (λ o. o >>= λ a. octet_at a.1 >>= λ b. number_at 2 b.1 >>= λ s. cond (ltb s.0 4) None (octets_at (s.0 - 4) s.1 >>= λ i. Some (piece_of a.0 b.0 i.0, i.1))) (octet_again first (second ∷ behind))
    ∙ ap (λ o. o >>= λ b. number_at 2 b.1 >>= λ s. cond (ltb s.0 4) None (octets_at (s.0 - 4) s.1 >>= λ i. Some (piece_of first b.0 i.0, i.1))) (octet_again second behind)
    ∙ ap (λ o. o >>= λ s. cond (ltb s.0 4) None (octets_at (s.0 - 4) s.1 >>= λ i. Some (piece_of first second i.0, i.1))) (number_again 2 (2 ^ 16) wide2 n (inside ++ rest) p.fits)
    ∙ ap (λ b. cond b None (octets_at (n - 4) (inside ++ rest) >>= λ i. Some (piece_of first second i.0, i.1))) four
    ∙ ap (λ o. o >>= λ i. Some (piece_of first second i.0, i.1)) read_inside
