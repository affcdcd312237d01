-- Places in lists, and numbers as octets.
use Rattle.std.proofs.Common.{◌≡◌, ◌<◌, ℕ, zero, suc, ◌/◌, ◌^◌, Bool, true, false, cond, List, [], ◌∷◌, length, slice_get, Some, refl, sym, ap, ◌∙◌, arith}
use Rattle.std.specs.List.{filter, count_by}
use Rattle.std.proofs.Math.Nat.{mod-lt}
use Rattle.std.proofs.lemmas.List.{append-nil}
use Rattle.std.proofs.lemmas.List.Sums.{length-filter}
use Rattle.byteorder.specs.Endian.{big_bytes, big_number}
use Rattle.byteorder.specs.Numbers.{big_number-reads_back}
use Rattle.base.specs.Octets.{AreOctets}

-- the item of a list of one
pub one_item : {X : Type 0} (x : X) (place : ℕ) (y : X) → slice_get (x ∷ []) place ≡ Some y → x ≡ y
one_item x zero y is = cc
one_item x (suc place) y is = cc

-- four octets spell the number that they are made of
pub spi_back : (spi : ℕ) → spi < 2 ^ 32 → big_number 4 (big_bytes 4 spi) ≡ spi
spi_back spi small = ap (big_number 4) (sym (append-nil (big_bytes 4 spi))) ∙ big_number-reads_back 4 spi [] (omega (arith, small))

pub octets_of : (count n : ℕ) → AreOctets (big_bytes count n)
octets_of zero n = tt
octets_of (suc zero) n = (omega arith, tt)
octets_of (suc (suc count)) n = (mod-lt (n / 256 ^ suc count) (omega arith), octets_of (suc count) n)

one_of : {X : Type 0} (ys : List X) (k : ℕ) (x : X) → length ys ≡ 1 → slice_get ys k ≡ Some x → ys ≡ x ∷ []
one_of [] k x long is = absurd (omega arith)
one_of {X} (y ∷ []) k x long is = ap (λ (z : X). z ∷ []) (one_item y k x is)
one_of (y ∷ z ∷ zs) k x long is = absurd (omega arith)

first_kept : {X : Type 0} (b : Bool) (u : X) (us : List X) → b ≡ true → slice_get (cond b (u ∷ us) us) 0 ≡ Some u
first_kept true u us is = refl
first_kept false u us is = cc

other_kept : {X : Type 0} (b : Bool) (u : X) (us : List X) (k : ℕ) (x : X) → slice_get us k ≡ Some x → (j : ℕ) × (slice_get (cond b (u ∷ us) us) j ≡ Some x)
other_kept true u us k x is = (suc k, is)
other_kept false u us k x is = (k, is)

-- what passes a test is kept
kept : {X : Type 0} (p : X → Bool) (xs : List X) (place : ℕ) (x : X) → slice_get xs place ≡ Some x → p x ≡ true → (k : ℕ) × (slice_get (filter p xs) k ≡ Some x)
kept p [] zero x is passes = cc
kept p [] (suc place) x is passes = cc
kept {X} p (u ∷ us) zero x is passes =
    let same : u ≡ x = cc in
    (0, first_kept (p u) u (filter p us) (ap p same ∙ passes) ∙ ap (λ (z : X). Some z) same)
kept p (u ∷ us) (suc place) x is passes =
    let rest = kept p us place x is passes in
    other_kept (p u) u (filter p us) rest.0 x rest.1

-- what passes a test that is passed once is all that is kept
pub lone_kept : {X : Type 0} (p : X → Bool) (xs : List X) (place : ℕ) (x : X) → count_by p xs ≡ 1 → slice_get xs place ≡ Some x → p x ≡ true → filter p xs ≡ x ∷ []
lone_kept p xs place x once is passes =
    let k = kept p xs place x is passes in
    one_of (filter p xs) k.0 x (length-filter p xs ∙ once) k.1
