-- Which lists are octets: parts of such a list, such lists in a row, and what the types of the code say.
use Rattle.std.proofs.Common.{ℕ, zero, suc, ◌<◌, List, [], ◌∷◌, ◌++◌, Fits, w8, length, get_or, drop, arith}
use Rattle.base.specs.Octets.{AreOctets}

pub octets_append : (a b : List ℕ) → AreOctets a → AreOctets b → AreOctets (a ++ b)
octets_append [] b fits more = more
octets_append (x ∷ a) b fits more = (fits.0, octets_append a b fits.1 more)

pub octets_front : (a b : List ℕ) → AreOctets (a ++ b) → AreOctets a
octets_front [] b fits = tt
octets_front (x ∷ a) b fits = (fits.0, octets_front a b fits.1)

pub octets_back : (a b : List ℕ) → AreOctets (a ++ b) → AreOctets b
octets_back [] b fits = fits
octets_back (x ∷ a) b fits = octets_back a b fits.1

pub octets_drop : (n : ℕ) (xs : List ℕ) → AreOctets xs → AreOctets (drop n xs)
octets_drop zero xs fits = fits
octets_drop (suc n) [] fits = tt
octets_drop (suc n) (x ∷ xs) fits = octets_drop n xs fits.1

-- the items of an array of octets are octets
pub octets_from : (xs : List ℕ) → ((i : ℕ) → get_or xs i 0 < 256) → AreOctets xs
octets_from [] below = tt
octets_from (x ∷ xs) below = (below 0, octets_from xs (λ i. below (suc i)))

-- those of a vector are
pub octets_within : (xs : List ℕ) → ((i : ℕ) → i < length xs → get_or xs i 0 < 256) → AreOctets xs
octets_within [] below = tt
octets_within (x ∷ xs) below = (below 0 (omega arith), octets_within xs (λ i lt. below (suc i) (omega arith)))

-- and those of a slice
pub octets_from_fits : (xs : List ℕ) → ((i : ℕ) → Fits w8 (get_or xs i 0)) → AreOctets xs
octets_from_fits xs fits = octets_from xs (λ i. let below : Fits w8 (get_or xs i 0) = fits i in omega arith)

pub octet_in : (xs : List ℕ) (i : ℕ) → AreOctets xs → get_or xs i 0 < 256
octet_in [] i fits = omega arith
octet_in (x ∷ xs) zero fits = fits.0
octet_in (x ∷ xs) (suc i) fits = octet_in xs i fits.1
