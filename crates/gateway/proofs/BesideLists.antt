-- Lists of IKE SAs and maps of SA pairs, where two renamings or two tests agree on what stands there.
use Rattle.std.proofs.Common.{◌≡◌, ℕ, zero, suc, Bool, true, false, not, cond, List, [], ◌∷◌, ◌++◌, Option, Some, None, map, slice_get, refl, sym, ap, subst, ◌∙◌}
use Rattle.std.specs.Cmp.{nat_cmp_total}
use Rattle.std.specs.FinMap as numbers
use Rattle.std.specs.List.{filter}
use Rattle.std.specs.Option.{option_map}
use Rattle.sadb.specs.Database.{pair_at, PairMap}
use Rattle.sadb.specs.declared.pair.Pair.{Pair}
use Rattle.association.specs.declared.phase.Association.{Association}
use Rattle.gateway.proofs.RenamedLaws.{PairLaws}
use Rattle.gateway.specs.Others.{stays}
use Rattle.gateway.specs.Renaming.{renamed_association, renamed_pair, renamed_pairs}

-- so it is of each IKE SA that stands in the list
abbrev pub EachThere : (Association → Type 0) → List Association → Type 0
EachThere P xs = (place : ℕ) (a : Association) → slice_get xs place ≡ Some a → P a

pub same_renamed : (r q : ℕ → ℕ) (xs : List Association) → EachThere (λ a. q a.serial ≡ r a.serial) xs → map (renamed_association q) xs ≡ map (renamed_association r) xs
same_renamed r q [] each = refl
same_renamed r q (x ∷ xs) each =
    ap (λ serial. record x { serial = serial } ∷ map (renamed_association q) xs) (each zero x refl)
    ∙ ap (λ ys. renamed_association r x ∷ ys) (same_renamed r q xs (λ place a there. each (suc place) a there))

pub same_kept : (p q : ℕ → Bool) (xs : List Association) → EachThere (λ a. q a.serial ≡ p a.serial) xs → filter (stays q) xs ≡ filter (stays p) xs
same_kept p q [] each = refl
same_kept p q (x ∷ xs) each =
    ap (λ b. cond (not b) (x ∷ filter (stays q) xs) (filter (stays q) xs)) (each zero x refl)
    ∙ ap (λ ys. cond (stays p x) (x ∷ ys) ys) (same_kept p q xs (λ place a there. each (suc place) a there))

pub without_last : (p : Association → Bool) (xs : List Association) (a : Association) → p a ≡ false → filter p (xs ++ a ∷ []) ≡ filter p xs
without_last p [] a out = ap (λ b. cond b (a ∷ []) []) out
without_last p (x ∷ xs) a out = ap (λ ys. cond (p x) (x ∷ ys) ys) (without_last p xs a out)

none_there : (place : ℕ) (a : Association) → slice_get [] place ≡ Some a → ⊥
none_there zero a there = cc
none_there (suc place) a there = cc

each_cons : (P : Association → Type 0) (x : Association) (xs : List Association) → P x → EachThere P xs → EachThere P (x ∷ xs)
each_cons P x xs first rest zero a there = let same : x ≡ a = cc in subst P same first
each_cons P x xs first rest (suc place) a there = rest place a there

-- what is kept stood there
was_by : (b : Bool) (p : Association → Bool) (x : Association) (xs : List Association) (P : Association → Type 0) → P x → EachThere P (filter p xs) → EachThere P (cond b (x ∷ filter p xs) (filter p xs))
was_by true p x xs P first rest = each_cons P x (filter p xs) first rest
was_by false p x xs P first rest = rest

pub of_kept : (p : Association → Bool) (xs : List Association) (P : Association → Type 0) → EachThere P xs → EachThere P (filter p xs)
of_kept p [] P all = all
of_kept p (x ∷ xs) P all = was_by (p x) p x xs P (all zero x refl) (of_kept p xs P (λ place a there. all (suc place) a there))

-- what stands in a longer list stood before, or is the last
pub last_or : (xs : List Association) (x : Association) (P : Association → Type 0) → EachThere P xs → P x → EachThere P (xs ++ x ∷ [])
last_or [] x P all last = each_cons P x [] last all
last_or (y ∷ ys) x P all last = each_cons P y (ys ++ x ∷ []) (all zero y refl) (last_or ys x P (λ place a there. all (suc place) a there) last)

-- of what a list is mapped to
pub of_mapped : (f : Association → Association) (xs : List Association) (P : Association → Type 0) → EachThere P (map f xs) → EachThere (λ a. P (f a)) xs
of_mapped f [] P all = λ place a there. absurd (none_there place a there)
of_mapped f (x ∷ xs) P all = each_cons (λ a. P (f a)) x xs (all zero (f x) refl) (of_mapped f xs P (λ place a there. all (suc place) a there))

pub to_mapped : (f : Association → Association) (xs : List Association) (P : Association → Type 0) → EachThere (λ a. P (f a)) xs → EachThere P (map f xs)
to_mapped f [] P all = λ place a there. absurd (none_there place a there)
to_mapped f (x ∷ xs) P all = each_cons P (f x) (map f xs) (all zero x refl) (to_mapped f xs P (λ place a there. all (suc place) a there))

-- ---- SA pairs

same_pair_by : (r q : ℕ → ℕ) (found : Option Pair) → ((p : Pair) → found ≡ Some p → q p.ike ≡ r p.ike) → option_map (renamed_pair q) found ≡ option_map (renamed_pair r) found
same_pair_by r q None each = refl
same_pair_by r q (Some p) each = ap (λ ike. Some (record p { ike = ike })) (each p refl)

pub same_pairs : (r q : ℕ → ℕ) → PairLaws r → PairLaws q → (pairs : PairMap) → ((serial : ℕ) (p : Pair) → pair_at pairs serial ≡ Some p → q p.ike ≡ r p.ike) → renamed_pairs q pairs ≡ renamed_pairs r pairs
same_pairs r q laws also pairs each =
    numbers.same_map nat_cmp_total numbers.nat_cmp-IsAntisymmetric (renamed_pairs q pairs) (renamed_pairs r pairs)
    (λ serial. also.at pairs serial ∙ same_pair_by r q (pair_at pairs serial) (each serial) ∙ sym (laws.at pairs serial))
