-- The SA pairs of a table, with other serials for their IKE SAs: the map goes by the pairs' own serials.
use Rattle.std.proofs.Common.{◌≡◌, ℕ, Bool, true, false, cond, ◌&&◌, T, List, [], ◌∷◌, map, length, Option, Some, None, refl, sym, ap, subst, ◌∙◌}
use Rattle.std.proofs.lemmas.List.{length-map}
use Rattle.std.proofs.lemmas.Option.{none-some}
use Rattle.std.specs.Option.{option_map}
use Rattle.std.specs.Ordering.{eq_by_cmp, is_lt, nat_cmp}
use Rattle.std.specs.Cmp.{nat_cmp_total}
use Rattle.std.specs.FinMap as fin
use Rattle.std.specs.FinMap.Entries.{below_all, find, is_sorted}
use Rattle.sadb.specs.Database.{pair_at, PairMap}
use Rattle.sadb.specs.declared.pair.Pair.{Pair}
use Rattle.gateway.specs.Renaming.{renamed_entry, renamed_pair, renamed_pairs}
use Rattle.gateway.proofs.RenamedLaws.{PairLaws}

-- ---- the entries

below_renamed : (r : ℕ → ℕ) (x : ℕ) (es : List (ℕ × Pair)) → below_all nat_cmp x (map (renamed_entry r) es) ≡ below_all nat_cmp x es
below_renamed r x [] = refl
below_renamed r x (e ∷ es) = ap (λ b. is_lt (nat_cmp x e.0) && b) (below_renamed r x es)

sorted_renamed : (r : ℕ → ℕ) (es : List (ℕ × Pair)) → is_sorted nat_cmp (map (renamed_entry r) es) ≡ is_sorted nat_cmp es
sorted_renamed r [] = refl
sorted_renamed r (e ∷ es) = λ i. below_renamed r e.0 es i && sorted_renamed r es i

find_renamed : (r : ℕ → ℕ) (q : ℕ) (es : List (ℕ × Pair)) → find nat_cmp q (map (renamed_entry r) es) ≡ option_map (renamed_pair r) (find nat_cmp q es)
find_renamed r q [] = refl
find_renamed r q (e ∷ es) =
    elim (eq_by_cmp nat_cmp q e.0) as (λ b. cond b (Some (renamed_pair r e.1)) (find nat_cmp q (map (renamed_entry r) es)) ≡ option_map (renamed_pair r) (cond b (Some e.1) (find nat_cmp q es))) [
      | true ↦ refl
      | false ↦ find_renamed r q es
    ]

sorted_still : (r : ℕ → ℕ) (pairs : PairMap) → T (is_sorted nat_cmp (map (renamed_entry r) (fin.entries pairs)))
sorted_still r pairs = subst T (sym (sorted_renamed r (fin.entries pairs))) (fin.entries_sorted pairs)

pub entries_renamed : (r : ℕ → ℕ) (pairs : PairMap) → fin.entries (renamed_pairs r pairs) ≡ map (renamed_entry r) (fin.entries pairs)
entries_renamed r pairs = fin.entries-from_sorted nat_cmp (map (renamed_entry r) (fin.entries pairs)) (sorted_still r pairs)

-- ---- the map

pub at_renamed : (r : ℕ → ℕ) (pairs : PairMap) (serial : ℕ) → pair_at (renamed_pairs r pairs) serial ≡ option_map (renamed_pair r) (pair_at pairs serial)
at_renamed r pairs serial =
    fin.get-from_sorted nat_cmp (map (renamed_entry r) (fin.entries pairs)) serial (sorted_still r pairs)
    ∙ find_renamed r serial (fin.entries pairs)
    ∙ ap (option_map (renamed_pair r)) (sym (fin.get-entries pairs serial))

-- a choice that is mapped afterwards
chosen_renamed : (r : ℕ → ℕ) (b : Bool) (one other : Option Pair) → cond b (option_map (renamed_pair r) one) (option_map (renamed_pair r) other) ≡ option_map (renamed_pair r) (cond b one other)
chosen_renamed r true one other = refl
chosen_renamed r false one other = refl

same_pairs : (one other : PairMap) → ((q : ℕ) → pair_at one q ≡ pair_at other q) → one ≡ other
same_pairs one other is = fin.same_map nat_cmp_total fin.nat_cmp-IsAntisymmetric one other is

pub insert_renamed : (r : ℕ → ℕ) (pairs : PairMap) (serial : ℕ) (pair : Pair) → renamed_pairs r (fin.insert pairs serial pair) ≡ fin.insert (renamed_pairs r pairs) serial (renamed_pair r pair)
insert_renamed r pairs serial pair =
    same_pairs _ _ (λ q.
    at_renamed r (fin.insert pairs serial pair) q
    ∙ ap (option_map (renamed_pair r)) (fin.get-insert nat_cmp_total pairs serial pair q)
    ∙ sym (chosen_renamed r (eq_by_cmp nat_cmp q serial) (Some pair) (pair_at pairs q))
    ∙ ap (cond (eq_by_cmp nat_cmp q serial) (Some (renamed_pair r pair))) (sym (at_renamed r pairs q))
    ∙ sym (fin.get-insert nat_cmp_total (renamed_pairs r pairs) serial (renamed_pair r pair) q))

pub remove_renamed : (r : ℕ → ℕ) (pairs : PairMap) (serial : ℕ) → renamed_pairs r (fin.remove pairs serial) ≡ fin.remove (renamed_pairs r pairs) serial
remove_renamed r pairs serial =
    same_pairs _ _ (λ q.
    at_renamed r (fin.remove pairs serial) q
    ∙ ap (option_map (renamed_pair r)) (fin.get-remove nat_cmp_total pairs serial q)
    ∙ sym (chosen_renamed r (eq_by_cmp nat_cmp q serial) None (pair_at pairs q))
    ∙ ap (cond (eq_by_cmp nat_cmp q serial) None) (sym (at_renamed r pairs q))
    ∙ sym (fin.get-remove nat_cmp_total (renamed_pairs r pairs) serial q))

pub count_renamed : (r : ℕ → ℕ) (pairs : PairMap) → fin.len (renamed_pairs r pairs) ≡ fin.len pairs
count_renamed r pairs =
    fin.len-entries (renamed_pairs r pairs)
    ∙ ap length (entries_renamed r pairs)
    ∙ length-map (fin.entries pairs) (renamed_entry r)
    ∙ sym (fin.len-entries pairs)

pub pair_laws : (r : ℕ → ℕ) → PairLaws r
pair_laws r = record { at = at_renamed r; insert = insert_renamed r; remove = remove_renamed r; count = count_renamed r }

-- ---- a pair that is there

-- a pair that stands there renamed, and the one that it was
pub record WasPair (r : ℕ → ℕ) (pairs : PairMap) (serial : ℕ) (now : Pair) : Type 0 where
  pub pair : Pair
  pub there : pair_at pairs serial ≡ Some pair
  pub renamed : now ≡ renamed_pair r pair

same_item : (one other : Pair) → Some one ≡ Some other → one ≡ other
same_item one other is = cc

was_of : (r : ℕ → ℕ) (pairs : PairMap) (serial : ℕ) (now : Pair) (found : Option Pair) → pair_at pairs serial ≡ found → option_map (renamed_pair r) found ≡ Some now → WasPair r pairs serial now
was_of r pairs serial now None there is = absurd (none-some now is)
was_of r pairs serial now (Some pair) there is = record { pair = pair; there = there; renamed = sym (same_item (renamed_pair r pair) now is) }

pub was_there : (r : ℕ → ℕ) (pairs : PairMap) (serial : ℕ) (now : Pair) → pair_at (renamed_pairs r pairs) serial ≡ Some now → WasPair r pairs serial now
was_there r pairs serial now there = was_of r pairs serial now (pair_at pairs serial) refl (sym (at_renamed r pairs serial) ∙ there)

pub is_there : (r : ℕ → ℕ) (pairs : PairMap) (serial : ℕ) (pair : Pair) → pair_at pairs serial ≡ Some pair → pair_at (renamed_pairs r pairs) serial ≡ Some (renamed_pair r pair)
is_there r pairs serial pair there = at_renamed r pairs serial ∙ ap (option_map (renamed_pair r)) there

none_there_of : (r : ℕ → ℕ) (found : Option Pair) → option_map (renamed_pair r) found ≡ None → found ≡ None
none_there_of r None is = refl
none_there_of r (Some pair) is = absurd (none-some (renamed_pair r pair) (sym is))

-- and where none stands, none stood
pub none_there : (r : ℕ → ℕ) (pairs : PairMap) (serial : ℕ) → pair_at pairs serial ≡ None → pair_at (renamed_pairs r pairs) serial ≡ None
none_there r pairs serial none = at_renamed r pairs serial ∙ ap (option_map (renamed_pair r)) none

pub none_was_there : (r : ℕ → ℕ) (pairs : PairMap) (serial : ℕ) → pair_at (renamed_pairs r pairs) serial ≡ None → pair_at pairs serial ≡ None
none_was_there r pairs serial none = none_there_of r (pair_at pairs serial) (sym (at_renamed r pairs serial) ∙ none)
