-- A table has as much spare capacity, and no more SA pairs, once some were taken out.
use Rattle.std.proofs.Common.{◌≡◌, ◌≤◌, ◌-◌, ◌∷◌, [], ℕ, List, Bool, true, false, Option, Some, None, cond, arith, sym, ap, ◌∙◌, refl, inl, inr, subst}
use Rattle.std.specs.Cmp.{nat_cmp_total}
use Rattle.std.specs.FinMap as map
use Rattle.std.specs.FinSet as set
use Rattle.std.proofs.lemmas.Bool.{both_ways, cases_Bool}
use Rattle.sadb.specs.Database.{pair_at, Database, IsReady, PairMap}
use Rattle.sadb.specs.declared.pair.Pair.{Pair}
use Rattle.deletions.specs.Naming.{without}
use Rattle.deletions.specs.Removing.{RemovesNamed}
use Rattle.deletions.proofs.LeftLemmas.{gets_kept, gets_none, stands, stands_if, stands_then}
use Rattle.deletions.proofs.RemovingLemmas.{same_option}

one_less : (b : Bool) (n : ℕ) → cond b (n - 1) n ≤ n
one_less true n = omega arith
one_less false n = omega arith

no_longer : (m : PairMap) (ns : List ℕ) → map.len (without m ns) ≤ map.len m
no_longer m [] = omega arith
no_longer m (n ∷ ns) =
    let rest = no_longer (map.remove m n) ns in
    let less = one_less (map.contains_key m n) (map.len m) in
    omega (arith, map.len-remove nat_cmp_total m n)

no_pair : (o : Option Pair) → ((pair : Pair) → o ≡ Some pair → ⊥) → o ≡ None
no_pair None not = refl
no_pair (Some pair) not = absurd (not pair refl)

left_over : (old new : Database) (serials : List ℕ) → RemovesNamed old serials new → (serial : ℕ) → pair_at new.pairs serial ≡ pair_at (without old.pairs serials) serial
left_over old new serials is serial = elim (cases_Bool (stands serial serials)) [
  | inl there ↦ no_pair (pair_at new.pairs serial) (λ pair here. ((is.kept serial pair).0 here).1 (stands_then serial serials there)) ∙ sym (gets_none old.pairs serials serial there)
  | inr missing ↦
      same_option (pair_at new.pairs serial) (pair_at old.pairs serial) (λ pair here. ((is.kept serial pair).0 here).0)
      (λ pair here. (is.kept serial pair).1 (here, λ named. both_ways _ missing (stands_if serial serials named)))
      ∙ sym (gets_kept old.pairs serials serial missing)
]

pub ready_still : (old new : Database) (serials : List ℕ) → IsReady old → RemovesNamed old serials new → IsReady new
ready_still old new serials ready is =
    let same : new.pairs ≡ without old.pairs serials = map.same_map nat_cmp_total map.nat_cmp-IsAntisymmetric new.pairs (without old.pairs serials) (left_over old new serials is) in
    let fewer : map.len new.pairs ≤ map.len old.pairs = subst (λ (m : PairMap). map.len m ≤ map.len old.pairs) (sym same) (no_longer old.pairs serials) in
    let reserved : set.len new.reserved ≡ set.len old.reserved = ap (λ (d : Database). set.len d.reserved) is.content in
    let given : new.given ≡ old.given = ap (λ (d : Database). d.given) is.content in
    let had = ready.room in
    let room = is.room in
    record {
      room = omega arith;
      not_full = λ full. ready.not_full (omega (arith, full, fewer, reserved));
      not_spent = λ spent. ready.not_spent (omega (arith, spent, given));
    }
