-- What holds of each item of a map by number.
use Rattle.std.proofs.Common.{◌≡◌, inl, inr, ℕ, Some, None, ap, cond, subst, sym, ◌∙◌}
use Rattle.std.proofs.lemmas.Bool.Decides.{eqb_tells}
use Rattle.std.specs.Cmp.{nat_cmp_total, unsigned_tied}
use Rattle.std.specs.FinMap as map
use Rattle.std.specs.Ordering.{nat_cmp}

module _ {T : Type 0} where
  abbrev pub EachHas : (T → Type 0) → map.FinMap nat_cmp T → Type 0
  EachHas P m = (number : ℕ) (x : T) → map.get m number ≡ Some x → P x

  pub some_none : (x : T) → None ≡ Some x → ⊥
  some_none x is = cc

  pub same_item : (x y : T) → Some x ≡ Some y → x ≡ y
  same_item x y is = cc

  pub empty_has : (P : T → Type 0) → EachHas P map.empty
  empty_has P = λ number x is. absurd (some_none x (sym (map.get-empty {X = T} nat_cmp number) ∙ is))

  pub same_has : (P : T → Type 0) (m n : map.FinMap nat_cmp T) → n ≡ m → EachHas P m → EachHas P n
  same_has P m n same has = subst (λ (x : map.FinMap nat_cmp T). EachHas P x) (sym same) has

  pub insert_has : (P : T → Type 0) (m : map.FinMap nat_cmp T) (k : ℕ) (v : T) → P v → EachHas P m → EachHas P (map.insert m k v)
  insert_has P m k v new has = λ number x is.
      elim (eqb_tells number k) [
        | inl (one, same) ↦ subst P (same_item v x (sym (map.get-insert nat_cmp_total m k v number ∙ ap (λ b. cond b (Some v) (map.get m number)) (unsigned_tied number k ∙ one)) ∙ is)) new
        | inr (none, other) ↦ has number x (sym (map.get-insert nat_cmp_total m k v number ∙ ap (λ b. cond b (Some v) (map.get m number)) (unsigned_tied number k ∙ none)) ∙ is)
      ]

  pub remove_has : (P : T → Type 0) (m : map.FinMap nat_cmp T) (k : ℕ) → EachHas P m → EachHas P (map.remove m k)
  remove_has P m k has = λ number x is.
      elim (eqb_tells number k) [
        | inl (one, same) ↦ absurd (some_none x (sym (map.get-remove nat_cmp_total m k number ∙ ap (λ b. cond b None (map.get m number)) (unsigned_tied number k ∙ one)) ∙ is))
        | inr (none, other) ↦ has number x (sym (map.get-remove nat_cmp_total m k number ∙ ap (λ b. cond b None (map.get m number)) (unsigned_tied number k ∙ none)) ∙ is)
      ]
