-- What is put into a finite map, and the map of one entry.
use Rattle.std.proofs.Common.{◌≡◌, ◌≢◌, inl, inr, ℕ, Bool, cond, Some, None, ap, sym, ◌∙◌}
use Rattle.std.proofs.lemmas.Bool.{eq-eqb, ne_eqb}
use Rattle.std.proofs.lemmas.Bool.Decides.{eqb_tells}
use Rattle.std.specs.Cmp.{nat_cmp_total, unsigned_tied}
use Rattle.std.specs.FinMap as map
use Rattle.std.specs.Ordering.{nat_cmp}
use Rattle.gateway.proofs.PartyLemmas.{some_is}

pub put_there : {X : Type 0} (m : map.FinMap nat_cmp X) (k n : ℕ) (v : X) → n ≡ k → map.get (map.insert m k v) n ≡ Some v
put_there {X} m k n v same = map.get-insert nat_cmp_total m k v n ∙ ap (λ (b : Bool). cond b (Some v) (map.get m n)) (unsigned_tied n k ∙ eq-eqb n k same)

pub put_beside : {X : Type 0} (m : map.FinMap nat_cmp X) (k n : ℕ) (v : X) → n ≢ k → map.get (map.insert m k v) n ≡ map.get m n
put_beside {X} m k n v apart =
    map.get-insert nat_cmp_total m k v n ∙ ap (λ (b : Bool). cond b (Some v) (map.get m n)) (unsigned_tied n k ∙ ne_eqb n k apart)

-- ---- maps of one entry

none_in : {X : Type 0} (m : map.FinMap nat_cmp X) → m ≡ map.empty → (n : ℕ) → map.get m n ≡ None
none_in {X} m none n = ap (λ (x : map.FinMap nat_cmp X). map.get x n) none ∙ map.get-empty nat_cmp n

pub none_found : {X : Type 0} (m : map.FinMap nat_cmp X) → m ≡ map.empty → (n : ℕ) (v : X) → map.get m n ≡ Some v → ⊥
none_found {X} m none n v is = let nothing : None ≡ Some v = sym (none_in m none n) ∙ is in cc

-- it is this entry
pub record IsOnly {X : Type 0} (k : ℕ) (v : X) (n : ℕ) (found : X) : Type 0 where
  pub number : n ≡ k
  pub content : found ≡ v

pub only_there : {X : Type 0} (m : map.FinMap nat_cmp X) → m ≡ map.empty → (k : ℕ) (v : X) (n : ℕ) (found : X) → map.get (map.insert m k v) n ≡ Some found
    → IsOnly k v n found
only_there {X} m none k v n found is = elim (eqb_tells n k) [
  | inl (_, same) ↦ record { number = same; content = sym (some_is v found (sym (put_there m k n v same) ∙ is)) }
  | inr (_, apart) ↦ absurd (none_found m none n found (sym (put_beside m k n v apart) ∙ is))
]

-- taken out, it leaves nothing
pub taken_out : {X : Type 0} (m : map.FinMap nat_cmp X) → m ≡ map.empty → (k : ℕ) (v : X) → map.remove (map.insert m k v) k ≡ map.empty
taken_out {X} m none k v = map.same_map nat_cmp_total map.nat_cmp-IsAntisymmetric (map.remove (map.insert m k v) k) map.empty (λ n.
    map.get-remove nat_cmp_total (map.insert m k v) k n ∙ elim (eqb_tells n k) [
      | inl (_, same) ↦ ap (λ (b : Bool). cond b None (map.get (map.insert m k v) n)) (unsigned_tied n k ∙ eq-eqb n k same) ∙ sym (map.get-empty nat_cmp n)
      | inr (_, apart) ↦
          ap (λ (b : Bool). cond b None (map.get (map.insert m k v) n)) (unsigned_tied n k ∙ ne_eqb n k apart)
          ∙ put_beside m k n v apart ∙ none_in m none n ∙ sym (map.get-empty nat_cmp n)
    ])

-- another takes its place
pub put_again : {X : Type 0} (m : map.FinMap nat_cmp X) (k : ℕ) (v w : X) → map.insert (map.insert m k v) k w ≡ map.insert m k w
put_again {X} m k v w = map.same_map nat_cmp_total map.nat_cmp-IsAntisymmetric (map.insert (map.insert m k v) k w) (map.insert m k w) (λ n.
    elim (eqb_tells n k) [
      | inl (_, same) ↦ put_there (map.insert m k v) k n w same ∙ sym (put_there m k n w same)
      | inr (_, apart) ↦ put_beside (map.insert m k v) k n w apart ∙ put_beside m k n v apart ∙ sym (put_beside m k n w apart)
    ])
