-- What stands under a serial after a change of a table.
use Rattle.std.proofs.Common.{◌≡◌, ◌≢◌, ◌⊎◌, ℕ, Bool, cond, Option, Some, None, refl, ap, ◌∙◌, inl, inr}
use Rattle.std.proofs.lemmas.Bool.{eq-eqb, ne_eqb}
use Rattle.std.specs.Cmp.{nat_cmp_total, unsigned_tied}
use Rattle.std.specs.FinMap as map
use Rattle.sadb.specs.Database.{ChangesAt, Database, PairMap, pair_at}
use Rattle.sadb.specs.declared.pair.Pair.{Pair}

abbrev choice : Option Pair → Option Pair → Bool → Option Pair
choice here there b = cond b here there

pub inserted_here : (m : PairMap) (k q : ℕ) (v : Pair) → q ≡ k → map.get (map.insert m k v) q ≡ Some v
inserted_here m k q v same = map.get-insert nat_cmp_total m k v q ∙ ap (choice (Some v) (map.get m q)) (unsigned_tied q k ∙ eq-eqb q k same)

pub inserted_apart : (m : PairMap) (k q : ℕ) (v : Pair) → q ≢ k → map.get (map.insert m k v) q ≡ map.get m q
inserted_apart m k q v apart = map.get-insert nat_cmp_total m k v q ∙ ap (choice (Some v) (map.get m q)) (unsigned_tied q k ∙ ne_eqb q k apart)

pub removed_here : (m : PairMap) (k q : ℕ) → q ≡ k → map.get (map.remove m k) q ≡ None
removed_here m k q same = map.get-remove nat_cmp_total m k q ∙ ap (choice None (map.get m q)) (unsigned_tied q k ∙ eq-eqb q k same)

pub removed_apart : (m : PairMap) (k q : ℕ) → q ≢ k → map.get (map.remove m k) q ≡ map.get m q
removed_apart m k q apart = map.get-remove nat_cmp_total m k q ∙ ap (choice None (map.get m q)) (unsigned_tied q k ∙ ne_eqb q k apart)

-- an option is nothing or something
pub record IsHeld (X : Type 0) (o : Option X) : Type 0 where
  pub value : X
  pub is : o ≡ Some value

pub held_or_not : (X : Type 0) (o : Option X) → (o ≡ None) ⊎ IsHeld X o
held_or_not X None = inl refl
held_or_not X (Some x) = inr (record { value = x; is = refl })

pub one_held : (a b : Pair) → Some a ≡ Some b → a ≡ b
one_held a b is = cc

-- where one SA pair of a table changed
module _ (old : Database) (serial : ℕ) (was is : Pair) (new : Database) (changed : ChangesAt old serial was is new) where
  pub changed_here : pair_at new.pairs serial ≡ Some is
  changed_here = ap (λ (d : Database). pair_at d.pairs serial) changed.content ∙ inserted_here old.pairs serial serial is refl

  pub changed_apart : (other : ℕ) → other ≢ serial → pair_at new.pairs other ≡ pair_at old.pairs other
  changed_apart other apart = ap (λ (d : Database). pair_at d.pairs other) changed.content ∙ inserted_apart old.pairs serial other is apart

  pub changed_next : new.next ≡ old.next
  changed_next = ap (λ (d : Database). d.next) changed.content
