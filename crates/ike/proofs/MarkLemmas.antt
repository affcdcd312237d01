-- What a command leaves of the table: a Child SA to be deleted is in state Deleting, and nothing else is
-- changed.
use Rattle.std.proofs.Common.{◌≡◌, ◌⊎◌, inl, inr, ℕ, cond, Some, ap, subst, sym, ◌∙◌}
use Rattle.std.specs.Cmp.{nat_cmp_total, unsigned_tied}
use Rattle.std.specs.FinMap as map
use Rattle.std.proofs.lemmas.Bool.Decides.{eqb_tells}
use Rattle.sadb.specs.Contents.{table_content}
use Rattle.sadb.specs.Database.{pair_at, Database, IsReserved, PairMap}
use Rattle.sadb.specs.declared.pair.Pair.{Pair}
use Rattle.sadb.specs.declared.pair.State.TheVariants.{Deleting}
use Rattle.informational.specs.Ordering.{MarksFor}
use Rattle.informational.specs.declared.ordering.Order.{Order}
use Rattle.informational.specs.declared.ordering.Order.TheVariants as order
use Rattle.ike.specs.Pairs.{BecameDeleting}

same_pair : (one other : Pair) → Some one ≡ Some other → one ≡ other
same_pair one other same = cc

unchanged_but : (table new : Database) → new ≡ table → new ≡ record table { pairs = new.pairs }
unchanged_but table new same = same ∙ ap (λ (d : Database). record table { pairs = d.pairs }) (sym same)

-- the pairs alone change
pub marked_but : (o : Order) (table new : Database) → MarksFor o table new → new ≡ record table { pairs = new.pairs }
marked_but order.Probe table new is = unchanged_but table new is
marked_but (order.DeleteChild child spi) table new is = is.changed.content ∙ ap (λ (m : PairMap). record table { pairs = m }) (sym (ap (λ (d : Database). d.pairs) is.changed.content))
marked_but order.DeleteAssociation table new is = unchanged_but table new is

pub marked_reserved : (o : Order) (table new : Database) (spi : ℕ) → MarksFor o table new → IsReserved table spi → IsReserved new spi
marked_reserved o table new spi is reserved = subst (λ (d : Database). IsReserved d spi) (sym (marked_but o table new is)) reserved

one_marked : (table : Database) (child serial : ℕ) (was pair : Pair) (new : Database) → pair_at table.pairs child ≡ Some was → new ≡ record table { pairs = map.insert table.pairs child (record was { state = Deleting }) }
    → pair_at new.pairs serial ≡ Some pair → (pair_at table.pairs serial ≡ Some pair) ⊎ BecameDeleting table serial pair
one_marked table child serial was pair new there content is =
    let v : Pair = record was { state = Deleting } in
    let now : map.get (map.insert table.pairs child v) serial ≡ Some pair = subst (λ (m : PairMap). pair_at m serial ≡ Some pair) (ap (λ (d : Database). d.pairs) content) is in
    elim (eqb_tells serial child) [
      | inl (one, same) ↦
          (let found : Some v ≡ Some pair = sym (map.get-insert nat_cmp_total table.pairs child v serial ∙ ap (λ b. cond b (Some v) (map.get table.pairs serial)) (unsigned_tied serial child ∙ one)) ∙ now in
          inr (record { was = was; stood = subst (λ n. pair_at table.pairs n ≡ Some was) (sym same) there; is = sym (same_pair v pair found) }))
      | inr (none, other) ↦ inl (sym (map.get-insert nat_cmp_total table.pairs child v serial ∙ ap (λ b. cond b (Some v) (map.get table.pairs serial)) (unsigned_tied serial child ∙ none)) ∙ now)
    ]

-- each SA pair was there, or is being deleted now
pub marked_pairs : (o : Order) (table new : Database) (serial : ℕ) (pair : Pair) → MarksFor o table new → pair_at new.pairs serial ≡ Some pair → (pair_at table.pairs serial ≡ Some pair) ⊎ BecameDeleting table serial pair
marked_pairs order.Probe table new serial pair is there = inl (subst (λ (d : Database). pair_at d.pairs serial ≡ Some pair) is there)
marked_pairs (order.DeleteChild child spi) table new serial pair is there = one_marked table child serial is.pair pair new is.changed.there is.changed.content there
marked_pairs order.DeleteAssociation table new serial pair is there = inl (subst (λ (d : Database). pair_at d.pairs serial ≡ Some pair) is there)

-- by what the table holds, whatever room there is
pub marked_alike : (o : Order) (table another a b : Database) → table_content table ≡ table_content another → MarksFor o table a → MarksFor o another b → table_content a ≡ table_content b
marked_alike order.Probe table another a b alike is also = ap table_content is ∙ alike ∙ sym (ap table_content also)
marked_alike (order.DeleteChild child spi) table another a b alike is also =
    let pairs : is.pair ≡ also.pair = same_pair is.pair also.pair (sym is.changed.there ∙ ap (λ (d : Database). pair_at d.pairs child) alike ∙ also.changed.there) in
    ap table_content is.changed.content
    ∙ ap (λ (d : Database). record d { pairs = map.insert d.pairs child (record is.pair { state = Deleting }) }) alike
    ∙ ap (λ (p : Pair). record (table_content another) { pairs = map.insert another.pairs child (record p { state = Deleting }) }) pairs
    ∙ sym (ap table_content also.changed.content)
marked_alike order.DeleteAssociation table another a b alike is also = ap table_content is ∙ alike ∙ sym (ap table_content also)
