-- A Child SA is what it was as long as its SA pair stands, and never comes back.
use Rattle.std.proofs.Common.{◌≡◌, ◌<◌, ◌≤◌, ℕ, zero, suc, false, Option, Some, None, List, [], ◌∷◌, refl, sym, ap, ◌∙◌, subst, arith, inl, inr}
use Rattle.std.specs.Prelude.{IsSome, slice_get}
use Rattle.esp.specs.declared.sa.Sa.{Sa}
use Rattle.sadb.specs.Database.{Database, pair_at}
use Rattle.sadb.specs.declared.pair.Pair.{Pair}
use Rattle.deliveries.specs.Passages.{IsPassage, IsTrail, Passage}
use Rattle.deliveries.specs.Promises.{IsSameEnd, StaysSame}
use Rattle.deliveries.proofs.StepLemmas.{next_grows, PacketFacts, same_end, stood_before, Stood}
use Rattle.deliveries.proofs.TableLemmas.{held_or_not, one_held}
use Rattle.deliveries.proofs.TrailLemmas.{passage_at}

same : (a : Pair) → IsSameEnd a a
same a = record { association = refl; size = refl; local = refl; remote = refl }

same_again : (a b c : Pair) → IsSameEnd a b → IsSameEnd b c → IsSameEnd a c
same_again a b c first second = record {
  association = second.association ∙ first.association;
  size = second.size ∙ first.size;
  local = second.local ∙ first.local;
  remote = second.remote ∙ first.remote;
}

-- an SA pair stood under the serial that was the same end
pub record StoodAs (table : Database) (child : ℕ) (is : Pair) : Type 0 where
  pub was : Pair
  pub there : pair_at table.pairs child ≡ Some was
  pub end : IsSameEnd was is

same_from : (table : Database) (child : ℕ) (was is : Pair) → pair_at table.pairs child ≡ Some was → StoodAs table child is → IsSameEnd was is
same_from table child was is there stood = subst (λ (a : Pair). IsSameEnd a is) (one_held stood.was was (sym stood.there ∙ there)) stood.end

over_step : (child : ℕ) (p : Passage) (mid is : Pair) → Stood child p mid → IsSameEnd mid is → StoodAs p.before child is
over_step child p mid is stood end = record { was = stood.was; there = stood.there; end = same_again stood.was mid is (same_end child p mid stood) end }

nowhere : (o : Option Pair) → o ≡ None → IsSome o → ⊥
nowhere None none is = absurd (cc)
nowhere (Some pair) none is = absurd (cc)

module _ (facts : PacketFacts) (child : ℕ) where
  -- one that stands later under a serial that was used stood all along
  pub stood_all_along : (q : Passage) (ps : List Passage) (new : Database) (place : ℕ) (p : Passage) (is : Pair) → IsPassage q → IsTrail q.after ps new
      → child < q.before.next → slice_get (q ∷ ps) place ≡ Some p → pair_at p.before.pairs child ≡ Some is → StoodAs q.before child is
  stood_all_along q ps new zero p is passage trail below there stands =
      let same_step : p ≡ q = cc in
      record { was = is; there = subst (λ (r : Passage). pair_at r.before.pairs child ≡ Some is) same_step stands; end = same is }
  stood_all_along q [] new (suc place) p is passage trail below there stands = absurd (cc)
  stood_all_along q (r ∷ ps) new (suc place) p is passage trail below there stands =
      let grows = next_grows facts child q passage in
      let next : r.before.next ≡ q.after.next = ap (λ (d : Database). d.next) trail.0 in
      let later = stood_all_along r ps new place p is trail.1 trail.2 (omega arith) there stands in
      let mid : pair_at q.after.pairs child ≡ Some later.was = sym (ap (λ (d : Database). pair_at d.pairs child) trail.0) ∙ later.there in
      over_step child q later.was is (stood_before facts child q passage later.was below mid) later.end

  -- the next serial never falls
  next_at : (q : Passage) (ps : List Passage) (new : Database) (place : ℕ) (p : Passage) → IsPassage q → IsTrail q.after ps new
      → slice_get (q ∷ ps) place ≡ Some p → q.before.next ≤ p.before.next
  next_at q ps new zero p passage trail there =
      let same_step : q ≡ p = cc in
      let same_next = ap (λ (r : Passage). r.before.next) same_step in
      omega arith
  next_at q [] new (suc place) p passage trail there = absurd (cc)
  next_at q (r ∷ ps) new (suc place) p passage trail there =
      let grows = next_grows facts child q passage in
      let next : r.before.next ≡ q.after.next = ap (λ (d : Database). d.next) trail.0 in
      let later = next_at r ps new place p trail.1 trail.2 there in
      omega arith

  -- and so it is after a step
  stood_after : (q : Passage) (ps : List Passage) (new : Database) (place : ℕ) (p : Passage) (is : Pair) → IsPassage q → IsTrail q.after ps new
      → child < q.before.next → slice_get (q ∷ ps) place ≡ Some p → IsPassage p → pair_at p.after.pairs child ≡ Some is → StoodAs q.before child is
  stood_after q ps new place p is passage trail below there here stands =
      let later = next_at q ps new place p passage trail there in
      let stood = stood_before facts child p here is (omega arith) stands in
      let first = stood_all_along q ps new place p stood.was passage trail below there stood.there in
      record { was = first.was; there = first.there; end = same_again first.was stood.was is first.end (same_end child p is stood) }

  kept : (old : Database) (ps : List Passage) (new : Database) (first place : ℕ) (p q : Passage) (was is : Pair) → IsTrail old ps new → first ≤ place
      → slice_get ps first ≡ Some p → slice_get ps place ≡ Some q → pair_at p.before.pairs child ≡ Some was → pair_at q.after.pairs child ≡ Some is
      → IsSameEnd was is
  kept old [] new first place p q was is trail order at_first at_place stood stands = absurd (cc)
  kept old (r ∷ ps) new zero place p q was is trail order at_first at_place stood stands =
      let same_step : p ≡ r = cc in
      let there : pair_at r.before.pairs child ≡ Some was = subst (λ (s : Passage). pair_at s.before.pairs child ≡ Some was) same_step stood in
      let below = (trail.1.sound.serial_given child was there).1 in
      let begun = stood_after r ps new place q is trail.1 trail.2 below at_place (passage_at old (r ∷ ps) new place q trail at_place) stands in
      same_from r.before child was is there begun
  kept old (r ∷ ps) new (suc first) zero p q was is trail order at_first at_place stood stands = absurd (omega arith)
  kept old (r ∷ ps) new (suc first) (suc place) p q was is trail order at_first at_place stood stands =
      kept r.after ps new first place p q was is trail.2 (omega arith) at_first at_place stood stands

  -- what is gone after the first of these steps is gone after each
  gone_later : (q : Passage) (ps : List Passage) (new : Database) (place : ℕ) (p : Passage) → IsPassage q → IsTrail q.after ps new
      → child < q.before.next → pair_at q.after.pairs child ≡ None → slice_get (q ∷ ps) place ≡ Some p → IsPassage p → pair_at p.after.pairs child ≡ None
  gone_later q ps new zero p passage trail below none there here =
      let same_step : q ≡ p = cc in
      subst (λ (r : Passage). pair_at r.after.pairs child ≡ None) same_step none
  gone_later q [] new (suc place) p passage trail below none there here = absurd (cc)
  gone_later q (r ∷ ps) new (suc place) p passage trail below none there here = elim (held_or_not Pair (pair_at p.after.pairs child)) [
    | inl gone ↦ gone
    | inr held ↦
        let grows = next_grows facts child q passage in
        let next : r.before.next ≡ q.after.next = ap (λ (d : Database). d.next) trail.0 in
        let begun = stood_after r ps new place p held.value trail.1 trail.2 (omega arith) there here held.is in
        let still : pair_at q.after.pairs child ≡ Some begun.was = sym (ap (λ (d : Database). pair_at d.pairs child) trail.0) ∙ begun.there in
        absurd (cc)
  ]

  gone_after : (old : Database) (ps : List Passage) (new : Database) (first place : ℕ) (p q : Passage) (was : Pair) → IsTrail old ps new → first ≤ place
      → slice_get ps first ≡ Some p → slice_get ps place ≡ Some q → pair_at p.before.pairs child ≡ Some was → pair_at p.after.pairs child ≡ None
      → pair_at q.after.pairs child ≡ None
  gone_after old [] new first place p q was trail order at_first at_place stood none = absurd (cc)
  gone_after old (r ∷ ps) new zero place p q was trail order at_first at_place stood none =
      let same_step : p ≡ r = cc in
      let there : pair_at r.before.pairs child ≡ Some was = subst (λ (s : Passage). pair_at s.before.pairs child ≡ Some was) same_step stood in
      let gone : pair_at r.after.pairs child ≡ None = subst (λ (s : Passage). pair_at s.after.pairs child ≡ None) same_step none in
      let below = (trail.1.sound.serial_given child was there).1 in
      gone_later r ps new place q trail.1 trail.2 below gone at_place (passage_at old (r ∷ ps) new place q trail at_place)
  gone_after old (r ∷ ps) new (suc first) zero p q was trail order at_first at_place stood none = absurd (omega arith)
  gone_after old (r ∷ ps) new (suc first) (suc place) p q was trail order at_first at_place stood none =
      gone_after r.after ps new first place p q was trail.2 (omega arith) at_first at_place stood none

  -- what is not there before the first of these steps is not there before each, and not after
  absent_all_along : (q : Passage) (ps : List Passage) (new : Database) (place : ℕ) (p : Passage) → IsPassage q → IsTrail q.after ps new
      → child < q.before.next → pair_at q.before.pairs child ≡ None → slice_get (q ∷ ps) place ≡ Some p → pair_at p.before.pairs child ≡ None
  absent_all_along q ps new place p passage trail below none there = elim (held_or_not Pair (pair_at p.before.pairs child)) [
    | inl gone ↦ gone
    | inr held ↦
        let begun = stood_all_along q ps new place p held.value passage trail below there held.is in
        let stood = begun.there in
        absurd (cc)
  ]

  absent_after : (q : Passage) (ps : List Passage) (new : Database) (place : ℕ) (p : Passage) → IsPassage q → IsTrail q.after ps new
      → child < q.before.next → pair_at q.before.pairs child ≡ None → slice_get (q ∷ ps) place ≡ Some p → IsPassage p → pair_at p.after.pairs child ≡ None
  absent_after q ps new place p passage trail below none there here = elim (held_or_not Pair (pair_at p.after.pairs child)) [
    | inl gone ↦ gone
    | inr held ↦
        let begun = stood_after q ps new place p held.value passage trail below there here held.is in
        let stood = begun.there in
        absurd (cc)
  ]

  absent : (old : Database) (ps : List Passage) (new : Database) (first place : ℕ) (p q : Passage) → IsTrail old ps new → first ≤ place
      → slice_get ps first ≡ Some p → slice_get ps place ≡ Some q → child < p.before.next → pair_at p.before.pairs child ≡ None
      → (pair_at q.before.pairs child ≡ None) × (pair_at q.after.pairs child ≡ None)
  absent old [] new first place p q trail order at_first at_place below none = absurd (cc)
  absent old (r ∷ ps) new zero place p q trail order at_first at_place below none =
      let same_step : p ≡ r = cc in
      let given : child < r.before.next = subst (λ (s : Passage). child < s.before.next) same_step below in
      let gone : pair_at r.before.pairs child ≡ None = subst (λ (s : Passage). pair_at s.before.pairs child ≡ None) same_step none in (
        absent_all_along r ps new place q trail.1 trail.2 given gone at_place,
        absent_after r ps new place q trail.1 trail.2 given gone at_place (passage_at old (r ∷ ps) new place q trail at_place),
      )
  absent old (r ∷ ps) new (suc first) zero p q trail order at_first at_place below none = absurd (omega arith)
  absent old (r ∷ ps) new (suc first) (suc place) p q trail order at_first at_place below none =
      absent r.after ps new first place p q trail.2 (omega arith) at_first at_place below none

  pub stays_same : (old : Database) (ps : List Passage) (new : Database) → IsTrail old ps new → StaysSame child ps
  stays_same old ps new trail = record {
    kept = λ first place p q was is order at_first at_place stood stands. kept old ps new first place p q was is trail order at_first at_place stood stands;
    gone = λ first place p q order at_first at_place there none. elim (held_or_not Pair (pair_at p.before.pairs child)) [
      | inl not_there ↦ absurd (nowhere (pair_at p.before.pairs child) not_there there)
      | inr held ↦ gone_after old ps new first place p q held.value trail order at_first at_place held.is none
    ];
    absent = λ first place p q order at_first at_place below none. absent old ps new first place p q trail order at_first at_place below none;
  }

-- wherever its SA pair stands, it has one SA and one size of its window
pub record HasEnd (child : ℕ) (ps : List Passage) : Type 0 where
  pub association : Sa
  pub size : ℕ
  pub association_is : (place : ℕ) (p : Passage) (pair : Pair) → slice_get ps place ≡ Some p → pair_at p.before.pairs child ≡ Some pair → pair.inbound.association ≡ association
  pub size_is : (place : ℕ) (p : Passage) (pair : Pair) → slice_get ps place ≡ Some p → pair_at p.before.pairs child ≡ Some pair → pair.inbound.window.size ≡ size

-- by that of the first place at which it stands
end_of : (facts : PacketFacts) (child : ℕ) (q : Passage) (ps : List Passage) (new : Database) (was : Pair) → IsPassage q → IsTrail q.after ps new
    → pair_at q.before.pairs child ≡ Some was → HasEnd child (q ∷ ps)
end_of facts child q ps new was passage trail there =
    let below = (passage.sound.serial_given child was there).1 in
    let same_as : (place : ℕ) (p : Passage) (pair : Pair) → slice_get (q ∷ ps) place ≡ Some p → pair_at p.before.pairs child ≡ Some pair → IsSameEnd was pair =
    λ place p pair at stands.
    (let begun = stood_all_along facts child q ps new place p pair passage trail below at stands in
    same_from q.before child was pair there begun)
    in
    record {
      association = was.inbound.association;
      size = was.inbound.window.size;
      association_is = λ place p pair at stands. (same_as place p pair at stands).association;
      size_is = λ place p pair at stands. (same_as place p pair at stands).size;
    }

later_association : (child : ℕ) (q : Passage) (ps : List Passage) (rest : HasEnd child ps) (place : ℕ) (p : Passage) (pair : Pair) → pair_at q.before.pairs child ≡ None
    → slice_get (q ∷ ps) place ≡ Some p → pair_at p.before.pairs child ≡ Some pair → (pair.inbound.association ≡ rest.association) × (pair.inbound.window.size ≡ rest.size)
later_association child q ps rest zero p pair none at stands =
    let same_step : p ≡ q = cc in
    let there : pair_at q.before.pairs child ≡ Some pair = subst (λ (s : Passage). pair_at s.before.pairs child ≡ Some pair) same_step stands in
    absurd (cc)
later_association child q ps rest (suc place) p pair none at stands = (rest.association_is place p pair at stands, rest.size_is place p pair at stands)

pub has_end : (facts : PacketFacts) (child : ℕ) (old : Database) (ps : List Passage) (new : Database) → IsTrail old ps new → HasEnd child ps
has_end facts child old [] new trail = record {
  association = record { spi = 0; key = []; extended = false };
  size = 0;
  association_is = λ place p pair at stands. absurd (cc);
  size_is = λ place p pair at stands. absurd (cc);
}
has_end facts child old (q ∷ ps) new trail = elim (held_or_not Pair (pair_at q.before.pairs child)) [
  | inl none ↦
      let rest = has_end facts child q.after ps new trail.2 in
      record {
        association = rest.association;
        size = rest.size;
        association_is = λ place p pair at stands. (later_association child q ps rest place p pair none at stands).0;
        size_is = λ place p pair at stands. (later_association child q ps rest place p pair none at stands).1;
      }
  | inr held ↦ end_of facts child q ps new held.value trail.1 trail.2 held.is
]
