-- The insides of selectors, of the payloads of a few fields, of notifications and deletions.
use Rattle.std.proofs.Common.{◌≡◌, ℕ, zero, suc, ◌+◌, ◌*◌, ◌^◌, ◌<◌, ◌≤◌, Bool, true, false, cond, eqb, leb, ltb, List, [], ◌∷◌, ◌++◌, length, Some, None, refl, sym, ap, subst, ◌∙◌, inl, inr, ◌⊎◌, arith}
use Rattle.std.specs.Prelude.{◌&&◌, ◌||◌}
use Rattle.std.proofs.lemmas.Bool.{eqb-true, ltb-false, le-ltb, leb-true, le-leb, ne_eqb}
use Rattle.std.proofs.lemmas.List.{length-append, append-nil, nil_from_length}
use Rattle.byteorder.specs.Endian.{big_bytes}
use Rattle.base.specs.Octets.{IsOctet, AreOctets}
use Rattle.wire.specs.Parts.{IsPart, SpellsEach}
use Rattle.base.specs.Addresses.{FitsRange, IsOrdered}
use Rattle.base.specs.declared.address.Range.{Range}
use Rattle.base.specs.declared.address.Range.TheVariants as range
use Rattle.wire.specs.Selectors.{SpellsSelector, SpellsSelectors, selector_type, ends_octets}
use Rattle.wire.specs.Fields.{SpellsKe, SpellsTyped, SpellsNonce, SpellsNotify, SpellsDelete, SpellsSpi, HasSpiSize}
use Rattle.wire.specs.Reading.{◌>>=◌, octets_at, octet_at, number_at, part_at, each_of, range_at, range_of, is_ordered, is_in_order, in_order, selector_at, is_counted, selectors_of, data_of, ke_of, typed_of, nonce_of, notify_of, delete_of, is_sized}
use Rattle.base.specs.declared.selector.Selector.{Selector}
use Rattle.wire.specs.declared.payload.Payload.{Payload}
use Rattle.wire.specs.declared.payload.Payload.TheVariants.{Notify, Delete}
use Rattle.wire.proofs.Options.{some_is, with_some, with_test, with_guard, pick, both_true}
use Rattle.base.proofs.OctetLemmas.{octets_front, octets_back}
use Rattle.wire.proofs.Takes.{octets_takes, octets_again, octet_takes, octet_again, IsWide, wide2, wide4, wide16, number_takes, number_again, part_takes, part_again}
use Rattle.wire.proofs.Sequences.{TakesItem, ItemTakes, ItemAgain, each_takes, each_again, part_long}
use Rattle.wire.proofs.Bodies.{same_numbers}

-- ---- selectors

-- both ends of a range, in so many octets each
abbrev ends_in : ℕ → ℕ × ℕ → List ℕ
ends_in width ends = big_bytes width ends.0 ++ big_bytes width ends.1

record TakesEnds (width limit : ℕ) (made : ℕ → ℕ → Range) (xs : List ℕ) (r : Range) : Type 0 where
  ends : ℕ × ℕ
  range_is : made ends.0 ends.1 ≡ r
  spelled : xs ≡ ends_in width ends
  start : ends.0 < limit
  end : ends.1 < limit

ends_take : (width limit : ℕ) → IsWide width limit → (made : ℕ → ℕ → Range) (xs : List ℕ) (r : Range) → AreOctets xs → range_at width made xs ≡ Some r → TakesEnds width limit made xs r
unfolding range_at
ends_take width limit wide made xs r fits e =
    with_some (number_at width xs) _ r e (λ start e1 r1.
    with_some (number_at width start.1) _ r r1 (λ end e2 r2.
    with_test (eqb (length end.1) 0) (Some (made start.0 end.0)) r r2 (λ good r3.
    let t1 = number_takes width limit wide xs start fits e1 in
    let fits1 : AreOctets start.1 = octets_back (big_bytes width start.0) start.1 (subst AreOctets t1.0 fits) in
    let t2 = number_takes width limit wide start.1 end fits1 e2 in
    let nothing : end.1 ≡ [] = nil_from_length end.1 (eqb-true _ _ good) in
    record {
      ends = (start.0, end.0);
      range_is = some_is (made start.0 end.0) r r3;
      spelled = t1.0 ∙ ap (λ (y : List ℕ). big_bytes width start.0 ++ y) (t2.0 ∙ ap (λ (y : List ℕ). big_bytes width end.0 ++ y) nothing ∙ append-nil (big_bytes width end.0));
      start = t1.1;
      end = t2.1;
    })))

ends_again : (width limit : ℕ) → IsWide width limit → (made : ℕ → ℕ → Range) (start end : ℕ) → start < limit → end < limit → range_at width made (big_bytes width start ++ big_bytes width end) ≡ Some (made start end)
unfolding range_at
ends_again width limit wide made start end one other =
    ap (λ o. o >>= λ u. number_at width u.1 >>= λ v. cond (eqb (length v.1) 0) (Some (made u.0 v.0)) None) (number_again width limit wide start (big_bytes width end) one)
    ∙ ap (λ (y : List ℕ). number_at width y >>= λ v. cond (eqb (length v.1) 0) (Some (made start v.0)) None) (sym (append-nil (big_bytes width end)))
    ∙ ap (λ o. o >>= λ v. cond (eqb (length v.1) 0) (Some (made start v.0)) None) (number_again width limit wide end [] other)

-- what a range of the type takes
record TakesRange (kind : ℕ) (xs : List ℕ) (r : Range) : Type 0 where
  kind_is : kind ≡ selector_type r
  spelled : xs ≡ ends_octets r
  fits : FitsRange r

range_takes : (kind : ℕ) (xs : List ℕ) (r : Range) → AreOctets xs → range_of kind xs ≡ Some r → TakesRange kind xs r
unfolding range_of
range_takes kind xs r fits e =
    elim (pick (eqb kind 7) _ _ _ e) [
      | inl four ↦
          let t = ends_take 4 (2 ^ 32) wide4 range.V4 xs r fits four.1 in
          subst (TakesRange kind xs) t.range_is (record { kind_is = eqb-true _ _ four.0; spelled = t.spelled; fits = (t.start, t.end) })
      | inr other ↦ with_test (eqb kind 8) (range_at 16 range.V6 xs) r other.1 (λ six e6.
          let t = ends_take 16 (2 ^ 128) wide16 range.V6 xs r fits e6 in
          subst (TakesRange kind xs) t.range_is (record { kind_is = eqb-true _ _ six; spelled = t.spelled; fits = (t.start, t.end) }))
    ]

range_again : (r : Range) → FitsRange r → range_of (selector_type r) (ends_octets r) ≡ Some r
unfolding range_of
range_again (range.V4 start end) fits = ends_again 4 (2 ^ 32) wide4 range.V4 start end fits.0 fits.1
range_again (range.V6 start end) fits = ends_again 16 (2 ^ 128) wide16 range.V6 start end fits.0 fits.1

pub ordered_true : (r : Range) → is_ordered r ≡ true → IsOrdered r
ordered_true (range.V4 start end) e = leb-true _ _ e
ordered_true (range.V6 start end) e = leb-true _ _ e

pub true_ordered : (r : Range) → IsOrdered r → is_ordered r ≡ true
true_ordered (range.V4 start end) le = le-leb _ _ le
true_ordered (range.V6 start end) le = le-leb _ _ le

pub both_hold : (a b : Bool) → a ≡ true → b ≡ true → (a && b) ≡ true
both_hold true b e f = f
both_hold false b e f = absurd cc

pub ordered_again : (s : Selector) → s.start_port ≤ s.end_port → IsOrdered s.addresses → is_in_order s ≡ true
ordered_again s ports addresses = both_hold (leb s.start_port s.end_port) (is_ordered s.addresses) (le-leb _ _ ports) (true_ordered s.addresses addresses)

pub selector_takes : ItemTakes selector_at SpellsSelector
unfolding selector_at
selector_takes xs x fits e =
    with_some (part_at xs) _ x e (λ part e1 r1.
    with_some (number_at 2 part.0.inside) _ x r1 (λ start_port e2 r2.
    with_some (number_at 2 start_port.1) _ x r2 (λ end_port e3 r3.
    with_some (range_of part.0.first end_port.1) _ x r3 (λ addresses e4 r4.
    let made : Selector = record { protocol = part.0.second; start_port = start_port.0; end_port = end_port.0; addresses = addresses } in
    with_some (in_order made) (λ selector. Some (selector, part.1)) x r4 (λ selector e5 r5.
    with_test (is_in_order made) (Some made) selector e5 (λ good r6.
    let g = both_true (leb start_port.0 end_port.0) (is_ordered addresses) good in
    let same : made ≡ selector = some_is made selector r6 in
    let is : (made, part.1) ≡ x = ap (λ (s : Selector). (s, part.1)) same ∙ some_is (selector, part.1) x r5 in
    let t1 = part_takes xs part fits e1 in
    let inside_fits : AreOctets part.0.inside = octets_back (part.0.first ∷ part.0.second ∷ big_bytes 2 (4 + length part.0.inside)) part.0.inside (subst AreOctets t1.part.spelled (octets_front t1.front part.1 (subst AreOctets t1.joined fits))) in
    let t2 = number_takes 2 (2 ^ 16) wide2 part.0.inside start_port inside_fits e2 in
    let fits2 : AreOctets start_port.1 = octets_back (big_bytes 2 start_port.0) start_port.1 (subst AreOctets t2.0 inside_fits) in
    let t3 = number_takes 2 (2 ^ 16) wide2 start_port.1 end_port fits2 e3 in
    let fits3 : AreOctets end_port.1 = octets_back (big_bytes 2 end_port.0) end_port.1 (subst AreOctets t3.0 fits2) in
    let t4 = range_takes part.0.first end_port.1 addresses fits3 e4 in
    let inside : List ℕ = big_bytes 2 start_port.0 ++ big_bytes 2 end_port.0 ++ ends_octets addresses in
    let inside_is : part.0.inside ≡ inside =
    t2.0 ∙ ap (λ (r : List ℕ). big_bytes 2 start_port.0 ++ r) (t3.0 ∙ ap (λ (r : List ℕ). big_bytes 2 end_port.0 ++ r) t4.spelled) in
    let part_is : IsPart (selector_type addresses) part.0.second inside t1.front =
    subst (λ (y : List ℕ). IsPart (selector_type addresses) part.0.second y t1.front) inside_is (subst (λ (m : ℕ). IsPart m part.0.second part.0.inside t1.front) t4.kind_is t1.part) in
    subst (TakesItem SpellsSelector xs) is (record {
      front = t1.front;
      joined = t1.joined;
      spelled = record { part = part_is; ports = leb-true _ _ g.0; port = t3.1; addresses = ordered_true addresses g.1; fits = t4.fits };
    })))))))

pub selector_again : ItemAgain selector_at SpellsSelector
unfolding selector_at
selector_again a front rest s =
    let kind : ℕ = selector_type a.addresses in
    let ends : List ℕ = ends_octets a.addresses in
    let inside : List ℕ = big_bytes 2 a.start_port ++ big_bytes 2 a.end_port ++ ends in (
      ap (λ o. o >>= λ p. number_at 2 p.0.inside >>= λ u. number_at 2 u.1 >>= λ v. range_of p.0.first v.1 >>= λ w. in_order (record { protocol = p.0.second; start_port = u.0; end_port = v.0; addresses = w }) >>= λ z. Some (z, p.1)) (part_again kind a.protocol inside front rest s.part)
          ∙ ap (λ o. o >>= λ u. number_at 2 u.1 >>= λ v. range_of kind v.1 >>= λ w. in_order (record { protocol = a.protocol; start_port = u.0; end_port = v.0; addresses = w }) >>= λ z. Some (z, rest)) (number_again 2 (2 ^ 16) wide2 a.start_port (big_bytes 2 a.end_port ++ ends) (omega (arith, s.ports, s.port)))
          ∙ ap (λ o. o >>= λ v. range_of kind v.1 >>= λ w. in_order (record { protocol = a.protocol; start_port = a.start_port; end_port = v.0; addresses = w }) >>= λ z. Some (z, rest)) (number_again 2 (2 ^ 16) wide2 a.end_port ends s.port)
          ∙ ap (λ o. o >>= λ w. in_order (record { protocol = a.protocol; start_port = a.start_port; end_port = a.end_port; addresses = w }) >>= λ z. Some (z, rest)) (range_again a.addresses s.fits)
          ∙ ap (λ b. cond b (Some a) None >>= λ z. Some (z, rest)) (ordered_again a s.ports s.addresses),
      omega (arith, part_long kind a.protocol inside front s.part),
    )

pub three_octets : (front : List ℕ) → length front ≡ 3 → (x : ℕ) × (y : ℕ) × (z : ℕ) × (front ≡ x ∷ y ∷ z ∷ [])
three_octets [] e = absurd (omega arith)
three_octets (x ∷ []) e = absurd (omega arith)
three_octets (x ∷ y ∷ []) e = absurd (omega arith)
three_octets (x ∷ y ∷ z ∷ []) e = (x, y, z, refl)
three_octets (x ∷ y ∷ z ∷ w ∷ front) e = absurd (omega arith)

two_octets : (front : List ℕ) → length front ≡ 2 → (x : ℕ) × (y : ℕ) × (front ≡ x ∷ y ∷ [])
two_octets [] e = absurd (omega arith)
two_octets (x ∷ []) e = absurd (omega arith)
two_octets (x ∷ y ∷ []) e = (x, y, refl)
two_octets (x ∷ y ∷ z ∷ front) e = absurd (omega arith)

-- a selector has 16 or 40 octets
selector_length : (a : Selector) (x : List ℕ) → SpellsSelector a x → (16 ≤ length x) × (length x ≤ 40)
selector_length a x s = sized a.addresses s.part where
  sized : (r : Range) → IsPart (selector_type r) a.protocol (big_bytes 2 a.start_port ++ big_bytes 2 a.end_port ++ ends_octets r) x → (16 ≤ length x) × (length x ≤ 40)
  sized (range.V4 start end) part = (omega (arith, ap length part.spelled), omega (arith, ap length part.spelled))
  sized (range.V6 start end) part = (omega (arith, ap length part.spelled), omega (arith, ap length part.spelled))

selectors_length : (found : List Selector) (xs : List ℕ) → SpellsEach SpellsSelector found xs → (16 * length found ≤ length xs) × (length xs ≤ 40 * length found)
selectors_length [] xs s = (omega (arith, ap length s), omega (arith, ap length s))
selectors_length (a ∷ found) xs s =
    let one = selector_length a s.front s.first in
    let others = selectors_length found s.rest s.others in
    let long : length xs ≡ length s.front + length s.rest = ap length s.joined ∙ length-append s.front s.rest in
    (omega (arith, one.0, others.0, long), omega (arith, one.1, others.1, long))

pub selectors_takes : (xs : List ℕ) (found : List Selector) → AreOctets xs → selectors_of xs ≡ Some found → SpellsSelectors IsOctet found xs
unfolding selectors_of
selectors_takes xs found fits e =
    with_some (octet_at xs) _ found e (λ count e1 r1.
    with_some (octets_at 3 count.1) _ found r1 (λ reserved e2 r2.
    with_some (cond (is_counted count.0 (length reserved.1)) (each_of selector_at (length reserved.1) reserved.1) None) (λ selectors. cond (eqb (length selectors) count.0) (Some selectors) None) found r2 (λ selectors e3 r3.
    with_test (is_counted count.0 (length reserved.1)) (each_of selector_at (length reserved.1) reserved.1) selectors e3 (λ good e4.
    with_test (eqb (length selectors) count.0) (Some selectors) found r3 (λ counted r4.
    let g1 = both_true (leb 1 count.0 && leb count.0 16 && leb (16 * count.0) (length reserved.1)) (leb (length reserved.1) (40 * count.0)) good in
    let g2 = both_true (leb 1 count.0 && leb count.0 16) (leb (16 * count.0) (length reserved.1)) g1.0 in
    let g3 = both_true (leb 1 count.0) (leb count.0 16) g2.0 in
    let same : selectors ≡ found = some_is selectors found r4 in
    let t1 = octet_takes xs count e1 in
    let fits1 : AreOctets count.1 = (subst AreOctets t1 fits).1 in
    let t2 = octets_takes 3 count.1 reserved e2 in
    let three = three_octets reserved.0 t2.1 in
    let both2 : AreOctets (reserved.0 ++ reserved.1) = subst AreOctets t2.0 fits1 in
    let named : AreOctets (three.0 ∷ three.1 ∷ three.2 ∷ []) = subst AreOctets three.3 (octets_front reserved.0 reserved.1 both2) in
    let each = each_takes selector_at SpellsSelector selector_takes (length reserved.1) reserved.1 selectors (octets_back reserved.0 reserved.1 both2) e4 in
    let count_is : length selectors ≡ count.0 = eqb-true _ _ counted in
    subst (λ (ss : List Selector). SpellsSelectors IsOctet ss xs) same (record {
      reserved_1 = three.0;
      reserved_2 = three.1;
      reserved_3 = three.2;
      free = (named.0, named.1.0, named.1.1.0);
      selectors = reserved.1;
      spelled = t1 ∙ ap (λ (r : List ℕ). count.0 ∷ r) (t2.0 ∙ ap (λ (r : List ℕ). r ++ reserved.1) three.3) ∙ ap (λ (n : ℕ). n ∷ three.0 ∷ three.1 ∷ three.2 ∷ reserved.1) (sym count_is);
      some = rw count_is (leb-true _ _ g3.0);
      few = rw count_is (leb-true _ _ g3.1);
      each = each;
    }))))))

counted_again : (n size : ℕ) → 1 ≤ n → n ≤ 16 → 16 * n ≤ size → size ≤ 40 * n → is_counted n size ≡ true
counted_again n size some few least most =
    both_hold (leb 1 n && leb n 16 && leb (16 * n) size) (leb size (40 * n))
    (both_hold (leb 1 n && leb n 16) (leb (16 * n) size) (both_hold (leb 1 n) (leb n 16) (le-leb _ _ some) (le-leb _ _ few)) (le-leb _ _ least))
    (le-leb _ _ most)

pub selectors_again : (Free : ℕ → Type 0) (a : List Selector) (xs : List ℕ) → SpellsSelectors Free a xs → selectors_of xs ≡ Some a
unfolding selectors_of
selectors_again Free a xs s =
    let n : ℕ = length a in
    let long = selectors_length a s.selectors s.each in
    ap selectors_of s.spelled
    ∙ ap (λ o. o >>= λ u. octets_at 3 u.1 >>= λ v. cond (is_counted u.0 (length v.1)) (each_of selector_at (length v.1) v.1) None >>= λ w. cond (eqb (length w) u.0) (Some w) None) (octet_again n (s.reserved_1 ∷ s.reserved_2 ∷ s.reserved_3 ∷ s.selectors))
    ∙ ap (λ o. o >>= λ v. cond (is_counted n (length v.1)) (each_of selector_at (length v.1) v.1) None >>= λ w. cond (eqb (length w) n) (Some w) None) (octets_again (s.reserved_1 ∷ s.reserved_2 ∷ s.reserved_3 ∷ []) s.selectors 3 refl)
    ∙ ap (λ b. cond b (each_of selector_at (length s.selectors) s.selectors) None >>= λ w. cond (eqb (length w) n) (Some w) None) (counted_again n (length s.selectors) s.some s.few long.0 long.1)
    ∙ ap (λ o. o >>= λ w. cond (eqb (length w) n) (Some w) None) (each_again selector_at SpellsSelector selector_again a s.selectors (length s.selectors) (omega arith) s.each)
    ∙ ap (λ b. cond b (Some a) None) (same_numbers n n refl)

-- ---- data of a few octets

pub neither : (a b : Bool) → (a || b) ≡ false → (a ≡ false) × (b ≡ false)
neither false b e = (refl, e)
neither true b e = absurd cc

pub not_empty : (n : ℕ) → eqb n 0 ≡ false → 1 ≤ n
not_empty zero e = absurd cc
not_empty (suc n) e = omega arith

pub data_takes : (limit : ℕ) (xs found : List ℕ) → data_of limit xs ≡ Some found → (xs ≡ found) × (1 ≤ length found) × (length found ≤ limit)
data_takes limit xs found e =
    with_guard ((eqb (length xs) 0) || ltb limit (length xs)) (Some xs) found e (λ good r.
    let g = neither (eqb (length xs) 0) (ltb limit (length xs)) good in
    let is : xs ≡ found = some_is xs found r in
    (is, rw (← is) (not_empty (length xs) g.0), rw (← is) (ltb-false _ _ g.1)))

pub data_again : (limit : ℕ) (xs : List ℕ) → 1 ≤ length xs → length xs ≤ limit → data_of limit xs ≡ Some xs
data_again limit xs some few =
    let a : eqb (length xs) 0 ≡ false = ne_eqb _ _ (λ none. absurd (omega arith)) in
    let b : ltb limit (length xs) ≡ false = le-ltb _ _ few in
    rw (a, b) refl

pub ke_takes : (xs : List ℕ) (x : ℕ × List ℕ) → AreOctets xs → ke_of xs ≡ Some x → SpellsKe IsOctet x.0 x.1 xs
unfolding ke_of
ke_takes xs x fits e =
    with_some (number_at 2 xs) _ x e (λ group e1 r1.
    with_some (octets_at 2 group.1) _ x r1 (λ reserved e2 r2.
    with_some (data_of 1024 reserved.1) _ x r2 (λ octets e3 r3.
    let t1 = number_takes 2 (2 ^ 16) wide2 xs group fits e1 in
    let fits1 : AreOctets group.1 = octets_back (big_bytes 2 group.0) group.1 (subst AreOctets t1.0 fits) in
    let t2 = octets_takes 2 group.1 reserved e2 in
    let two = two_octets reserved.0 t2.1 in
    let named : AreOctets (two.0 ∷ two.1 ∷ []) = subst AreOctets two.2 (octets_front reserved.0 reserved.1 (subst AreOctets t2.0 fits1)) in
    let t3 = data_takes 1024 reserved.1 octets e3 in
    let P : ℕ × List ℕ → Type 0 = λ p. SpellsKe IsOctet p.0 p.1 xs in
    subst P (some_is (group.0, octets) x r3) (record {
      reserved_1 = two.0;
      reserved_2 = two.1;
      free = (named.0, named.1.0);
      spelled = t1.0 ∙ ap (λ (r : List ℕ). big_bytes 2 group.0 ++ r) (t2.0 ∙ ap (λ (r : List ℕ). r ++ reserved.1) two.2 ∙ ap (λ (r : List ℕ). two.0 ∷ two.1 ∷ r) t3.0);
      group_fits = t1.1;
      some = t3.1;
      few = t3.2;
    }))))

pub ke_again : (Free : ℕ → Type 0) (group : ℕ) (octets xs : List ℕ) → SpellsKe Free group octets xs → ke_of xs ≡ Some (group, octets)
unfolding ke_of
ke_again Free group octets xs s =
    ap ke_of s.spelled
    ∙ ap (λ o. o >>= λ g. octets_at 2 g.1 >>= λ r. data_of 1024 r.1 >>= λ d. Some (g.0, d)) (number_again 2 (2 ^ 16) wide2 group (s.reserved_1 ∷ s.reserved_2 ∷ octets) s.group_fits)
    ∙ ap (λ o. o >>= λ r. data_of 1024 r.1 >>= λ d. Some (group, d)) (octets_again (s.reserved_1 ∷ s.reserved_2 ∷ []) octets 2 refl)
    ∙ ap (λ o. o >>= λ d. Some (group, d)) (data_again 1024 octets s.some s.few)

pub typed_takes : (limit : ℕ) (xs : List ℕ) (x : ℕ × List ℕ) → AreOctets xs → typed_of limit xs ≡ Some x → SpellsTyped IsOctet limit x.0 x.1 xs
unfolding typed_of
typed_takes limit xs x fits e =
    with_some (octet_at xs) _ x e (λ kind e1 r1.
    with_some (octets_at 3 kind.1) _ x r1 (λ reserved e2 r2.
    with_some (data_of limit reserved.1) _ x r2 (λ octets e3 r3.
    let t1 = octet_takes xs kind e1 in
    let fits1 : AreOctets kind.1 = (subst AreOctets t1 fits).1 in
    let t2 = octets_takes 3 kind.1 reserved e2 in
    let three = three_octets reserved.0 t2.1 in
    let named : AreOctets (three.0 ∷ three.1 ∷ three.2 ∷ []) = subst AreOctets three.3 (octets_front reserved.0 reserved.1 (subst AreOctets t2.0 fits1)) in
    let t3 = data_takes limit reserved.1 octets e3 in
    let P : ℕ × List ℕ → Type 0 = λ p. SpellsTyped IsOctet limit p.0 p.1 xs in
    subst P (some_is (kind.0, octets) x r3) (record {
      reserved_1 = three.0;
      reserved_2 = three.1;
      reserved_3 = three.2;
      free = (named.0, named.1.0, named.1.1.0);
      spelled = t1 ∙ ap (λ (r : List ℕ). kind.0 ∷ r) (t2.0 ∙ ap (λ (r : List ℕ). r ++ reserved.1) three.3 ∙ ap (λ (r : List ℕ). three.0 ∷ three.1 ∷ three.2 ∷ r) t3.0);
      some = t3.1;
      few = t3.2;
    }))))

pub typed_again : (Free : ℕ → Type 0) (limit kind : ℕ) (octets xs : List ℕ) → SpellsTyped Free limit kind octets xs → typed_of limit xs ≡ Some (kind, octets)
unfolding typed_of
typed_again Free limit kind octets xs s =
    ap (typed_of limit) s.spelled
    ∙ ap (λ o. o >>= λ k. octets_at 3 k.1 >>= λ r. data_of limit r.1 >>= λ d. Some (k.0, d)) (octet_again kind (s.reserved_1 ∷ s.reserved_2 ∷ s.reserved_3 ∷ octets))
    ∙ ap (λ o. o >>= λ r. data_of limit r.1 >>= λ d. Some (kind, d)) (octets_again (s.reserved_1 ∷ s.reserved_2 ∷ s.reserved_3 ∷ []) octets 3 refl)
    ∙ ap (λ o. o >>= λ d. Some (kind, d)) (data_again limit octets s.some s.few)

pub nonce_takes : (xs found : List ℕ) → nonce_of xs ≡ Some found → SpellsNonce found xs
unfolding nonce_of
nonce_takes xs found e =
    with_test (leb 16 (length xs) && leb (length xs) 256) (Some xs) found e (λ good r.
    let g = both_true (leb 16 (length xs)) (leb (length xs) 256) good in
    let is : xs ≡ found = some_is xs found r in
    record { spelled = is; some = rw (← is) (leb-true _ _ g.0); few = rw (← is) (leb-true _ _ g.1) })

pub nonce_again : (octets xs : List ℕ) → SpellsNonce octets xs → nonce_of xs ≡ Some octets
unfolding nonce_of
nonce_again octets xs s =
    let a : leb 16 (length octets) ≡ true = le-leb _ _ s.some in
    let b : leb (length octets) 256 ≡ true = le-leb _ _ s.few in
    ap nonce_of s.spelled ∙ rw (a, b) refl

-- ---- notifications

pub notify_takes : (xs : List ℕ) (p : Payload) → AreOctets xs → notify_of xs ≡ Some p → (protocol : ℕ) × (spi : List ℕ) × (kind : ℕ) × (octets : List ℕ) × (p ≡ Notify protocol spi kind octets) × SpellsNotify protocol spi kind octets xs
unfolding notify_of
notify_takes xs p fits e =
    with_some (octet_at xs) _ p e (λ protocol e1 r1.
    with_some (octet_at protocol.1) _ p r1 (λ size e2 r2.
    with_some (number_at 2 size.1) _ p r2 (λ kind e3 r3.
    with_some (octets_at size.0 kind.1) _ p r3 (λ spi e4 r4.
    let t1 = octet_takes xs protocol e1 in
    let t2 = octet_takes protocol.1 size e2 in
    let both2 : AreOctets (size.0 ∷ size.1) = subst AreOctets t2 (subst AreOctets t1 fits).1 in
    let t3 = number_takes 2 (2 ^ 16) wide2 size.1 kind both2.1 e3 in
    let t4 = octets_takes size.0 kind.1 spi e4 in (
      protocol.0,
      spi.0,
      kind.0,
      spi.1,
      sym (some_is (Notify protocol.0 spi.0 kind.0 spi.1) p r4),
      record {
        spelled =
            t1 ∙ ap (λ (r : List ℕ). protocol.0 ∷ r) (t2 ∙ ap (λ (n : ℕ). n ∷ size.1) (sym t4.1) ∙ ap (λ (r : List ℕ). length spi.0 ∷ r) (t3.0 ∙ ap (λ (r : List ℕ). big_bytes 2 kind.0 ++ r) t4.0));
        spi_fits = omega (arith, t4.1, both2.0);
        kind_fits = t3.1;
      },
    )))))

pub notify_again : (protocol : ℕ) (spi : List ℕ) (kind : ℕ) (octets xs : List ℕ) → SpellsNotify protocol spi kind octets xs → notify_of xs ≡ Some (Notify protocol spi kind octets)
unfolding notify_of
notify_again protocol spi kind octets xs s =
    let m : ℕ = length spi in
    ap notify_of s.spelled
    ∙ ap (λ o. o >>= λ p. octet_at p.1 >>= λ z. number_at 2 z.1 >>= λ k. octets_at z.0 k.1 >>= λ i. Some (Notify p.0 i.0 k.0 i.1)) (octet_again protocol (m ∷ big_bytes 2 kind ++ (spi ++ octets)))
    ∙ ap (λ o. o >>= λ z. number_at 2 z.1 >>= λ k. octets_at z.0 k.1 >>= λ i. Some (Notify protocol i.0 k.0 i.1)) (octet_again m (big_bytes 2 kind ++ (spi ++ octets)))
    ∙ ap (λ o. o >>= λ k. octets_at m k.1 >>= λ i. Some (Notify protocol i.0 k.0 i.1)) (number_again 2 (2 ^ 16) wide2 kind (spi ++ octets) s.kind_fits)
    ∙ ap (λ o. o >>= λ i. Some (Notify protocol i.0 kind i.1)) (octets_again spi octets m refl)

-- ---- deletions

spi_takes : ItemTakes (number_at 4) SpellsSpi
spi_takes xs x fits e =
    let t = number_takes 4 (2 ^ 32) wide4 xs x fits e in
    record { front = big_bytes 4 x.0; joined = t.0; spelled = (refl, t.1) }

spi_again : ItemAgain (number_at 4) SpellsSpi
spi_again a front rest s =
    (ap (λ (y : List ℕ). number_at 4 (y ++ rest)) s.0 ∙ number_again 4 (2 ^ 32) wide4 a rest s.1, omega (arith, ap length s.0))

spis_length : (spis xs : List ℕ) → SpellsEach SpellsSpi spis xs → length xs ≡ 4 * length spis
spis_length [] xs s = omega (arith, ap length s)
spis_length (spi ∷ spis) xs s = omega (arith, ap length s.first.0, spis_length spis s.rest s.others, length-append s.front s.rest, ap length s.joined)

false_true : false ≡ true → ⊥
false_true e = cc

sized_takes : (protocol size : ℕ) (spis : List ℕ) (count : ℕ) → length spis ≡ count → is_sized protocol size count ≡ true → HasSpiSize protocol size spis
sized_takes protocol size spis count counted e =
    elim (pick (eqb protocol 1) _ _ _ e) [
      | inl own ↦
          let b = both_true (eqb size 0) (eqb count 0) own.1 in
          inl (eqb-true _ _ own.0, eqb-true _ _ b.0, nil_from_length spis (counted ∙ eqb-true _ _ b.1))
      | inr other ↦
          elim (pick ((eqb protocol 2) || (eqb protocol 3)) _ _ _ other.1) [
            | inl known ↦ inr (either protocol known.0, eqb-true _ _ known.1)
            | inr nothing ↦ absurd (false_true nothing.1)
          ]
    ] where
      either : (n : ℕ) → ((eqb n 2) || (eqb n 3)) ≡ true → (n ≡ 2) ⊎ (n ≡ 3)
      either n h = elim (pick_or (eqb n 2) (eqb n 3) h) [ inl a ↦ inl (eqb-true _ _ a) | inr b ↦ inr (eqb-true _ _ b) ] where
        pick_or : (a b : Bool) → (a || b) ≡ true → (a ≡ true) ⊎ (b ≡ true)
        pick_or true b h = inl refl
        pick_or false b h = inr h

sized_again : (protocol size : ℕ) (spis : List ℕ) → HasSpiSize protocol size spis → is_sized protocol size (length spis) ≡ true
sized_again protocol size spis (inl own) = rw (own.0, own.1, own.2) refl
sized_again protocol size spis (inr (inl is, four)) = rw (is, four) refl
sized_again protocol size spis (inr (inr is, four)) = rw (is, four) refl

pub delete_takes : (xs : List ℕ) (p : Payload) → AreOctets xs → delete_of xs ≡ Some p → (protocol : ℕ) × (spis : List ℕ) × (p ≡ Delete protocol spis) × SpellsDelete protocol spis xs
unfolding delete_of
delete_takes xs p fits e =
    with_some (octet_at xs) _ p e (λ protocol e1 r1.
    with_some (octet_at protocol.1) _ p r1 (λ size e2 r2.
    with_some (number_at 2 size.1) _ p r2 (λ count e3 r3.
    with_test (is_sized protocol.0 size.0 count.0 && (eqb (length count.1) (4 * count.0))) (each_of (number_at 4) (length count.1) count.1 >>= λ spis. Some (Delete protocol.0 spis)) p r3 (λ good r4.
    with_some (each_of (number_at 4) (length count.1) count.1) _ p r4 (λ spis e4 r5.
    let g = both_true (is_sized protocol.0 size.0 count.0) (eqb (length count.1) (4 * count.0)) good in
    let t1 = octet_takes xs protocol e1 in
    let t2 = octet_takes protocol.1 size e2 in
    let both2 : AreOctets (size.0 ∷ size.1) = subst AreOctets t2 (subst AreOctets t1 fits).1 in
    let t3 = number_takes 2 (2 ^ 16) wide2 size.1 count both2.1 e3 in
    let fits3 : AreOctets count.1 = octets_back (big_bytes 2 count.0) count.1 (subst AreOctets t3.0 both2.1) in
    let each = each_takes (number_at 4) SpellsSpi spi_takes (length count.1) count.1 spis fits3 e4 in
    let count_is : length spis ≡ count.0 = omega (arith, spis_length spis count.1 each, eqb-true _ _ g.1) in (
      protocol.0,
      spis,
      sym (some_is (Delete protocol.0 spis) p r5),
      record {
        size = size.0;
        list = count.1;
        spelled =
            t1 ∙ ap (λ (r : List ℕ). protocol.0 ∷ r) (t2 ∙ ap (λ (r : List ℕ). size.0 ∷ r) (t3.0 ∙ ap (λ (n : ℕ). big_bytes 2 n ++ count.1) (sym count_is)));
        count = rw count_is t3.1;
        sized = sized_takes protocol.0 size.0 spis count.0 count_is g.0;
        each = each;
      },
    ))))))

pub delete_again : (protocol : ℕ) (spis xs : List ℕ) → SpellsDelete protocol spis xs → delete_of xs ≡ Some (Delete protocol spis)
unfolding delete_of
delete_again protocol spis xs s =
    let n : ℕ = length spis in
    ap delete_of s.spelled
    ∙ ap (λ o. o >>= λ p. octet_at p.1 >>= λ z. number_at 2 z.1 >>= λ c. cond (is_sized p.0 z.0 c.0 && (eqb (length c.1) (4 * c.0))) (each_of (number_at 4) (length c.1) c.1 >>= λ l. Some (Delete p.0 l)) None) (octet_again protocol (s.size ∷ big_bytes 2 n ++ s.list))
    ∙ ap (λ o. o >>= λ z. number_at 2 z.1 >>= λ c. cond (is_sized protocol z.0 c.0 && (eqb (length c.1) (4 * c.0))) (each_of (number_at 4) (length c.1) c.1 >>= λ l. Some (Delete protocol l)) None) (octet_again s.size (big_bytes 2 n ++ s.list))
    ∙ ap (λ o. o >>= λ c. cond (is_sized protocol s.size c.0 && (eqb (length c.1) (4 * c.0))) (each_of (number_at 4) (length c.1) c.1 >>= λ l. Some (Delete protocol l)) None) (number_again 2 (2 ^ 16) wide2 n s.list s.count)
    ∙ ap (λ b. cond (b && (eqb (length s.list) (4 * n))) (each_of (number_at 4) (length s.list) s.list >>= λ l. Some (Delete protocol l)) None) (sized_again protocol s.size spis s.sized)
    ∙ ap (λ b. cond b (each_of (number_at 4) (length s.list) s.list >>= λ l. Some (Delete protocol l)) None) (same_numbers (length s.list) (4 * n) (spis_length spis s.list s.each))
    ∙ ap (λ o. o >>= λ l. Some (Delete protocol l)) (each_again (number_at 4) SpellsSpi spi_again spis s.list (length s.list) (omega arith) s.each)
