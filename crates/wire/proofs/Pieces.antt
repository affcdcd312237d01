-- What the steps of reading take from the front.
use Rattle.std.proofs.Common.{◌≡◌, ℕ, ◌+◌, ◌-◌, ◌<◌, ◌≤◌, ◌^◌, ltb, leb, List, length, take, drop, slice_index, Some, sym, ap, inl, inr, arith}
use Rattle.std.proofs.lemmas.Bool.{ltb-false}
use Rattle.std.proofs.lemmas.List.{length-drop}
use Rattle.byteorder.specs.Endian.{big_number}
use Rattle.wire.specs.declared.proposal.Attribute.{Attribute}
use Rattle.base.specs.declared.selector.Selector.{Selector}
use Rattle.wire.specs.Reading.{octets_at, octet_at, number_at, part_at, attribute_at, range_of, in_order, selector_at, Piece}
use Rattle.wire.proofs.Options.{bind_some, guard_some, some_is, with_some, with_guard, pick}

-- so many octets, and what is behind them
pub record Takes (count : ℕ) (xs front rest : List ℕ) : Type 0 where
  pub long : count ≤ length xs
  pub front_is : front ≡ take count xs
  pub rest_is : rest ≡ drop count xs

pub octets_take : (count : ℕ) (xs : List ℕ) (x : List ℕ × List ℕ) → octets_at count xs ≡ Some x → Takes count xs x.0 x.1
octets_take count xs x e =
    let g = guard_some (ltb (length xs) count) (Some (take count xs, drop count xs)) x e in
    let same : (take count xs, drop count xs) ≡ x = some_is _ _ g.1 in
    record { long = ltb-false _ _ g.0; front_is = sym (ap (λ (p : List ℕ × List ℕ). p.0) same); rest_is = sym (ap (λ (p : List ℕ × List ℕ). p.1) same) }

pub octets_shrink : (count : ℕ) (xs : List ℕ) (x : List ℕ × List ℕ) → octets_at count xs ≡ Some x → length x.1 + count ≡ length xs
octets_shrink count xs x e = let t = octets_take count xs x e in rw t.rest_is (omega (arith, t.long, length-drop count xs))

pub number_shrinks : (count : ℕ) (xs : List ℕ) (x : ℕ × List ℕ) → number_at count xs ≡ Some x → length x.1 + count ≡ length xs
number_shrinks count xs x e =
    let b = bind_some (octets_at count xs) (λ y. Some (big_number count y.0, y.1)) x e in
    let s = octets_shrink count xs b.0 b.1 in
    let r : b.0.1 ≡ x.1 = ap (λ (p : ℕ × List ℕ). p.1) (some_is _ x b.2) in
    rw (← r) s

pub octet_shrinks : (xs : List ℕ) (x : ℕ × List ℕ) → octet_at xs ≡ Some x → length x.1 + 1 ≡ length xs
octet_shrinks xs x e =
    let b = bind_some (octets_at 1 xs) (λ y. Some (slice_index y.0 0, y.1)) x e in
    let s = octets_shrink 1 xs b.0 b.1 in
    let r : b.0.1 ≡ x.1 = ap (λ (p : ℕ × List ℕ). p.1) (some_is _ x b.2) in
    rw (← r) s

pub part_shrinks : (xs : List ℕ) (x : Piece × List ℕ) → part_at xs ≡ Some x → length x.1 < length xs
unfolding part_at
part_shrinks xs x e =
    with_some (octet_at xs) _ x e (λ first e1 r1.
    with_some (octet_at first.1) _ x r1 (λ second e2 r2.
    with_some (number_at 2 second.1) _ x r2 (λ size e3 r3.
    with_guard (ltb size.0 4) _ x r3 (λ _ r4.
    with_some (octets_at (size.0 - 4) size.1) _ x r4 (λ inside e5 r5.
    let left : inside.1 ≡ x.1 = ap (λ (p : Piece × List ℕ). p.1) (some_is _ x r5) in
    rw (← left) (omega (arith, octet_shrinks xs first e1, octet_shrinks first.1 second e2, number_shrinks 2 second.1 size e3, octets_shrink (size.0 - 4) size.1 inside e5)))))))

pub attribute_shrinks : (xs : List ℕ) (x : Attribute × List ℕ) → attribute_at xs ≡ Some x → length x.1 < length xs
unfolding attribute_at
attribute_shrinks xs x e =
    with_some (number_at 2 xs) _ x e (λ kind e1 r1.
    with_some (number_at 2 kind.1) _ x r1 (λ value e2 r2.
    elim (pick (leb (2 ^ 15) kind.0) _ _ _ r2) [
      | inl short ↦
          let left : value.1 ≡ x.1 = ap (λ (p : Attribute × List ℕ). p.1) (some_is _ x short.1) in
          rw (← left) (omega (arith, number_shrinks 2 xs kind e1, number_shrinks 2 kind.1 value e2))
      | inr long ↦
          with_some (octets_at value.0 value.1) _ x long.1 (λ octets e3 r3.
          let left : octets.1 ≡ x.1 = ap (λ (p : Attribute × List ℕ). p.1) (some_is _ x r3) in
          rw (← left) (omega (arith, number_shrinks 2 xs kind e1, number_shrinks 2 kind.1 value e2, octets_shrink value.0 value.1 octets e3)))
    ]))

pub selector_shrinks : (xs : List ℕ) (x : Selector × List ℕ) → selector_at xs ≡ Some x → length x.1 < length xs
unfolding selector_at
selector_shrinks xs x e =
    with_some (part_at xs) _ x e (λ part e1 r1.
    with_some (number_at 2 part.0.inside) _ x r1 (λ start_port e2 r2.
    with_some (number_at 2 start_port.1) _ x r2 (λ end_port e3 r3.
    with_some (range_of part.0.first end_port.1) _ x r3 (λ addresses e4 r4.
    with_some (in_order (record { protocol = part.0.second; start_port = start_port.0; end_port = end_port.0; addresses = addresses })) _ x r4 (λ selector e5 r5.
    let left : part.1 ≡ x.1 = ap (λ (p : Selector × List ℕ). p.1) (some_is (selector, part.1) x r5) in
    rw (← left) (part_shrinks xs part e1))))))
