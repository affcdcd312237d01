-- Ranges of addresses, by their ends.
use Rattle.std.proofs.Common.{◌≡◌, refl, arith}
use Rattle.base.specs.Addresses.{FitsRange, HoldsAddress, IsAddress, IsOrdered, LiesWithin, family_of, family_of_range}
use Rattle.base.specs.declared.address.Address.{Address}
use Rattle.base.specs.declared.address.Address.TheVariants as address
use Rattle.base.specs.declared.address.Range.{Range}
use Rattle.base.specs.declared.address.Range.TheVariants as range

abbrev pub start_of : Range → Address
start_of (range.V4 start end) = address.V4 start
start_of (range.V6 start end) = address.V6 start

abbrev pub end_of : Range → Address
end_of (range.V4 start end) = address.V4 end
end_of (range.V6 start end) = address.V6 end

pub start_held : (r : Range) → IsOrdered r → HoldsAddress r (start_of r)
start_held (range.V4 start end) ordered = (omega arith, ordered)
start_held (range.V6 start end) ordered = (omega arith, ordered)

pub end_held : (r : Range) → IsOrdered r → HoldsAddress r (end_of r)
end_held (range.V4 start end) ordered = (ordered, omega arith)
end_held (range.V6 start end) ordered = (ordered, omega arith)

pub start_fits : (r : Range) → FitsRange r → IsAddress (start_of r)
start_fits (range.V4 start end) fits = fits.0
start_fits (range.V6 start end) fits = fits.0

pub end_fits : (r : Range) → FitsRange r → IsAddress (end_of r)
end_fits (range.V4 start end) fits = fits.1
end_fits (range.V6 start end) fits = fits.1

pub ordered_by : (r : Range) (a : Address) → HoldsAddress r a → IsOrdered r
ordered_by (range.V4 start end) (address.V4 number) held = omega (arith, held.0, held.1)
ordered_by (range.V4 start end) (address.V6 number) held = absurd held
ordered_by (range.V6 start end) (address.V4 number) held = absurd held
ordered_by (range.V6 start end) (address.V6 number) held = omega (arith, held.0, held.1)

-- both ends of a range are held by another
pub within_by_ends : (r q : Range) → HoldsAddress q (start_of r) → HoldsAddress q (end_of r) → LiesWithin r q
within_by_ends (range.V4 start end) (range.V4 from to) first last = (first.0, last.1)
within_by_ends (range.V4 start end) (range.V6 from to) first last = absurd first
within_by_ends (range.V6 start end) (range.V4 from to) first last = absurd first
within_by_ends (range.V6 start end) (range.V6 from to) first last = (first.0, last.1)

pub within_holds : (r q : Range) (a : Address) → LiesWithin r q → HoldsAddress r a → HoldsAddress q a
within_holds (range.V4 start end) (range.V4 from to) (address.V4 number) within held = (omega (arith, within.0, held.0), omega (arith, within.1, held.1))
within_holds (range.V6 start end) (range.V6 from to) (address.V6 number) within held = (omega (arith, within.0, held.0), omega (arith, within.1, held.1))
within_holds (range.V4 start end) (range.V6 from to) a within held = absurd within
within_holds (range.V6 start end) (range.V4 from to) a within held = absurd within
within_holds (range.V4 start end) (range.V4 from to) (address.V6 number) within held = absurd held
within_holds (range.V6 start end) (range.V6 from to) (address.V4 number) within held = absurd held

-- two ranges that lie in one another are one
pub same_range : (r q : Range) → LiesWithin r q → LiesWithin q r → r ≡ q
same_range (range.V4 start end) (range.V4 from to) one other =
    let starts : start ≡ from = omega (arith, one.0, other.0) in
    let ends : end ≡ to = omega (arith, one.1, other.1) in
    λ i. range.V4 (starts i) (ends i)
same_range (range.V4 start end) (range.V6 from to) one other = absurd one
same_range (range.V6 start end) (range.V4 from to) one other = absurd one
same_range (range.V6 start end) (range.V6 from to) one other =
    let starts : start ≡ from = omega (arith, one.0, other.0) in
    let ends : end ≡ to = omega (arith, one.1, other.1) in
    λ i. range.V6 (starts i) (ends i)

-- an address that is held is of the range's family
pub family_held : (r : Range) (a : Address) → HoldsAddress r a → family_of_range r ≡ family_of a
family_held (range.V4 start end) (address.V4 number) held = refl
family_held (range.V4 start end) (address.V6 number) held = absurd held
family_held (range.V6 start end) (address.V4 number) held = absurd held
family_held (range.V6 start end) (address.V6 number) held = refl
