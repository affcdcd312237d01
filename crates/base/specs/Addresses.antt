-- Ranges of addresses (RFC 4301 section 4.4.1.1). No address of one family is in a range of the other.
use Rattle.std.specs.Prelude.{◌≡◌, ◌≢◌, ◌<◌, ◌≤◌, ◌-◌, ◌/◌, ◌%◌, ◌^◌, ◌↔◌, ℕ}
use Rattle.base.specs.declared.address.Address.{Address}
use Rattle.base.specs.declared.address.Address.TheVariants as address
use Rattle.base.specs.declared.address.Family.{Family}
use Rattle.base.specs.declared.address.Family.TheVariants as family
use Rattle.base.specs.declared.address.PrefixFault.{PrefixFault}
use Rattle.base.specs.declared.address.PrefixFault.TheVariants as fault
use Rattle.base.specs.declared.address.Range.{Range}
use Rattle.base.specs.declared.address.Range.TheVariants as range

abbrev pub family_of : Address → Family
family_of (address.V4 number) = family.V4
family_of (address.V6 number) = family.V6

abbrev pub family_of_range : Range → Family
family_of_range (range.V4 start end) = family.V4
family_of_range (range.V6 start end) = family.V6

-- the numbers are those that its family's addresses can have: 32 bits (RFC 791), or 128 (RFC 4291)
abbrev pub IsAddress : Address → Type 0
IsAddress (address.V4 number) = number < 2 ^ 32
IsAddress (address.V6 number) = number < 2 ^ 128

abbrev pub FitsRange : Range → Type 0
FitsRange (range.V4 start end) = (start < 2 ^ 32) × (end < 2 ^ 32)
FitsRange (range.V6 start end) = (start < 2 ^ 128) × (end < 2 ^ 128)

-- the end is not below the start
abbrev pub IsOrdered : Range → Type 0
IsOrdered (range.V4 start end) = start ≤ end
IsOrdered (range.V6 start end) = start ≤ end

abbrev pub HoldsAddress : Range → Address → Type 0
HoldsAddress (range.V4 start end) (address.V4 number) = (start ≤ number) × (number ≤ end)
HoldsAddress (range.V4 start end) (address.V6 number) = ⊥
HoldsAddress (range.V6 start end) (address.V4 number) = ⊥
HoldsAddress (range.V6 start end) (address.V6 number) = (start ≤ number) × (number ≤ end)

-- both ends of a range lie between those of another one of its family
abbrev pub LiesWithin : Range → Range → Type 0
LiesWithin (range.V4 start end) (range.V4 from to) = (from ≤ start) × (end ≤ to)
LiesWithin (range.V4 start end) (range.V6 from to) = ⊥
LiesWithin (range.V6 start end) (range.V4 from to) = ⊥
LiesWithin (range.V6 start end) (range.V6 from to) = (from ≤ start) × (end ≤ to)

-- no address lies in both
abbrev pub AreApart : Range → Range → Type 0
AreApart one other = (a : Address) → HoldsAddress one a → ¬ HoldsAddress other a

-- exactly the addresses that lie in both, and there are some
pub record IsCommonRange (one other common : Range) : Type 0 where
  pub addresses : (a : Address) → HoldsAddress common a ↔ (HoldsAddress one a × HoldsAddress other a)
  pub ordered : IsOrdered common
  pub fits : FitsRange common

-- the range of one address
abbrev pub only_range : Address → Range
only_range (address.V4 number) = range.V4 number number
only_range (address.V6 number) = range.V6 number number

-- all addresses of a family
abbrev pub whole_range : Family → Range
whole_range family.V4 = range.V4 0 (2 ^ 32 - 1)
whole_range family.V6 = range.V6 0 (2 ^ 128 - 1)

-- how many bits an address of its family has
abbrev pub width_of : Address → ℕ
width_of (address.V4 number) = 32
width_of (address.V6 number) = 128

-- the number that the bits of an address behind its first ones spell
abbrev pub host_part : Address → ℕ → ℕ
host_part (address.V4 number) length = number % 2 ^ (32 - length)
host_part (address.V6 number) length = number % 2 ^ (128 - length)

-- the other address is of the same family and begins with the same bits, as many as the length says: the
-- numbers that they spell are those of the addresses, divided by two to the power of how many bits follow
abbrev pub HasPrefix : Address → ℕ → Address → Type 0
HasPrefix (address.V4 start) length (address.V4 number) = number / 2 ^ (32 - length) ≡ start / 2 ^ (32 - length)
HasPrefix (address.V4 start) length (address.V6 number) = ⊥
HasPrefix (address.V6 start) length (address.V4 number) = ⊥
HasPrefix (address.V6 start) length (address.V6 number) = number / 2 ^ (128 - length) ≡ start / 2 ^ (128 - length)

-- exactly the addresses that begin with a prefix (RFC 4632 section 3.1; RFC 4291 section 2.3)
pub record IsPrefix (start : Address) (length : ℕ) (prefix : Range) : Type 0 where
  pub addresses : (a : Address) → HoldsAddress prefix a ↔ HasPrefix start length a
  pub ordered : IsOrdered prefix
  pub fits : FitsRange prefix

-- the length is one of the family, and no bit behind the prefix is set
abbrev pub IsWellFormedPrefix : Address → ℕ → Type 0
IsWellFormedPrefix start length = (length ≤ width_of start) × (host_part start length ≡ 0)

abbrev pub IsPrefixFault : Address → ℕ → PrefixFault → Type 0
IsPrefixFault start length fault.Length = width_of start < length
IsPrefixFault start length fault.Host = (length ≤ width_of start) × (host_part start length ≢ 0)
