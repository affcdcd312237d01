-- Key agreement in the 2048-bit MODP group (RFC 3526, section 3; RFC 7296, sections 2.14 and 3.4).
use Rattle.std.specs.Prelude.{◌≡◌, ◌≤◌, ◌<◌, ◌+◌, ◌%◌, ◌^◌, ℕ, Option, Some, None, List, length, if◌then◌else◌}
use Rattle.base.specs.Octets.{AreOctets}
use Rattle.modp.specs.Number.{octets_number, number_octets}
use Rattle.modp.specs.Group.{element_of, generator, is_trivial, power, prime}

abbrev pub group_14 : ℕ
group_14 = 14

-- g, whose powers are public values
abbrev pub base : ℕ
base = generator

-- g^x, in as many octets as the prime has
unfoldable pub public_of : List ℕ → List ℕ
public_of secret = number_octets 256 (power base (octets_number secret))

-- g^xy likewise, but for 0, 1 and the prime less 1, which are refused: so all powers of the public values
-- are that RFC 6989 section 2.1 refuses
unfoldable pub secret_of : ℕ → Option (List ℕ)
secret_of element = if is_trivial element then None else Some (number_octets 256 element)

unfoldable pub shared_by : Option ℕ → ℕ → Option (List ℕ)
shared_by None exponent = None
shared_by (Some other) exponent = secret_of (power other exponent)

-- with the owner of a public value, where that is 256 octets that spell a number below the prime
unfoldable pub shared_of : List ℕ → List ℕ → Option (List ℕ)
shared_of secret other = shared_by (element_of other) (octets_number secret)

-- the public value is 256 octets that spell a number below the prime, and what is shared are the 256 octets
-- that spell its power by the secret, a number from 2 to the prime less 2 (RFC 6989, section 2.1)
pub record IsSharedBy (secret other shared : List ℕ) : Type 0 where
  pub other_long : length other ≡ 256
  pub element : octets_number other < prime
  pub power : ℕ
  pub is : power ≡ octets_number other ^ octets_number secret % prime
  pub from_two : 2 ≤ power
  pub below_last : power + 2 ≤ prime
  pub shared_long : length shared ≡ 256
  pub shared_octets : AreOctets shared
  pub spelt : octets_number shared ≡ power
