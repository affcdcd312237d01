-- The layout of an ESP packet and its ICV (RFC 4303 section 2), with NULL encryption (RFC 2410) and
-- HMAC-SHA-256-128 (RFC 4868).
use Rattle.std.specs.Prelude.{◌≡◌, ℕ, zero, suc, ◌+◌, ◌/◌, ◌%◌, ◌^◌, ◌<◌, ◌≤◌, Bool, if◌then◌else◌, List, [], ◌∷◌, ◌++◌, length, take}
use Rattle.std.specs.List.{flat_map}
use Rattle.std.specs.Borrow.{Bor}
use Rattle.byteorder.specs.Endian.{big_bytes}
use Rattle.mac.specs.Hmac.{icv_sha256}
use Rattle.esp.specs.declared.sa.Sa.{Sa}

-- several runs of octets, one after the other
abbrev pub joined_parts : List (Bor (List ℕ)) → List ℕ
joined_parts parts = flat_map (λ part. part.now) parts

-- every sequence number lies below this
abbrev pub number_limit : Bool → ℕ
number_limit extended = if extended then 2 ^ 64 else 2 ^ 32

-- the half of a sequence number that is covered and not sent, where ESN is used (section 2.2.1)
abbrev pub unsent_half : Bool → ℕ → List ℕ
unsent_half extended n = if extended then big_bytes 4 (n / 2 ^ 32) else []

-- the ICV of the packet with this sequence number over these octets, SPI through next header (section 2.8)
abbrev pub check_value : Sa → ℕ → List ℕ → List ℕ
check_value a n octets = icv_sha256 a.key (octets ++ unsent_half a.extended n)

-- the octets that begin a packet: the SPI and the low half of the sequence number (sections 2.1 and 2.2)
abbrev pub head : Sa → ℕ → List ℕ
head a n = big_bytes 4 a.spi ++ big_bytes 4 (n % 2 ^ 32)

-- the octets 1, 2, .., p (section 2.4)
abbrev pub padding : ℕ → List ℕ
padding zero = []
padding (suc p) = padding p ++ suc p ∷ []

-- what follows the payload: padding, its length and the next header (sections 2.4 to 2.6)
abbrev pub trailer : ℕ → ℕ → List ℕ
trailer p next = padding p ++ p ∷ next ∷ []

-- the packet with sequence number n that carries the payload under this next header, with p octets of padding
abbrev pub packet : Sa → ℕ → ℕ → List ℕ → ℕ → List ℕ
packet a n next payload p =
    let covered = head a n ++ payload ++ trailer p next in
    covered ++ check_value a n covered

-- b is such a packet: whole words, with padding whose length one octet tells, and a sequence number of the SA
pub record IsPacket (a : Sa) (n next : ℕ) (payload : List ℕ) (p : ℕ) (b : List ℕ) : Type 0 where
  pub octets : b ≡ packet a n next payload p
  pub aligned : (length payload + p + 2) % 4 ≡ 0
  pub one_octet : p < 256
  pub fits : n < number_limit a.extended

-- the packet is addressed to this SA: its first four octets, where there are four, are the SPI
abbrev pub BeginsWithItsSpi : Sa → List ℕ → Type 0
BeginsWithItsSpi a b = 4 ≤ length b → take 4 b ≡ big_bytes 4 a.spi

-- b passes the integrity check under the sequence number n (section 3.4.4): it begins with the SPI and the
-- number's low half, and its last 16 octets are the ICV over the rest. What else it holds is free.
pub record PassesIntegrity (a : Sa) (n : ℕ) (b : List ℕ) : Type 0 where
  pub rest : List ℕ
  pub check : List ℕ
  pub octets : b ≡ rest ++ check
  pub sixteen : length check ≡ 16
  pub begins : take 8 rest ≡ head a n
  pub fits : n < number_limit a.extended
  pub right : check ≡ check_value a n rest

-- what a packet carries: its octets are eight of head, the payload, a trailer that is padded 1, 2, .., p, and
-- the ICV
pub record IsContents (b : List ℕ) (next : ℕ) (payload : List ℕ) : Type 0 where
  pub front : List ℕ
  pub p : ℕ
  pub check : List ℕ
  pub octets : b ≡ front ++ payload ++ trailer p next ++ check
  pub eight : length front ≡ 8
  pub sixteen : length check ≡ 16
