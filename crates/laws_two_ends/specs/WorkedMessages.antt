-- The messages of the worked world, as payloads and as octets (RFC 7296 sections 1.3.1, 1.4 and 3.1 to
-- 3.14): the two of number 1, the two of CREATE_CHILD_SA by which the worked Child SA is made, and the two of
-- the probe. The cipher hides nothing, so the octets of the payloads are the body.
use Rattle.std.specs.Prelude.{◌++◌, ◌∷◌, ℕ, false, [], replicate}
use Rattle.base.specs.Octets.{Octets}
use Rattle.wire.specs.declared.proposal.Proposal.{Proposal}
use Rattle.suite.specs.Offers.{offer_of}
use Rattle.suite.specs.declared.choice.Wanted.TheVariants.{Esp}

-- the octets of the SPI 256 * k
abbrev pub spi_octets : ℕ → Octets
spi_octets k = 0 ∷ 0 ∷ k ∷ 0 ∷ []

-- a nonce of the shortest length, filled with one octet
abbrev pub nonce_of : ℕ → Octets
nonce_of filling = replicate 16 filling

-- one proposal for ESP, which names the SPI
abbrev pub proposal_of : ℕ → Proposal
proposal_of k = offer_of (Esp false) (spi_octets k)

-- a message of this exchange with these flags and this number: the SPIs, an encrypted payload first,
-- version 2.0
abbrev pub header_octets : ℕ → ℕ → ℕ → Octets
header_octets exchange flags number =
    0 ∷ 0 ∷ 0 ∷ 0 ∷ 0 ∷ 0 ∷ 0 ∷ 1 ∷ 0 ∷ 0 ∷ 0 ∷ 0 ∷ 0 ∷ 0 ∷ 0 ∷ 2 ∷ 46 ∷ 0x20 ∷ exchange ∷ flags ∷ 0 ∷ 0 ∷ 0 ∷ number ∷ []

-- with nothing in its encrypted payload
abbrev pub bare_octets : ℕ → ℕ → ℕ → Octets
bare_octets exchange flags number = header_octets exchange flags number ++ (0 ∷ 0 ∷ 0 ∷ 32 ∷ 0 ∷ 0 ∷ 0 ∷ 4 ∷ [])

-- what A asks last, whether B is there, and what B answers: INFORMATIONAL of number 3 without payloads
-- (section 1.4)
abbrev pub probe_octets : Octets
probe_octets = bare_octets 37 0x08 3

abbrev pub alive_octets : Octets
alive_octets = bare_octets 37 0x20 3
