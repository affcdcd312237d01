-- The messages of CREATE_CHILD_SA in the worked run (RFC 7296 sections 1.3.1 and 3.1 to 3.14): how they are
-- spelled, sealed and read. The cipher hides nothing, so the octets of the payloads are the body.
use Rattle.std.proofs.Common.{◌++◌, ◌∷◌, ℕ, false, true, List, [], arith, refl}
use Rattle.std.specs.List.{AllByRecursion}
use Rattle.std.specs.Prelude.{replicate}
use Rattle.base.specs.Octets.{IsOctet, Octets}
use Rattle.wire.specs.Messages.{Spells, SpellsWith}
use Rattle.wire.specs.Parts.{IsZero}
use Rattle.wire.specs.Payloads.{IsClear, SpellsChain, SpellsPayload, SpellsPayloads}
use Rattle.wire.specs.Proposals.{SpellsProposal}
use Rattle.wire.specs.declared.message.Message.{Message}
use Rattle.wire.specs.declared.payload.Payload.{Payload}
use Rattle.wire.specs.declared.payload.Payload.TheVariants.{Nonce, Sa, Sealed}
use Rattle.wire.specs.declared.proposal.Proposal.{Proposal}
use Rattle.suite.specs.Offers.{offer_of}
use Rattle.suite.specs.declared.choice.Wanted.TheVariants.{Esp}
use Rattle.suite.specs.declared.keys.Keys.{Keys}
use Rattle.exchange.specs.Headers.{sent_header}
use Rattle.exchange.specs.Sealed.{IsSealed}
use Rattle.exchange.specs.declared.headers.Role.TheVariants.{Initiator, Responder}
use Rattle.further.specs.Payloads.{further_payloads}
use Rattle.deliveries.specs.Worked.{any_traffic}
use Rattle.laws_two_ends.specs.WorkedMessages.{header_octets}
use Rattle.laws_two_ends.specs.WorkedRuns.{run_meaning}
use Rattle.laws_two_ends.proofs.InitLemmas.{transform_is}
use Rattle.laws_two_ends.proofs.OctetLemmas.{octets_if}
use Rattle.laws_two_ends.proofs.SealedLemmas.{answering_header_is, asking_header_is, sealed_is, traffic_is, traffic_octets}

-- ---- the octets

-- of the second SPI that an end gave: 257 is A's, by 1, and 513 is B's, by 2
abbrev pub spi_octets : ℕ → Octets
spi_octets half = 0 ∷ 0 ∷ half ∷ 1 ∷ []

abbrev pub proposal_of : ℕ → Proposal
proposal_of half = offer_of (Esp false) (spi_octets half)

-- the nonce of the step of this number
abbrev pub nonce_of : ℕ → Octets
nonce_of number = replicate 32 number

abbrev pub payloads_of : ℕ → ℕ → List Payload
payloads_of half number = further_payloads (record { proposals = proposal_of half ∷ []; ts_i = any_traffic; ts_r = any_traffic }) (nonce_of number)

-- no encryption, HMAC-SHA-256-128, sequence numbers that are not extended
abbrev transform_octets : Octets
transform_octets = 3 ∷ 0 ∷ 0 ∷ 8 ∷ 1 ∷ 0 ∷ 0 ∷ 11 ∷ 3 ∷ 0 ∷ 0 ∷ 8 ∷ 3 ∷ 0 ∷ 0 ∷ 12 ∷ 0 ∷ 0 ∷ 0 ∷ 8 ∷ 5 ∷ 0 ∷ 0 ∷ 0 ∷ []

-- the one proposal, of number 1, for ESP, with an SPI of four octets
abbrev proposal_octets : ℕ → Octets
proposal_octets half = 1 ∷ 3 ∷ 4 ∷ 3 ∷ 0 ∷ 0 ∷ half ∷ 1 ∷ transform_octets

-- of the payload SA, with the nonce behind it
abbrev sa_octets : ℕ → Octets
sa_octets half = 40 ∷ 0 ∷ 0 ∷ 40 ∷ 0 ∷ 0 ∷ 0 ∷ 36 ∷ proposal_octets half

-- of the nonce, with TSi behind it
abbrev nonce_octets : ℕ → Octets
nonce_octets number = 44 ∷ 0 ∷ 0 ∷ 36 ∷ nonce_of number

abbrev pub plain_octets : ℕ → ℕ → Octets
plain_octets half number = sa_octets half ++ (nonce_octets number ++ traffic_octets)

-- with the header of the encrypted payload
abbrev encrypted_octets : ℕ → ℕ → Octets
encrypted_octets half number = 33 ∷ 0 ∷ 0 ∷ 128 ∷ plain_octets half number

-- the whole message, of number 4
abbrev pub message_octets : ℕ → ℕ → ℕ → Octets
message_octets flags half number = header_octets 36 flags 4 ++ (0 ∷ 0 ∷ 0 ∷ 156 ∷ encrypted_octets half number)

-- what A asks by, and what B answers by
abbrev pub asking_payloads : List Payload
asking_payloads = payloads_of 1 13

abbrev pub asking_octets : Octets
asking_octets = message_octets 0x08 1 13

abbrev pub answering_payloads : List Payload
answering_payloads = payloads_of 2 14

abbrev pub answering_octets : Octets
answering_octets = message_octets 0x20 2 14

abbrev pub asked : Message
asked = record { header = sent_header 1 2 36 Initiator false 4; payloads = Sealed 33 (plain_octets 1 13) ∷ [] }

abbrev pub answered : Message
answered = record { header = sent_header 1 2 36 Responder true 4; payloads = Sealed 33 (plain_octets 2 14) ∷ [] }

-- ---- they spell what is said, with whatever may stand in reserved octets

module _ (Free : ℕ → Type 0) (free : Free 0) where
  proposal_is : (half : ℕ) → SpellsProposal Free (proposal_of half) (proposal_octets half)
  proposal_is half = record {
    transforms = transform_octets;
    spelled = refl;
    spi = omega arith;
    count = omega arith;
    each = record {
      front = 3 ∷ 0 ∷ 0 ∷ 8 ∷ 1 ∷ 0 ∷ 0 ∷ 11 ∷ [];
      rest = 3 ∷ 0 ∷ 0 ∷ 8 ∷ 3 ∷ 0 ∷ 0 ∷ 12 ∷ 0 ∷ 0 ∷ 0 ∷ 8 ∷ 5 ∷ 0 ∷ 0 ∷ 0 ∷ [];
      joined = refl;
      first = transform_is Free free 3 1 11 refl (omega arith);
      others = record {
        front = 3 ∷ 0 ∷ 0 ∷ 8 ∷ 3 ∷ 0 ∷ 0 ∷ 12 ∷ [];
        rest = 0 ∷ 0 ∷ 0 ∷ 8 ∷ 5 ∷ 0 ∷ 0 ∷ 0 ∷ [];
        joined = refl;
        first = transform_is Free free 3 3 12 refl (omega arith);
        others = transform_is Free free 0 5 0 refl (omega arith);
      };
    };
  }

  sa_is : (half : ℕ) → SpellsPayload Free (Sa (proposal_of half ∷ [])) 40 (sa_octets half)
  sa_is half = record {
    second = 0;
    body = 0 ∷ 0 ∷ 0 ∷ 36 ∷ proposal_octets half;
    part = record { spelled = refl; fits = omega arith };
    header = free;
    inside = record {
      each = record { reserved = 0; inside = proposal_octets half; free = free; part = record { spelled = refl; fits = omega arith }; content = proposal_is half };
      numbered = omega arith;
    };
  }

  nonce_is : (number : ℕ) → SpellsPayload Free (Nonce (nonce_of number)) 44 (nonce_octets number)
  nonce_is number = record {
    second = 0;
    body = nonce_of number;
    part = record { spelled = refl; fits = omega arith };
    header = free;
    inside = record { spelled = refl; some = omega arith; few = omega arith };
  }

  chain_is : (half number : ℕ) → SpellsPayloads Free 33 (payloads_of half number) (plain_octets half number)
  chain_is half number = (
    refl,
    40,
    record {
      front = sa_octets half;
      rest = nonce_octets number ++ traffic_octets;
      joined = refl;
      first = sa_is half;
      others = (refl, 44, record { front = nonce_octets number; rest = traffic_octets; joined = refl; first = nonce_is number; others = traffic_is Free free });
    },
  )

  asking_is : SpellsWith Free asked asking_octets
  asking_is =
      sealed_is Free free 33 (header_octets 36 0x08 4) (plain_octets 1 13) (encrypted_octets 1 13) asking_octets asked.header
      (asking_header_is Free free 36 4 refl (omega arith)) (record { spelled = refl; fits = omega arith }) refl (omega arith) (octets_if asking_octets refl)

  answering_is : SpellsWith Free answered answering_octets
  answering_is =
      sealed_is Free free 33 (header_octets 36 0x20 4) (plain_octets 2 14) (encrypted_octets 2 14) answering_octets answered.header
      (answering_header_is Free free 36 4 refl (omega arith)) (record { spelled = refl; fits = omega arith }) refl (omega arith) (octets_if answering_octets refl)

-- ---- sealed, and read

pub clear : (half number : ℕ) → AllByRecursion IsClear (payloads_of half number)
clear half number =
    (λ is. absurd (omega (arith, is)), (λ is. absurd (omega (arith, is)), (λ is. absurd (omega (arith, is)), (λ is. absurd (omega (arith, is)), tt))))

pub asking_sealed : (keys : Keys) (fresh : Octets)
    → IsSealed run_meaning.body_of keys fresh (record { header = asked.header; payloads = asking_payloads }) asking_octets
asking_sealed keys fresh = record {
  first = 33;
  plain = plain_octets 1 13;
  spelled = chain_is IsZero refl 1 13;
  octets = octets_if (plain_octets 1 13) refl;
  whole = asking_is IsZero refl;
}

pub asking_spelled : Spells asked asking_octets
asking_spelled = asking_is IsOctet (omega arith)

pub asking_read : SpellsChain 33 asking_payloads (plain_octets 1 13)
asking_read = record { clear = clear 1 13; payloads = chain_is IsOctet (omega arith) 1 13; octets = octets_if (plain_octets 1 13) refl }

pub answering_sealed : (keys : Keys) (fresh : Octets)
    → IsSealed run_meaning.body_of keys fresh (record { header = answered.header; payloads = answering_payloads }) answering_octets
answering_sealed keys fresh = record {
  first = 33;
  plain = plain_octets 2 14;
  spelled = chain_is IsZero refl 2 14;
  octets = octets_if (plain_octets 2 14) refl;
  whole = answering_is IsZero refl;
}

pub answering_spelled : Spells answered answering_octets
answering_spelled = answering_is IsOctet (omega arith)

pub answering_read : SpellsChain 33 answering_payloads (plain_octets 2 14)
answering_read = record { clear = clear 2 14; payloads = chain_is IsOctet (omega arith) 2 14; octets = octets_if (plain_octets 2 14) refl }
