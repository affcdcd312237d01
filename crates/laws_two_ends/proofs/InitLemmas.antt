-- The two messages of the worked IKE_SA_INIT (RFC 7296 sections 1.2 and 3.1 to 3.9), as payloads and as
-- octets, and that these spell those.
use Rattle.std.proofs.Common.{◌≡◌, ◌<◌, ◌++◌, ◌∷◌, ℕ, List, [], ap, arith, refl}
use Rattle.std.specs.Prelude.{None, false, replicate, true}
use Rattle.byteorder.specs.Endian.{big_bytes}
use Rattle.base.specs.Octets.{AreOctets, IsOctet, Octets}
use Rattle.wire.specs.Messages.{Spells, SpellsHeader, SpellsPlainly, SpellsWith}
use Rattle.wire.specs.Parts.{IsMarked, IsZero}
use Rattle.wire.specs.Payloads.{SpellsPayload, SpellsPayloads}
use Rattle.wire.specs.Proposals.{SpellsProposal, SpellsTransform}
use Rattle.wire.specs.declared.message.Header.{Header}
use Rattle.wire.specs.declared.message.Message.{Message}
use Rattle.wire.specs.declared.payload.Payload.{Payload}
use Rattle.wire.specs.declared.payload.Payload.TheVariants.{Ke, Nonce, Sa}
use Rattle.wire.specs.declared.proposal.Proposal.{Proposal}
use Rattle.suite.specs.Choice.{without_attributes}
use Rattle.suite.specs.Offers.{offer_of}
use Rattle.exchange.specs.Headers.{sent_header}
use Rattle.exchange.specs.declared.headers.Role.TheVariants.{Initiator, Responder}
use Rattle.sa_init.specs.Messages.{agreeing_payloads, answer_message, ike_wanted, request_message}
use Rattle.laws_two_ends.specs.WorkedRecords.{answering_fresh, beginning_fresh, worked_asker}
use Rattle.laws_two_ends.proofs.OctetLemmas.{octets_if}

-- ---- the octets

-- the SPIs, SA first, version 2.0, the exchange, the flags, the number 0
abbrev pub init_header : ℕ → ℕ → Octets
init_header spi_r flags = 0 ∷ 0 ∷ 0 ∷ 0 ∷ 0 ∷ 0 ∷ 0 ∷ 1 ∷ 0 ∷ 0 ∷ 0 ∷ 0 ∷ 0 ∷ 0 ∷ 0 ∷ spi_r ∷ 33 ∷ 0x20 ∷ 34 ∷ flags ∷ 0 ∷ 0 ∷ 0 ∷ 0 ∷ []

-- the transforms: NULL, the pseudorandom function and HMAC-SHA-256-128, the group
abbrev transform_octets : Octets
transform_octets =
    3 ∷ 0 ∷ 0 ∷ 8 ∷ 1 ∷ 0 ∷ 0 ∷ 11 ∷ 3 ∷ 0 ∷ 0 ∷ 8 ∷ 2 ∷ 0 ∷ 0 ∷ 5 ∷ 3 ∷ 0 ∷ 0 ∷ 8 ∷ 3 ∷ 0 ∷ 0 ∷ 12 ∷ 0 ∷ 0 ∷ 0 ∷ 8 ∷ 4 ∷ 0 ∷ 0 ∷ 1 ∷ []

-- the one proposal, of number 1, for IKE, without an SPI
abbrev proposal_octets : Octets
proposal_octets = 1 ∷ 1 ∷ 0 ∷ 4 ∷ transform_octets

-- of the payload SA, KE behind it
abbrev sa_octets : Octets
sa_octets = 34 ∷ 0 ∷ 0 ∷ 44 ∷ 0 ∷ 0 ∷ 0 ∷ 40 ∷ proposal_octets

-- of KE, the nonce behind it, with a value of 32 octets that are all one
abbrev ke_octets : ℕ → Octets
ke_octets value = 40 ∷ 0 ∷ 0 ∷ 40 ∷ 0 ∷ 1 ∷ 0 ∷ 0 ∷ replicate 32 value

abbrev nonce_octets : ℕ → Octets
nonce_octets nonce = 0 ∷ 0 ∷ 0 ∷ 36 ∷ replicate 32 nonce

abbrev agreeing_octets : ℕ → ℕ → Octets
agreeing_octets value nonce = sa_octets ++ (ke_octets value ++ nonce_octets nonce)

abbrev init_octets : ℕ → ℕ → ℕ → ℕ → Octets
init_octets spi_r flags value nonce = init_header spi_r flags ++ (0 ∷ 0 ∷ 0 ∷ 148 ∷ agreeing_octets value nonce)

abbrev pub request_octets : Octets
request_octets = init_octets 0 0x08 17 1

abbrev pub answer_octets : Octets
answer_octets = init_octets 2 0x20 18 2

-- ---- the messages

abbrev pub init_proposal : Proposal
init_proposal = offer_of (ike_wanted worked_asker.cipher worked_asker.group) []

abbrev payloads_of : ℕ → ℕ → List Payload
payloads_of value nonce = agreeing_payloads init_proposal worked_asker.group (replicate 32 value) (replicate 32 nonce)

abbrev pub asked_message : Message
asked_message = request_message worked_asker.cipher worked_asker.group (worked_asker.public_value beginning_fresh.secret) beginning_fresh.spi None beginning_fresh.nonce

abbrev pub answered_message : Message
answered_message =
    answer_message worked_asker.cipher worked_asker.group (worked_asker.public_value answering_fresh.secret) (record { place = 0; number = 1; extended = false })
    answering_fresh.nonce beginning_fresh.spi answering_fresh.spi

-- ---- the octets spell the messages, with whatever may stand in reserved octets

module _ (Free : ℕ → Type 0) (free : Free 0) where
  pub transform_is : (mark kind id : ℕ) → 0 ∷ id ∷ [] ≡ big_bytes 2 id → id < 256 → IsMarked Free mark (SpellsTransform Free (without_attributes kind id)) (mark ∷ 0 ∷ 0 ∷ 8 ∷ kind ∷ 0 ∷ 0 ∷ id ∷ [])
  transform_is mark kind id spelled small = record {
    reserved = 0;
    inside = kind ∷ 0 ∷ 0 ∷ id ∷ [];
    free = free;
    part = record { spelled = refl; fits = omega arith };
    content = record {
      reserved = 0;
      attributes = [];
      free = free;
      spelled = ap (λ (os : Octets). kind ∷ 0 ∷ (os ++ [])) spelled;
      id = omega (arith, small);
      each = refl;
    };
  }

  proposal_is : SpellsProposal Free init_proposal proposal_octets
  proposal_is = record {
    transforms = transform_octets;
    spelled = refl;
    spi = omega arith;
    count = omega arith;
    each = record {
      front = 3 ∷ 0 ∷ 0 ∷ 8 ∷ 1 ∷ 0 ∷ 0 ∷ 11 ∷ [];
      rest = 3 ∷ 0 ∷ 0 ∷ 8 ∷ 2 ∷ 0 ∷ 0 ∷ 5 ∷ 3 ∷ 0 ∷ 0 ∷ 8 ∷ 3 ∷ 0 ∷ 0 ∷ 12 ∷ 0 ∷ 0 ∷ 0 ∷ 8 ∷ 4 ∷ 0 ∷ 0 ∷ 1 ∷ [];
      joined = refl;
      first = transform_is 3 1 11 refl (omega arith);
      others = record {
        front = 3 ∷ 0 ∷ 0 ∷ 8 ∷ 2 ∷ 0 ∷ 0 ∷ 5 ∷ [];
        rest = 3 ∷ 0 ∷ 0 ∷ 8 ∷ 3 ∷ 0 ∷ 0 ∷ 12 ∷ 0 ∷ 0 ∷ 0 ∷ 8 ∷ 4 ∷ 0 ∷ 0 ∷ 1 ∷ [];
        joined = refl;
        first = transform_is 3 2 5 refl (omega arith);
        others = record {
          front = 3 ∷ 0 ∷ 0 ∷ 8 ∷ 3 ∷ 0 ∷ 0 ∷ 12 ∷ [];
          rest = 0 ∷ 0 ∷ 0 ∷ 8 ∷ 4 ∷ 0 ∷ 0 ∷ 1 ∷ [];
          joined = refl;
          first = transform_is 3 3 12 refl (omega arith);
          others = transform_is 0 4 1 refl (omega arith);
        };
      };
    };
  }

  sa_is : SpellsPayload Free (Sa (init_proposal ∷ [])) 34 sa_octets
  sa_is = record {
    second = 0;
    body = 0 ∷ 0 ∷ 0 ∷ 40 ∷ proposal_octets;
    part = record { spelled = refl; fits = omega arith };
    header = free;
    inside = record {
      each = record { reserved = 0; inside = proposal_octets; free = free; part = record { spelled = refl; fits = omega arith }; content = proposal_is };
      numbered = omega arith;
    };
  }

  ke_is : (value : ℕ) → SpellsPayload Free (Ke worked_asker.group (replicate 32 value)) 40 (ke_octets value)
  ke_is value = record {
    second = 0;
    body = 0 ∷ 1 ∷ 0 ∷ 0 ∷ replicate 32 value;
    part = record { spelled = refl; fits = omega arith };
    header = free;
    inside = record { reserved_1 = 0; reserved_2 = 0; free = (free, free); spelled = refl; group_fits = omega arith; some = omega arith; few = omega arith };
  }

  nonce_is : (nonce : ℕ) → SpellsPayload Free (Nonce (replicate 32 nonce)) 0 (nonce_octets nonce)
  nonce_is nonce = record {
    second = 0;
    body = replicate 32 nonce;
    part = record { spelled = refl; fits = omega arith };
    header = free;
    inside = record { spelled = refl; some = omega arith; few = omega arith };
  }

  chain_is : (value nonce : ℕ) → SpellsPayloads Free 33 (payloads_of value nonce) (agreeing_octets value nonce)
  chain_is value nonce = (
    refl,
    34,
    record {
      front = sa_octets;
      rest = ke_octets value ++ nonce_octets nonce;
      joined = refl;
      first = sa_is;
      others = (
        refl,
        40,
        record {
          front = ke_octets value;
          rest = nonce_octets nonce;
          joined = refl;
          first = ke_is value;
          others = (refl, 0, record { front = nonce_octets nonce; rest = []; joined = refl; first = nonce_is nonce; others = (refl, refl) });
        },
      );
    },
  )

  message_is : (spi_r flags value nonce : ℕ) (h : Header) → SpellsHeader Free h 33 (init_header spi_r flags) → AreOctets (init_octets spi_r flags value nonce)
      → SpellsWith Free (record { header = h; payloads = payloads_of value nonce }) (init_octets spi_r flags value nonce)
  message_is spi_r flags value nonce h head octets = record {
    first = 33;
    header = init_header spi_r flags;
    payloads = agreeing_octets value nonce;
    whole = refl;
    head = head;
    chain = chain_is value nonce;
    limit = omega arith;
    octets = octets;
  }

  request_header_is : SpellsHeader Free (sent_header 1 0 34 Initiator false 0) 33 (init_header 0 0x08)
  request_header_is = record {
    flags = 8;
    has_flags = record { low = 0; high = 0; value = refl; low_bits = omega arith; high_bits = omega arith; free = (free, free) };
    spelled = refl;
    spi_i = omega arith;
    spi_r = omega arith;
    minor = omega arith;
    id = omega arith;
  }

  answer_header_is : SpellsHeader Free (sent_header 1 2 34 Responder true 0) 33 (init_header 2 0x20)
  answer_header_is = record {
    flags = 32;
    has_flags = record { low = 0; high = 0; value = refl; low_bits = omega arith; high_bits = omega arith; free = (free, free) };
    spelled = refl;
    spi_i = omega arith;
    spi_r = omega arith;
    minor = omega arith;
    id = omega arith;
  }

  request_is : SpellsWith Free asked_message request_octets
  request_is = message_is 0 0x08 17 1 (sent_header 1 0 34 Initiator false 0) request_header_is (octets_if request_octets refl)

  answer_is : SpellsWith Free answered_message answer_octets
  answer_is = message_is 2 0x20 18 2 (sent_header 1 2 34 Responder true 0) answer_header_is (octets_if answer_octets refl)

pub request_sent : SpellsPlainly asked_message request_octets
request_sent = request_is IsZero refl

pub request_read : Spells asked_message request_octets
request_read = request_is IsOctet (omega arith)

pub answer_sent : SpellsPlainly answered_message answer_octets
answer_sent = answer_is IsZero refl

pub answer_read : Spells answered_message answer_octets
answer_read = answer_is IsOctet (omega arith)
