-- How the worked messages of one encrypted payload are spelled (RFC 7296 sections 3.1 to 3.14), and in it
-- what an end says of the Child SA: its proposal, and all traffic. Free tells what may stand in reserved
-- octets. The cipher hides nothing, so the octets of the payloads are the body.
use Rattle.std.proofs.Common.{◌≡◌, ◌<◌, ◌≤◌, ◌^◌, ◌++◌, ◌∷◌, ℕ, false, true, [], length, ap, arith, refl, sym}
use Rattle.std.proofs.lemmas.List.{append-nil}
use Rattle.byteorder.specs.Endian.{big_bytes}
use Rattle.base.specs.Octets.{AreOctets, Octets}
use Rattle.wire.specs.Messages.{SpellsHeader, SpellsWith}
use Rattle.wire.specs.Numbers.{MESSAGE_LIMIT}
use Rattle.wire.specs.Parts.{IsPart}
use Rattle.wire.specs.Payloads.{SpellsPayload, SpellsPayloads}
use Rattle.wire.specs.Proposals.{SpellsProposal}
use Rattle.wire.specs.Selectors.{SpellsSelectors}
use Rattle.wire.specs.declared.message.Header.{Header}
use Rattle.wire.specs.declared.payload.Payload.TheVariants.{Sa, Sealed, TsI, TsR}
use Rattle.wire.specs.declared.proposal.Proposal.{Proposal}
use Rattle.suite.specs.Offers.{offer_of}
use Rattle.suite.specs.declared.choice.Wanted.TheVariants.{Esp}
use Rattle.exchange.specs.Headers.{sent_header}
use Rattle.exchange.specs.declared.headers.Role.TheVariants.{Initiator, Responder}
use Rattle.deliveries.specs.Worked.{any_traffic}
use Rattle.laws_two_ends.proofs.InitLemmas.{transform_is}

-- ---- the octets

-- of a header in front of the number: the SPIs, an encrypted payload first, version 2.0, the exchange, the
-- flags
abbrev fixed_octets : ℕ → ℕ → Octets
fixed_octets exchange flags = 0 ∷ 0 ∷ 0 ∷ 0 ∷ 0 ∷ 0 ∷ 0 ∷ 1 ∷ 0 ∷ 0 ∷ 0 ∷ 0 ∷ 0 ∷ 0 ∷ 0 ∷ 2 ∷ 46 ∷ 0x20 ∷ exchange ∷ flags ∷ []

abbrev pub header_octets : ℕ → ℕ → ℕ → Octets
header_octets exchange flags number = fixed_octets exchange flags ++ (0 ∷ 0 ∷ 0 ∷ number ∷ [])

-- the proposal of the end that gave the SPI 256 * n
abbrev pub proposal_of : ℕ → Proposal
proposal_of n = offer_of (Esp false) (0 ∷ 0 ∷ n ∷ 0 ∷ [])

-- NULL, HMAC-SHA-256-128, sequence numbers that are not extended
abbrev transform_octets : Octets
transform_octets = 3 ∷ 0 ∷ 0 ∷ 8 ∷ 1 ∷ 0 ∷ 0 ∷ 11 ∷ 3 ∷ 0 ∷ 0 ∷ 8 ∷ 3 ∷ 0 ∷ 0 ∷ 12 ∷ 0 ∷ 0 ∷ 0 ∷ 8 ∷ 5 ∷ 0 ∷ 0 ∷ 0 ∷ []

-- the one proposal, of number 1, for ESP, with an SPI of four octets
abbrev proposal_octets : ℕ → Octets
proposal_octets n = 1 ∷ 3 ∷ 4 ∷ 3 ∷ 0 ∷ 0 ∷ n ∷ 0 ∷ transform_octets

-- of the payload SA, with this type behind it
abbrev pub sa_octets : ℕ → ℕ → Octets
sa_octets next n = next ∷ 0 ∷ 0 ∷ 40 ∷ 0 ∷ 0 ∷ 0 ∷ 36 ∷ proposal_octets n

-- of the one selector
abbrev selector_octets : Octets
selector_octets = 7 ∷ 0 ∷ 0 ∷ 16 ∷ 0 ∷ 0 ∷ 255 ∷ 255 ∷ 0 ∷ 0 ∷ 0 ∷ 0 ∷ 255 ∷ 255 ∷ 255 ∷ 255 ∷ []

-- of one payload of selectors, with this type behind it
abbrev selectors_octets : ℕ → Octets
selectors_octets next = next ∷ 0 ∷ 0 ∷ 24 ∷ 1 ∷ 0 ∷ 0 ∷ 0 ∷ selector_octets

-- of TSi and TSr
abbrev pub traffic_octets : Octets
traffic_octets = selectors_octets 45 ++ selectors_octets 0

-- ---- they spell what is said

module _ (Free : ℕ → Type 0) (free : Free 0) where
  proposal_is : (n : ℕ) → SpellsProposal Free (proposal_of n) (proposal_octets n)
  proposal_is n = record {
    transforms = transform_octets;
    spelled = refl;
    spi = omega arith;
    count = omega arith;
    each = record {
      front = 3 ∷ 0 ∷ 0 ∷ 8 ∷ 1 ∷ 0 ∷ 0 ∷ 11 ∷ [];
      rest = 3 ∷ 0 ∷ 0 ∷ 8 ∷ 3 ∷ 0 ∷ 0 ∷ 12 ∷ 0 ∷ 0 ∷ 0 ∷ 8 ∷ 5 ∷ 0 ∷ 0 ∷ 0 ∷ [];
      joined = refl;
      first = transform_is Free free 3 1 11 refl (omega arith);
      others = record {
        front = 3 ∷ 0 ∷ 0 ∷ 8 ∷ 3 ∷ 0 ∷ 0 ∷ 12 ∷ [];
        rest = 0 ∷ 0 ∷ 0 ∷ 8 ∷ 5 ∷ 0 ∷ 0 ∷ 0 ∷ [];
        joined = refl;
        first = transform_is Free free 3 3 12 refl (omega arith);
        others = transform_is Free free 0 5 0 refl (omega arith);
      };
    };
  }

  pub sa_is : (next n : ℕ) → SpellsPayload Free (Sa (proposal_of n ∷ [])) next (sa_octets next n)
  sa_is next n = record {
    second = 0;
    body = 0 ∷ 0 ∷ 0 ∷ 36 ∷ proposal_octets n;
    part = record { spelled = refl; fits = omega arith };
    header = free;
    inside = record {
      each = record { reserved = 0; inside = proposal_octets n; free = free; part = record { spelled = refl; fits = omega arith }; content = proposal_is n };
      numbered = omega arith;
    };
  }

  selectors_are : SpellsSelectors Free any_traffic (1 ∷ 0 ∷ 0 ∷ 0 ∷ selector_octets)
  selectors_are = record {
    reserved_1 = 0;
    reserved_2 = 0;
    reserved_3 = 0;
    free = (free, free, free);
    selectors = selector_octets;
    spelled = refl;
    some = omega arith;
    few = omega arith;
    each = record {
      front = selector_octets;
      rest = [];
      joined = refl;
      first = record {
        part = record { spelled = refl; fits = omega arith };
        ports = omega arith;
        port = omega arith;
        addresses = omega arith;
        fits = (omega arith, omega arith);
      };
      others = refl;
    };
  }

  ts_i_is : SpellsPayload Free (TsI any_traffic) 45 (selectors_octets 45)
  ts_i_is = record { second = 0; body = 1 ∷ 0 ∷ 0 ∷ 0 ∷ selector_octets; part = record { spelled = refl; fits = omega arith }; header = free; inside = selectors_are }

  ts_r_is : SpellsPayload Free (TsR any_traffic) 0 (selectors_octets 0)
  ts_r_is = record { second = 0; body = 1 ∷ 0 ∷ 0 ∷ 0 ∷ selector_octets; part = record { spelled = refl; fits = omega arith }; header = free; inside = selectors_are }

  pub traffic_is : SpellsPayloads Free 44 (TsI any_traffic ∷ TsR any_traffic ∷ []) traffic_octets
  traffic_is = (
    refl,
    45,
    record {
      front = selectors_octets 45;
      rest = selectors_octets 0;
      joined = refl;
      first = ts_i_is;
      others = (refl, 0, record { front = selectors_octets 0; rest = []; joined = refl; first = ts_r_is; others = (refl, refl) });
    },
  )

  pub asking_header_is : (exchange number : ℕ) → 0 ∷ 0 ∷ 0 ∷ number ∷ [] ≡ big_bytes 4 number → number < 2 ^ 32
      → SpellsHeader Free (sent_header 1 2 exchange Initiator false number) 46 (header_octets exchange 0x08 number)
  asking_header_is exchange number spelled fits = record {
    flags = 8;
    has_flags = record { low = 0; high = 0; value = refl; low_bits = omega arith; high_bits = omega arith; free = (free, free) };
    spelled = ap (λ (os : Octets). fixed_octets exchange 0x08 ++ os) spelled;
    spi_i = omega arith;
    spi_r = omega arith;
    minor = omega arith;
    id = fits;
  }

  pub answering_header_is : (exchange number : ℕ) → 0 ∷ 0 ∷ 0 ∷ number ∷ [] ≡ big_bytes 4 number → number < 2 ^ 32
      → SpellsHeader Free (sent_header 1 2 exchange Responder true number) 46 (header_octets exchange 0x20 number)
  answering_header_is exchange number spelled fits = record {
    flags = 32;
    has_flags = record { low = 0; high = 0; value = refl; low_bits = omega arith; high_bits = omega arith; free = (free, free) };
    spelled = ap (λ (os : Octets). fixed_octets exchange 0x20 ++ os) spelled;
    spi_i = omega arith;
    spi_r = omega arith;
    minor = omega arith;
    id = fits;
  }

  -- the message with this header, whose encrypted payload has these octets inside
  pub sealed_is : (first : ℕ) (header plain encrypted octets : Octets) (h : Header) → SpellsHeader Free h 46 header → IsPart first 0 plain encrypted
      → octets ≡ header ++ big_bytes 4 (length octets) ++ encrypted → length octets ≤ MESSAGE_LIMIT → AreOctets octets
      → SpellsWith Free (record { header = h; payloads = Sealed first plain ∷ [] }) octets
  sealed_is first header plain encrypted octets h head part whole limit are = record {
    first = 46;
    header = header;
    payloads = encrypted;
    whole = whole;
    head = head;
    chain = (
      refl,
      first,
      record {
        front = encrypted;
        rest = [];
        joined = sym (append-nil encrypted);
        first = record { second = 0; body = plain; part = part; header = (refl, free); inside = refl };
        others = (refl, refl);
      },
    );
    limit = limit;
    octets = are;
  }
