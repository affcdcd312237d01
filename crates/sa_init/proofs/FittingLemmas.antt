-- The messages of the exchange have what their fields allow, and are short.
use Rattle.std.proofs.Common.{ℕ, ◌<◌, ◌≤◌, ◌^◌, [], Option, Some, None, arith}
use Rattle.std.specs.List.{AllByRecursion, sum_by}
use Rattle.base.specs.Octets.{Octets}
use Rattle.wire.specs.Sizes.{attribute_size, proposal_size, size_of, FitsAttribute, FitsFields, FitsProposal, FitsTransform}
use Rattle.wire.specs.declared.proposal.Proposal.{Proposal}
use Rattle.suite.specs.Choice.{acceptable_transforms, key_length_attribute, without_attributes}
use Rattle.suite.specs.declared.choice.Chosen.{Chosen}
use Rattle.suite.specs.declared.sealer.Cipher.{Cipher}
use Rattle.exchange.specs.declared.notices.Notice.{Notice}
use Rattle.exchange.specs.Notices.{payload_of_notice}
use Rattle.sa_init.specs.Fitting.{FitsCookie, FitsKeyLength, FitsMessage, FitsNonce, FitsPublic, FitsTransforms}
use Rattle.sa_init.specs.Messages.{agreeing_payloads, answer_message, ike_wanted, notice_message, request_message}

-- the proposal of both messages
abbrev pub ike_proposal : Cipher → ℕ → ℕ → Proposal
ike_proposal cipher group number = record { number = number; protocol = 1; spi = []; transforms = acceptable_transforms (ike_wanted cipher group) }

attributes_fit : (key_length : Option ℕ) → FitsKeyLength key_length → AllByRecursion FitsAttribute (key_length_attribute key_length)
attributes_fit None fits = tt
attributes_fit (Some bits) fits = ((omega arith, fits), tt)

attributes_short : (key_length : Option ℕ) → sum_by attribute_size (key_length_attribute key_length) ≤ 4
attributes_short None = omega arith
attributes_short (Some bits) = omega arith

plain_fits : (kind id : ℕ) → kind < 256 → id < 2 ^ 16 → FitsTransform (without_attributes kind id)
plain_fits kind id below fits = record { kind = below; id = fits; attributes = tt }

proposal_fits : (cipher : Cipher) (group number : ℕ) → FitsTransforms cipher group → number < 256 → FitsProposal (ike_proposal cipher group number)
proposal_fits cipher group number fits below =
    record {
      number = below;
      protocol = omega arith;
      spi = tt;
      short = omega arith;
      some = omega arith;
      few = omega arith;
      transforms = (
        record { kind = omega arith; id = fits.id; attributes = attributes_fit cipher.key_length fits.key_length },
        (plain_fits 2 5 (omega arith) (omega arith), (plain_fits 3 12 (omega arith) (omega arith), (plain_fits 4 group (omega arith) fits.number, tt))),
      );
    }

proposal_short : (cipher : Cipher) (group number : ℕ) → proposal_size (ike_proposal cipher group number) ≤ 44
proposal_short cipher group number = omega (arith, attributes_short cipher.key_length)

agreeing_fit : (cipher : Cipher) (group number : ℕ) (public nonce : Octets) → FitsTransforms cipher group → 1 ≤ number → number < 256 → FitsPublic public → FitsNonce nonce
    → AllByRecursion FitsFields (agreeing_payloads (ike_proposal cipher group number) group public nonce)
agreeing_fit cipher group number public nonce fits some below public_fits nonce_fits =
    ((some, (proposal_fits cipher group number fits below, tt)), ((fits.number, public_fits), (nonce_fits, tt)))

agreeing_short : (cipher : Cipher) (group number : ℕ) (public nonce : Octets) → FitsPublic public → FitsNonce nonce
    → sum_by size_of (agreeing_payloads (ike_proposal cipher group number) group public nonce) ≤ 1340
agreeing_short cipher group number public nonce public_fits nonce_fits = omega (arith, proposal_short cipher group number, public_fits.few, nonce_fits.few)

pub request_fits : (cipher : Cipher) (group : ℕ) (public : Octets) (spi_i : ℕ) (cookie : Option Octets) (nonce : Octets)
    → FitsTransforms cipher group → spi_i < 2 ^ 64 → FitsPublic public → FitsCookie cookie → FitsNonce nonce → FitsMessage (request_message cipher group public spi_i cookie nonce)
request_fits cipher group public spi_i None nonce fits spi public_fits cookie_fits nonce_fits =
    record {
      header = record { spi_i = spi; spi_r = omega arith; minor = omega arith; exchange = omega arith; id = omega arith };
      payloads = agreeing_fit cipher group 1 public nonce fits (omega arith) (omega arith) public_fits nonce_fits;
      short = omega (arith, proposal_short cipher group 1, public_fits.few, nonce_fits.few);
    }
request_fits cipher group public spi_i (Some cookie) nonce fits spi public_fits cookie_fits nonce_fits =
    record {
      header = record { spi_i = spi; spi_r = omega arith; minor = omega arith; exchange = omega arith; id = omega arith };
      payloads = (
        record {
          protocol_fits = omega arith;
          kind_fits = omega arith;
          spi_fits = record { some = omega arith; few = omega arith; fits = tt };
          octets_fit = cookie_fits.fits;
        },
        agreeing_fit cipher group 1 public nonce fits (omega arith) (omega arith) public_fits nonce_fits,
      );
      short = omega (arith, proposal_short cipher group 1, public_fits.few, nonce_fits.few, cookie_fits.few);
    }

pub answer_fits : (cipher : Cipher) (group : ℕ) (public : Octets) (chosen : Chosen) (nonce : Octets) (spi_i spi_r : ℕ)
    → FitsTransforms cipher group → 1 ≤ chosen.number → chosen.number < 256 → spi_i < 2 ^ 64 → spi_r < 2 ^ 64 → FitsPublic public → FitsNonce nonce
    → FitsMessage (answer_message cipher group public chosen nonce spi_i spi_r)
answer_fits cipher group public chosen nonce spi_i spi_r fits some below spi other public_fits nonce_fits =
    record {
      header = record { spi_i = spi; spi_r = other; minor = omega arith; exchange = omega arith; id = omega arith };
      payloads = agreeing_fit cipher group chosen.number public nonce fits some below public_fits nonce_fits;
      short = omega (arith, proposal_short cipher group chosen.number, public_fits.few, nonce_fits.few);
    }

pub notice_fits : (spi_i : ℕ) (notice : Notice) → spi_i < 2 ^ 64 → FitsFields (payload_of_notice notice) → size_of (payload_of_notice notice) ≤ 72 → FitsMessage (notice_message spi_i notice)
notice_fits spi_i notice spi fits short =
    record {
      header = record { spi_i = spi; spi_r = omega arith; minor = omega arith; exchange = omega arith; id = omega arith };
      payloads = (fits, tt);
      short = omega (arith, short);
    }
