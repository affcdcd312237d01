-- The messages of the exchange IKE_SA_INIT as they are sent (RFC 7296 sections 1.2, 2.6 and 3.1).
use Rattle.std.specs.Prelude.{ℕ, true, false, Option, Some, None, List, [], ◌∷◌, ◌++◌}
use Rattle.base.specs.Octets.{Octets}
use Rattle.wire.specs.Numbers.{IKE_SA_INIT}
use Rattle.wire.specs.declared.message.Message.{Message}
use Rattle.wire.specs.declared.payload.Payload.{Payload}
use Rattle.wire.specs.declared.payload.Payload.TheVariants.{Sa, Ke, Nonce}
use Rattle.wire.specs.declared.proposal.Proposal.{Proposal}
use Rattle.suite.specs.declared.choice.Chosen.{Chosen}
use Rattle.suite.specs.declared.choice.Wanted.{Wanted}
use Rattle.suite.specs.declared.choice.Wanted.TheVariants.{Ike}
use Rattle.suite.specs.declared.sealer.Cipher.{Cipher}
use Rattle.exchange.specs.declared.headers.Role.TheVariants.{Initiator, Responder}
use Rattle.exchange.specs.declared.notices.Notice.{Notice}
use Rattle.exchange.specs.Headers.{sent_header}
use Rattle.exchange.specs.Notices.{payload_of_notice, returned_cookie}
use Rattle.suite.specs.Offers.{answer_of, offer_of}

-- what an IKE SA is to have by the caller's cipher and group
abbrev pub ike_wanted : Cipher → ℕ → Wanted
ike_wanted cipher group = Ike cipher.id cipher.key_length group

-- what both messages have: SA, KE and Nonce (section 1.2)
abbrev pub agreeing_payloads : Proposal → ℕ → Octets → Octets → List Payload
agreeing_payloads proposal group public nonce = Sa (proposal ∷ []) ∷ Ke group public ∷ Nonce nonce ∷ []

-- a cookie that was asked for stands before all others (section 2.6)
abbrev pub cookie_payloads : Option Octets → List Payload
cookie_payloads None = []
cookie_payloads (Some octets) = returned_cookie octets ∷ []

abbrev pub request_payloads : Cipher → ℕ → Octets → Option Octets → Octets → List Payload
request_payloads cipher group public cookie nonce =
    cookie_payloads cookie ++ agreeing_payloads (offer_of (ike_wanted cipher group) []) group public nonce

-- the initiator's request, in which no SPI of the responder is named yet
abbrev pub request_message : Cipher → ℕ → Octets → ℕ → Option Octets → Octets → Message
request_message cipher group public spi_i cookie nonce =
    record {
      header = sent_header spi_i 0 IKE_SA_INIT Initiator false 0;
      payloads = request_payloads cipher group public cookie nonce;
    }

abbrev pub answer_payloads : Cipher → ℕ → Octets → Chosen → Octets → List Payload
answer_payloads cipher group public chosen nonce =
    agreeing_payloads (answer_of (ike_wanted cipher group) chosen []) group public nonce

-- the responder's answer to a request that it accepts
abbrev pub answer_message : Cipher → ℕ → Octets → Chosen → Octets → ℕ → ℕ → Message
answer_message cipher group public chosen nonce spi_i spi_r =
    record {
      header = sent_header spi_i spi_r IKE_SA_INIT Responder true 0;
      payloads = answer_payloads cipher group public chosen nonce;
    }

-- the answer of a responder that keeps nothing of the request: a notification alone, and no SPI of its own
abbrev pub notice_message : ℕ → Notice → Message
notice_message spi_i notice =
    record {
      header = sent_header spi_i 0 IKE_SA_INIT Responder true 0;
      payloads = payload_of_notice notice ∷ [];
    }
