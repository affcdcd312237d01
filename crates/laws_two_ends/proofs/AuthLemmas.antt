-- The messages of the worked IKE_AUTH (RFC 7296 sections 1.2 and 3.1 to 3.14): what either end tells, and
-- the request.
use Rattle.std.proofs.Common.{◌≤◌, ◌++◌, ◌∷◌, ℕ, List, [], arith, refl}
use Rattle.std.specs.Prelude.{false}
use Rattle.base.specs.Octets.{AreOctets, Octets}
use Rattle.base.specs.declared.address.Range.TheVariants.{V4}
use Rattle.base.specs.declared.selector.Selector.{Selector}
use Rattle.wire.specs.Fields.{SpellsTyped}
use Rattle.wire.specs.Messages.{SpellsHeader, SpellsWith}
use Rattle.wire.specs.Payloads.{SpellsPayload, SpellsPayloads}
use Rattle.wire.specs.declared.message.Header.{Header}
use Rattle.wire.specs.declared.message.Message.{Message}
use Rattle.wire.specs.declared.payload.Payload.{Payload}
use Rattle.wire.specs.declared.payload.Payload.TheVariants.{Auth, IdI, Sa, Sealed, TsI, TsR}
use Rattle.exchange.specs.Headers.{sent_header}
use Rattle.exchange.specs.declared.headers.Role.TheVariants.{Initiator}
use Rattle.association.specs.AskedChildren.{AskedChildView, IsSendableChild}
use Rattle.deliveries.specs.Worked.{any_traffic}
use Rattle.laws_two_ends.proofs.OctetLemmas.{octets_if}
use Rattle.laws_two_ends.proofs.SealedLemmas.{asking_header_is, header_octets, proposal_of, sa_is, sa_octets, sealed_is, traffic_is, traffic_octets}

-- ---- what is asked for

-- all traffic of IPv4
abbrev any_selector : Selector
any_selector = record { protocol = 0; start_port = 0; end_port = 65535; addresses = V4 0 4294967295 }

abbrev pub worked_child : AskedChildView
worked_child = record { spi = 256; local = any_selector; remote = any_selector; extended = false }

pub sendable : IsSendableChild worked_child.local worked_child.remote
sendable = record {
  local_fits = record {
    fields = record { protocol = omega arith; start_port = omega arith; end_port = omega arith; addresses = (omega arith, omega arith) };
    ports = omega arith;
    addresses = omega arith;
  };
  remote_fits = record {
    fields = record { protocol = omega arith; start_port = omega arith; end_port = omega arith; addresses = (omega arith, omega arith) };
    ports = omega arith;
    addresses = omega arith;
  };
}

-- ---- what the end of this number tells: 1 that which asks, 2 that which answers

-- its proof, the proposal with its SPI, all traffic
abbrev pub rest_payloads : ℕ → List Payload
rest_payloads n = Auth 2 (0 ∷ []) ∷ Sa (proposal_of n ∷ []) ∷ TsI any_traffic ∷ TsR any_traffic ∷ []

-- an identity of one octet in front of that
abbrev pub request_payloads : List Payload
request_payloads = IdI 11 (1 ∷ []) ∷ rest_payloads 1

-- ---- the octets

-- of the identity, AUTH behind it
abbrev pub id_octets : ℕ → Octets
id_octets n = 39 ∷ 0 ∷ 0 ∷ 9 ∷ 11 ∷ 0 ∷ 0 ∷ 0 ∷ n ∷ []

-- of the proof, SA behind it
abbrev proof_octets : Octets
proof_octets = 33 ∷ 0 ∷ 0 ∷ 9 ∷ 2 ∷ 0 ∷ 0 ∷ 0 ∷ 0 ∷ []

abbrev pub rest_octets : ℕ → Octets
rest_octets n = proof_octets ++ (sa_octets 44 n ++ traffic_octets)

abbrev pub plain_octets : ℕ → Octets
plain_octets n = id_octets n ++ rest_octets n

-- the encrypted payload, with the type of the identity's payload inside
abbrev encrypted_octets : ℕ → ℕ → Octets
encrypted_octets first n = first ∷ 0 ∷ 0 ∷ 110 ∷ plain_octets n

abbrev pub message_octets : ℕ → ℕ → ℕ → Octets
message_octets flags first n = header_octets 35 flags 1 ++ (0 ∷ 0 ∷ 0 ∷ 138 ∷ encrypted_octets first n)

abbrev pub auth_octets : Octets
auth_octets = message_octets 0x08 35 1

abbrev pub asked : Message
asked = record { header = sent_header 1 2 35 Initiator false 1; payloads = Sealed 35 (plain_octets 1) ∷ [] }

-- ---- the octets spell them, with whatever may stand in reserved octets

module _ (Free : ℕ → Type 0) (free : Free 0) where
  -- one octet of some type
  pub typed_is : (limit kind n : ℕ) → 1 ≤ limit → SpellsTyped Free limit kind (n ∷ []) (kind ∷ 0 ∷ 0 ∷ 0 ∷ n ∷ [])
  typed_is limit kind n least = record { reserved_1 = 0; reserved_2 = 0; reserved_3 = 0; free = (free, free, free); spelled = refl; some = omega arith; few = least }

  identity_is : SpellsPayload Free (IdI 11 (1 ∷ [])) 39 (id_octets 1)
  identity_is = record {
    second = 0;
    body = 11 ∷ 0 ∷ 0 ∷ 0 ∷ 1 ∷ [];
    part = record { spelled = refl; fits = omega arith };
    header = free;
    inside = typed_is 256 11 1 (omega arith);
  }

  proof_is : SpellsPayload Free (Auth 2 (0 ∷ [])) 33 proof_octets
  proof_is = record {
    second = 0;
    body = 2 ∷ 0 ∷ 0 ∷ 0 ∷ 0 ∷ [];
    part = record { spelled = refl; fits = omega arith };
    header = free;
    inside = typed_is 1024 2 0 (omega arith);
  }

  pub rest_is : (n : ℕ) → SpellsPayloads Free 39 (rest_payloads n) (rest_octets n)
  rest_is n = (
    refl,
    33,
    record {
      front = proof_octets;
      rest = sa_octets 44 n ++ traffic_octets;
      joined = refl;
      first = proof_is;
      others = (refl, 44, record { front = sa_octets 44 n; rest = traffic_octets; joined = refl; first = sa_is Free free 44 n; others = traffic_is Free free });
    },
  )

  pub request_chain : SpellsPayloads Free 35 request_payloads (plain_octets 1)
  request_chain = (refl, 39, record { front = id_octets 1; rest = rest_octets 1; joined = refl; first = identity_is; others = rest_is 1 })

  pub message_is : (flags first n : ℕ) (h : Header) → SpellsHeader Free h 46 (header_octets 35 flags 1) → AreOctets (message_octets flags first n)
      → SpellsWith Free (record { header = h; payloads = Sealed first (plain_octets n) ∷ [] }) (message_octets flags first n)
  message_is flags first n h head octets =
      sealed_is Free free first (header_octets 35 flags 1) (plain_octets n) (encrypted_octets first n) (message_octets flags first n) h head
      (record { spelled = refl; fits = omega arith }) refl (omega arith) octets

  pub request_is : SpellsWith Free asked auth_octets
  request_is = message_is 8 35 1 asked.header (asking_header_is Free free 35 1 refl (omega arith)) (octets_if auth_octets refl)
