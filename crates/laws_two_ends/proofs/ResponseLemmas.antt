-- The messages of IKE_AUTH (RFC 7296 sections 1.2 and 3.1 to 3.14): the request as it is read, and the
-- response as it is sealed and as it is read. The cipher hides nothing, so the octets of the payloads are
-- the body.
use Rattle.std.proofs.Common.{◌∷◌, ℕ, true, List, [], arith, refl}
use Rattle.std.specs.List.{AllByRecursion}
use Rattle.base.specs.Octets.{IsOctet, Octets}
use Rattle.wire.specs.Messages.{Spells, SpellsWith}
use Rattle.wire.specs.Parts.{IsZero}
use Rattle.wire.specs.Payloads.{IsClear, SpellsChain, SpellsPayload, SpellsPayloads}
use Rattle.wire.specs.declared.message.Message.{Message}
use Rattle.wire.specs.declared.payload.Payload.{Payload}
use Rattle.wire.specs.declared.payload.Payload.TheVariants.{IdR, Sealed}
use Rattle.suite.specs.declared.keys.Keys.{Keys}
use Rattle.exchange.specs.Headers.{sent_header}
use Rattle.exchange.specs.Sealed.{IsSealed}
use Rattle.exchange.specs.declared.headers.Role.TheVariants.{Responder}
use Rattle.laws_two_ends.proofs.AuthLemmas.{asked, auth_octets, id_octets, message_is, message_octets, plain_octets, request_chain, request_is, request_payloads, rest_is, rest_octets, rest_payloads, typed_is}
use Rattle.laws_two_ends.proofs.OctetLemmas.{octets_if}
use Rattle.laws_two_ends.proofs.SealedLemmas.{answering_header_is}
use Rattle.laws_two_ends.specs.WorkedRuns.{run_meaning}

-- ---- the response

abbrev pub response_payloads : List Payload
response_payloads = IdR 11 (2 ∷ []) ∷ rest_payloads 2

abbrev pub response_octets : Octets
response_octets = message_octets 0x20 36 2

abbrev pub answered : Message
answered = record { header = sent_header 1 2 35 Responder true 1; payloads = Sealed 36 (plain_octets 2) ∷ [] }

-- ---- the octets spell it, with whatever may stand in reserved octets

module _ (Free : ℕ → Type 0) (free : Free 0) where
  identity_is : SpellsPayload Free (IdR 11 (2 ∷ [])) 39 (id_octets 2)
  identity_is = record {
    second = 0;
    body = 11 ∷ 0 ∷ 0 ∷ 0 ∷ 2 ∷ [];
    part = record { spelled = refl; fits = omega arith };
    header = free;
    inside = typed_is Free free 256 11 2 (omega arith);
  }

  response_chain : SpellsPayloads Free 36 response_payloads (plain_octets 2)
  response_chain = (refl, 39, record { front = id_octets 2; rest = rest_octets 2; joined = refl; first = identity_is; others = rest_is Free free 2 })

  response_is : SpellsWith Free answered response_octets
  response_is = message_is Free free 32 36 2 answered.header (answering_header_is Free free 35 1 refl (omega arith)) (octets_if response_octets refl)

-- ---- the request is read

rest_clear : (n : ℕ) → AllByRecursion IsClear (rest_payloads n)
rest_clear n = (λ is. absurd (omega (arith, is)), (λ is. absurd (omega (arith, is)), (λ is. absurd (omega (arith, is)), (λ is. absurd (omega (arith, is)), tt))))

pub asked_spelled : Spells asked auth_octets
asked_spelled = request_is IsOctet (omega arith)

pub request_read : SpellsChain 35 request_payloads (plain_octets 1)
request_read = record {
  clear = (λ is. absurd (omega (arith, is)), rest_clear 1);
  payloads = request_chain IsOctet (omega arith);
  octets = octets_if (plain_octets 1) refl;
}

-- ---- the response is sealed, and read

pub response_sealed : (keys : Keys) (fresh : Octets)
    → IsSealed run_meaning.body_of keys fresh (record { header = answered.header; payloads = response_payloads }) response_octets
response_sealed keys fresh = record {
  first = 36;
  plain = plain_octets 2;
  spelled = response_chain IsZero refl;
  octets = octets_if (plain_octets 2) refl;
  whole = response_is IsZero refl;
}

pub answer_spelled : Spells answered response_octets
answer_spelled = response_is IsOctet (omega arith)

pub response_read : SpellsChain 36 response_payloads (plain_octets 2)
response_read = record {
  clear = (λ is. absurd (omega (arith, is)), rest_clear 2);
  payloads = response_chain IsOctet (omega arith);
  octets = octets_if (plain_octets 2) refl;
}
