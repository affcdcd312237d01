-- The messages of IKE_AUTH where extended sequence numbers are allowed (RFC 7296 sections 1.2 and 3.1 to 3.14).
-- The request offers both kinds, and the response has the extended one. The cipher hides nothing, so the octets
-- of the payloads are the body.
use Rattle.std.proofs.Common.{◌++◌, ◌∷◌, ℕ, true, false, List, [], arith, refl}
use Rattle.std.specs.List.{AllByRecursion}
use Rattle.base.specs.Octets.{IsOctet, Octets}
use Rattle.wire.specs.Messages.{Spells, SpellsWith}
use Rattle.wire.specs.Parts.{IsZero}
use Rattle.wire.specs.Payloads.{IsClear, SpellsChain, SpellsPayload, SpellsPayloads}
use Rattle.wire.specs.Proposals.{SpellsProposal}
use Rattle.wire.specs.declared.message.Message.{Message}
use Rattle.wire.specs.declared.payload.Payload.{Payload}
use Rattle.wire.specs.declared.payload.Payload.TheVariants.{Auth, IdI, IdR, Sa, Sealed, TsI, TsR}
use Rattle.wire.specs.declared.proposal.Proposal.{Proposal}
use Rattle.suite.specs.Offers.{answer_of, offer_of}
use Rattle.suite.specs.declared.choice.Chosen.{Chosen}
use Rattle.suite.specs.declared.choice.Wanted.TheVariants.{Esp}
use Rattle.suite.specs.declared.keys.Keys.{Keys}
use Rattle.exchange.specs.Headers.{sent_header}
use Rattle.exchange.specs.Sealed.{IsSealed}
use Rattle.exchange.specs.declared.headers.Role.TheVariants.{Initiator, Responder}
use Rattle.deliveries.specs.Worked.{any_traffic}
use Rattle.laws_two_ends.specs.WorkedRuns.{run_meaning}
use Rattle.laws_two_ends.proofs.AuthLemmas.{id_octets, typed_is}
use Rattle.laws_two_ends.proofs.InitLemmas.{transform_is}
use Rattle.laws_two_ends.proofs.OctetLemmas.{octets_if}
use Rattle.laws_two_ends.proofs.SealedLemmas.{answering_header_is, asking_header_is, header_octets, sealed_is, traffic_is, traffic_octets}

-- ---- the proposals

abbrev pub chosen : Chosen
chosen = record { place = 0; number = 1; extended = true }

-- A's, which gave the SPI 256
abbrev pub offered : Proposal
offered = offer_of (Esp true) (0 ∷ 0 ∷ 1 ∷ 0 ∷ [])

-- B's, which gave the SPI 512
abbrev pub answered_proposal : Proposal
answered_proposal = answer_of (Esp true) chosen (0 ∷ 0 ∷ 2 ∷ 0 ∷ [])

abbrev pub rest_payloads : Proposal → List Payload
rest_payloads proposal = Auth 2 (0 ∷ []) ∷ Sa (proposal ∷ []) ∷ TsI any_traffic ∷ TsR any_traffic ∷ []

abbrev pub request_payloads : List Payload
request_payloads = IdI 11 (1 ∷ []) ∷ rest_payloads offered

abbrev pub response_payloads : List Payload
response_payloads = IdR 11 (2 ∷ []) ∷ rest_payloads answered_proposal

-- ---- the octets

-- no encryption, and HMAC-SHA-256-128
abbrev fixed_octets : Octets
fixed_octets = 3 ∷ 0 ∷ 0 ∷ 8 ∷ 1 ∷ 0 ∷ 0 ∷ 11 ∷ 3 ∷ 0 ∷ 0 ∷ 8 ∷ 3 ∷ 0 ∷ 0 ∷ 12 ∷ []

-- sequence numbers that are extended, and then those that are not
abbrev both_octets : Octets
both_octets = 3 ∷ 0 ∷ 0 ∷ 8 ∷ 5 ∷ 0 ∷ 0 ∷ 1 ∷ 0 ∷ 0 ∷ 0 ∷ 8 ∷ 5 ∷ 0 ∷ 0 ∷ 0 ∷ []

-- the extended ones alone
abbrev one_octets : Octets
one_octets = 0 ∷ 0 ∷ 0 ∷ 8 ∷ 5 ∷ 0 ∷ 0 ∷ 1 ∷ []

abbrev offered_octets : Octets
offered_octets = 1 ∷ 3 ∷ 4 ∷ 4 ∷ 0 ∷ 0 ∷ 1 ∷ 0 ∷ fixed_octets ++ both_octets

abbrev answered_octets : Octets
answered_octets = 1 ∷ 3 ∷ 4 ∷ 3 ∷ 0 ∷ 0 ∷ 2 ∷ 0 ∷ fixed_octets ++ one_octets

-- of the payload SA, TSi behind it
abbrev offered_sa : Octets
offered_sa = 44 ∷ 0 ∷ 0 ∷ 48 ∷ 0 ∷ 0 ∷ 0 ∷ 44 ∷ offered_octets

abbrev answered_sa : Octets
answered_sa = 44 ∷ 0 ∷ 0 ∷ 40 ∷ 0 ∷ 0 ∷ 0 ∷ 36 ∷ answered_octets

-- of the proof, SA behind it
abbrev proof_octets : Octets
proof_octets = 33 ∷ 0 ∷ 0 ∷ 9 ∷ 2 ∷ 0 ∷ 0 ∷ 0 ∷ 0 ∷ []

abbrev rest_octets : Octets → Octets
rest_octets sa = proof_octets ++ (sa ++ traffic_octets)

abbrev pub request_plain : Octets
request_plain = id_octets 1 ++ rest_octets offered_sa

abbrev pub response_plain : Octets
response_plain = id_octets 2 ++ rest_octets answered_sa

abbrev request_encrypted : Octets
request_encrypted = 35 ∷ 0 ∷ 0 ∷ 118 ∷ request_plain

abbrev response_encrypted : Octets
response_encrypted = 36 ∷ 0 ∷ 0 ∷ 110 ∷ response_plain

abbrev pub request_octets : Octets
request_octets = header_octets 35 0x08 1 ++ (0 ∷ 0 ∷ 0 ∷ 146 ∷ request_encrypted)

abbrev pub response_octets : Octets
response_octets = header_octets 35 0x20 1 ++ (0 ∷ 0 ∷ 0 ∷ 138 ∷ response_encrypted)

abbrev pub asked : Message
asked = record { header = sent_header 1 2 35 Initiator false 1; payloads = Sealed 35 request_plain ∷ [] }

abbrev pub answered : Message
answered = record { header = sent_header 1 2 35 Responder true 1; payloads = Sealed 36 response_plain ∷ [] }

-- ---- they spell what is said, with whatever may stand in reserved octets

module _ (Free : ℕ → Type 0) (free : Free 0) where
  offered_is : SpellsProposal Free offered offered_octets
  offered_is = record {
    transforms = fixed_octets ++ both_octets;
    spelled = refl;
    spi = omega arith;
    count = omega arith;
    each = record {
      front = 3 ∷ 0 ∷ 0 ∷ 8 ∷ 1 ∷ 0 ∷ 0 ∷ 11 ∷ [];
      rest = 3 ∷ 0 ∷ 0 ∷ 8 ∷ 3 ∷ 0 ∷ 0 ∷ 12 ∷ both_octets;
      joined = refl;
      first = transform_is Free free 3 1 11 refl (omega arith);
      others = record {
        front = 3 ∷ 0 ∷ 0 ∷ 8 ∷ 3 ∷ 0 ∷ 0 ∷ 12 ∷ [];
        rest = both_octets;
        joined = refl;
        first = transform_is Free free 3 3 12 refl (omega arith);
        others = record {
          front = 3 ∷ 0 ∷ 0 ∷ 8 ∷ 5 ∷ 0 ∷ 0 ∷ 1 ∷ [];
          rest = 0 ∷ 0 ∷ 0 ∷ 8 ∷ 5 ∷ 0 ∷ 0 ∷ 0 ∷ [];
          joined = refl;
          first = transform_is Free free 3 5 1 refl (omega arith);
          others = transform_is Free free 0 5 0 refl (omega arith);
        };
      };
    };
  }

  answered_is : SpellsProposal Free answered_proposal answered_octets
  answered_is = record {
    transforms = fixed_octets ++ one_octets;
    spelled = refl;
    spi = omega arith;
    count = omega arith;
    each = record {
      front = 3 ∷ 0 ∷ 0 ∷ 8 ∷ 1 ∷ 0 ∷ 0 ∷ 11 ∷ [];
      rest = 3 ∷ 0 ∷ 0 ∷ 8 ∷ 3 ∷ 0 ∷ 0 ∷ 12 ∷ one_octets;
      joined = refl;
      first = transform_is Free free 3 1 11 refl (omega arith);
      others = record {
        front = 3 ∷ 0 ∷ 0 ∷ 8 ∷ 3 ∷ 0 ∷ 0 ∷ 12 ∷ [];
        rest = one_octets;
        joined = refl;
        first = transform_is Free free 3 3 12 refl (omega arith);
        others = transform_is Free free 0 5 1 refl (omega arith);
      };
    };
  }

  offered_sa_is : SpellsPayload Free (Sa (offered ∷ [])) 44 offered_sa
  offered_sa_is = record {
    second = 0;
    body = 0 ∷ 0 ∷ 0 ∷ 44 ∷ offered_octets;
    part = record { spelled = refl; fits = omega arith };
    header = free;
    inside = record {
      each = record { reserved = 0; inside = offered_octets; free = free; part = record { spelled = refl; fits = omega arith }; content = offered_is };
      numbered = omega arith;
    };
  }

  answered_sa_is : SpellsPayload Free (Sa (answered_proposal ∷ [])) 44 answered_sa
  answered_sa_is = record {
    second = 0;
    body = 0 ∷ 0 ∷ 0 ∷ 36 ∷ answered_octets;
    part = record { spelled = refl; fits = omega arith };
    header = free;
    inside = record {
      each = record { reserved = 0; inside = answered_octets; free = free; part = record { spelled = refl; fits = omega arith }; content = answered_is };
      numbered = omega arith;
    };
  }

  proof_is : SpellsPayload Free (Auth 2 (0 ∷ [])) 33 proof_octets
  proof_is = record {
    second = 0;
    body = 2 ∷ 0 ∷ 0 ∷ 0 ∷ 0 ∷ [];
    part = record { spelled = refl; fits = omega arith };
    header = free;
    inside = typed_is Free free 1024 2 0 (omega arith);
  }

  rest_is : (proposal : Proposal) (sa : Octets) → SpellsPayload Free (Sa (proposal ∷ [])) 44 sa → SpellsPayloads Free 39 (rest_payloads proposal) (rest_octets sa)
  rest_is proposal sa is = (
    refl,
    33,
    record {
      front = proof_octets;
      rest = sa ++ traffic_octets;
      joined = refl;
      first = proof_is;
      others = (refl, 44, record { front = sa; rest = traffic_octets; joined = refl; first = is; others = traffic_is Free free });
    },
  )

  initiator_is : SpellsPayload Free (IdI 11 (1 ∷ [])) 39 (id_octets 1)
  initiator_is = record {
    second = 0;
    body = 11 ∷ 0 ∷ 0 ∷ 0 ∷ 1 ∷ [];
    part = record { spelled = refl; fits = omega arith };
    header = free;
    inside = typed_is Free free 256 11 1 (omega arith);
  }

  responder_is : SpellsPayload Free (IdR 11 (2 ∷ [])) 39 (id_octets 2)
  responder_is = record {
    second = 0;
    body = 11 ∷ 0 ∷ 0 ∷ 0 ∷ 2 ∷ [];
    part = record { spelled = refl; fits = omega arith };
    header = free;
    inside = typed_is Free free 256 11 2 (omega arith);
  }

  request_chain : SpellsPayloads Free 35 request_payloads request_plain
  request_chain =
      (refl, 39, record { front = id_octets 1; rest = rest_octets offered_sa; joined = refl; first = initiator_is; others = rest_is offered offered_sa offered_sa_is })

  response_chain : SpellsPayloads Free 36 response_payloads response_plain
  response_chain =
      (refl, 39, record { front = id_octets 2; rest = rest_octets answered_sa; joined = refl; first = responder_is; others = rest_is answered_proposal answered_sa answered_sa_is })

  request_is : SpellsWith Free asked request_octets
  request_is =
      sealed_is Free free 35 (header_octets 35 8 1) request_plain request_encrypted request_octets asked.header (asking_header_is Free free 35 1 refl (omega arith))
      (record { spelled = refl; fits = omega arith }) refl (omega arith) (octets_if request_octets refl)

  response_is : SpellsWith Free answered response_octets
  response_is =
      sealed_is Free free 36 (header_octets 35 32 1) response_plain response_encrypted response_octets answered.header
      (answering_header_is Free free 35 1 refl (omega arith)) (record { spelled = refl; fits = omega arith }) refl (omega arith) (octets_if response_octets refl)

-- ---- sealed, and read

rest_clear : (proposal : Proposal) → AllByRecursion IsClear (rest_payloads proposal)
rest_clear proposal =
    (λ is. absurd (omega (arith, is)), (λ is. absurd (omega (arith, is)), (λ is. absurd (omega (arith, is)), (λ is. absurd (omega (arith, is)), tt))))

pub request_sealed : (keys : Keys) (fresh : Octets)
    → IsSealed run_meaning.body_of keys fresh (record { header = asked.header; payloads = request_payloads }) request_octets
request_sealed keys fresh = record {
  first = 35;
  plain = request_plain;
  spelled = request_chain IsZero refl;
  octets = octets_if request_plain refl;
  whole = request_is IsZero refl;
}

pub asked_spelled : Spells asked request_octets
asked_spelled = request_is IsOctet (omega arith)

pub request_read : SpellsChain 35 request_payloads request_plain
request_read = record {
  clear = (λ is. absurd (omega (arith, is)), rest_clear offered);
  payloads = request_chain IsOctet (omega arith);
  octets = octets_if request_plain refl;
}

pub response_sealed : (keys : Keys) (fresh : Octets)
    → IsSealed run_meaning.body_of keys fresh (record { header = answered.header; payloads = response_payloads }) response_octets
response_sealed keys fresh = record {
  first = 36;
  plain = response_plain;
  spelled = response_chain IsZero refl;
  octets = octets_if response_plain refl;
  whole = response_is IsZero refl;
}

pub answer_spelled : Spells answered response_octets
answer_spelled = response_is IsOctet (omega arith)

pub response_read : SpellsChain 36 response_payloads response_plain
response_read = record {
  clear = (λ is. absurd (omega (arith, is)), rest_clear answered_proposal);
  payloads = response_chain IsOctet (omega arith);
  octets = octets_if response_plain refl;
}
