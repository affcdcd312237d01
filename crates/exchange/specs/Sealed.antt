-- Messages whose payloads are encrypted (RFC 7296 section 3.14).
use Rattle.std.specs.Prelude.{◌≡◌, ◌<◌, ◌≤◌, ◌⊎◌, ℕ, Option, Some, None, List, [], ◌∷◌, ◌++◌, ◌+◌, ◌-◌, length, take, drop, slice_index}
use Rattle.byteorder.specs.Endian.{big_bytes}
use Rattle.wire.specs.Parts.{IsZero}
use Rattle.base.specs.Octets.{AreOctets}
use Rattle.wire.specs.Payloads.{SpellsPayloads, SpellsChain}
use Rattle.wire.specs.Messages.{Spells, SpellsPlainly}
use Rattle.wire.specs.Numbers.{HEADER_LENGTH, MESSAGE_LIMIT, SEALED_TYPE}
use Rattle.wire.specs.Refusals.{IsEncodingFaultOf}
use Rattle.wire.specs.declared.fault.WireFault.{WireFault}
use Rattle.wire.specs.declared.fault.WireFault.TheVariants.{TooLong}
use Rattle.wire.specs.declared.message.Message.{Message}
use Rattle.wire.specs.declared.payload.Payload.{Payload}
use Rattle.wire.specs.declared.payload.Payload.TheVariants.{Sealed}
use Rattle.suite.specs.declared.keys.Keys.{Keys}
use Rattle.exchange.specs.declared.sealed.Plain.{Plain}

-- the octets of the header and of the encrypted payload's header behind it
abbrev pub HEAD_LENGTH : ℕ
HEAD_LENGTH = 32

-- How many octets a message in clear may have: with the encrypted payload's header and the 128 octets that
-- a cipher adds at most it has no more than a message may have.
abbrev pub CLEAR_LIMIT : ℕ
CLEAR_LIMIT = 2868

-- how many the payloads of such a message may have
abbrev pub PAYLOADS_LIMIT : ℕ
PAYLOADS_LIMIT = 2840

-- What a cipher covers beside the body, and doesn't seal: the message's header and the header of its
-- encrypted payload.
abbrev pub head_of : List ℕ → List ℕ
head_of b = take HEAD_LENGTH b

-- The payloads of the message, spelled with zeros in all that is reserved, are sealed as the body of the
-- one payload of a message with the same header.
pub record IsSealed (body_of : Keys → List ℕ → List ℕ → List ℕ → List ℕ) (keys : Keys) (fresh : List ℕ) (m : Message) (b : List ℕ) : Type 0 where
  pub first : ℕ
  pub plain : List ℕ
  pub spelled : SpellsPayloads IsZero first m.payloads plain
  pub octets : AreOctets plain
  pub whole : SpellsPlainly (record { header = m.header; payloads = Sealed first (body_of keys (head_of b) plain fresh) ∷ [] }) b

-- Under these keys and with these fresh octets a body is as long whatever its head is: its length follows
-- from its plain text, as the law of a cipher says.
pub record TellsLength (body_of : Keys → List ℕ → List ℕ → List ℕ → List ℕ) (keys : Keys) (fresh : List ℕ) : Type 0 where
  pub told : (head other plain : List ℕ) → AreOctets head → AreOctets other → AreOctets plain → length (body_of keys head plain fresh) ≡ length (body_of keys other plain fresh)

-- The header of the message in clear, with the type of an encrypted payload and the length of the whole,
-- and that payload's header, before a body of so many octets.
abbrev pub sealed_head : List ℕ → ℕ → List ℕ
sealed_head clear body =
    take 16 clear ++ SEALED_TYPE ∷ take 7 (drop 17 clear) ++ big_bytes 4 (HEAD_LENGTH + body) ++ slice_index clear 16 ∷ 0 ∷ big_bytes 2 (4 + body)

-- the message in clear, with its payloads as the body of an encrypted one
abbrev pub sealed_octets : (Keys → List ℕ → List ℕ → List ℕ → List ℕ) → (ℕ → ℕ) → Keys → List ℕ → List ℕ → List ℕ
sealed_octets body_of sealed_size keys fresh clear =
    let head = sealed_head clear (sealed_size (length clear - HEADER_LENGTH)) in
    head ++ body_of keys head (drop HEADER_LENGTH clear) fresh

-- The message has a spelling, in clear so short that it fits a message whatever the cipher adds. A longer
-- one may fit too, under a cipher that adds less.
pub record CanBeSealed (m : Message) : Type 0 where
  pub clear : List ℕ
  pub spelled : SpellsPlainly m clear
  pub few : length clear ≤ CLEAR_LIMIT

-- the message has a spelling, which is too long once it is sealed
pub record IsTooLongSealed (sealed_size : ℕ → ℕ) (m : Message) : Type 0 where
  pub clear : List ℕ
  pub spelled : SpellsPlainly m clear
  pub many : MESSAGE_LIMIT < HEAD_LENGTH + sealed_size (length clear - HEADER_LENGTH)

-- Why a message isn't sealed: as it would be refused in clear, or because it is too long once it is sealed.
abbrev pub IsSealingFaultOf : (ℕ → ℕ) → Message → WireFault → Type 0
IsSealingFaultOf sealed_size m f =
    IsEncodingFaultOf m f ⊎ ((f ≡ TooLong) × IsTooLongSealed sealed_size m)

-- the first type and the body of an encrypted payload
abbrev pub body_in : Payload → Option Plain
body_in (Sealed first body) = Some (record { first = first; octets = body })
body_in _ = None

-- those of a message that has an encrypted payload and no other
abbrev pub lone_body : List Payload → Option Plain
lone_body [] = None
lone_body (p ∷ []) = body_in p
lone_body (p ∷ q ∷ ps) = None

-- what the body opens to, where it does, behind the same first type
abbrev pub plain_behind : ℕ → Option (List ℕ) → Option Plain
plain_behind first None = None
plain_behind first (Some plain) = Some (record { first = first; octets = plain })

abbrev pub plain_by : (List ℕ → Option (List ℕ)) → Option Plain → Option Plain
plain_by plain_of None = None
plain_by plain_of (Some sealed) = plain_behind sealed.first (plain_of sealed.octets)

-- What a datagram with these payloads opens to under keys; none where another payload stands beside the
-- encrypted one, or the body doesn't open.
abbrev pub plain_of_message : (Keys → List ℕ → List ℕ → Option (List ℕ)) → Keys → List ℕ → List Payload → Option Plain
plain_of_message plain_of keys b payloads = plain_by (λ body. plain_of keys (head_of b) body) (lone_body payloads)

-- The datagram spells a message of one encrypted payload, and that opens to octets that spell the payloads.
pub record OpensAgain (plain_of : Keys → List ℕ → List ℕ → Option (List ℕ)) (keys : Keys) (m : Message) (b : List ℕ) : Type 0 where
  pub sealed : Payload
  pub plain : Plain
  pub spelled : Spells (record { header = m.header; payloads = sealed ∷ [] }) b
  pub opens : plain_of_message plain_of keys b (sealed ∷ []) ≡ Some plain
  pub payloads : SpellsChain plain.first m.payloads plain.octets
