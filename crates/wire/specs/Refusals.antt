-- What is wrong with octets that spell nothing, and with a message that has no spelling.
use Rattle.std.specs.Prelude.{◌≡◌, ◌≢◌, ◌<◌, ◌≤◌, ◌+◌, ◌/◌, ◌⊎◌, ◌==◌, ◌||◌, if◌then◌else◌, ℕ, Bool, true, List, [], ◌∷◌, ◌++◌, length, drop, slice_index, IsTrue, Result, Err}
use Rattle.byteorder.specs.Endian.{big_number}
use Rattle.base.specs.Octets.{IsOctet}
use Rattle.wire.specs.Numbers.{NO_PAYLOAD, SA_TYPE, KE_TYPE, ID_I_TYPE, ID_R_TYPE, AUTH_TYPE, NONCE_TYPE, NOTIFY_TYPE, DELETE_TYPE, TS_I_TYPE, TS_R_TYPE, SEALED_TYPE, MAJOR_VERSION, HEADER_LENGTH, MESSAGE_LIMIT}
use Rattle.wire.specs.Parts.{IsPart, Joins}
use Rattle.wire.specs.Payloads.{type_of, SpellsPayload, SpellsPayloads, IsClear}
use Rattle.wire.specs.declared.payload.Payload.{Payload}
use Rattle.wire.specs.declared.payload.Payload.TheVariants.{Unknown}
use Rattle.wire.specs.declared.message.Message.{Message}
use Rattle.wire.specs.declared.fault.WireFault.{WireFault}
use Rattle.wire.specs.declared.fault.WireFault.TheVariants.{Short, BadLength, BadVersion, BadChain, BadProposal, BadSelector, BadNonce, BadField, TooLong, Memory}

-- payloads that the octets begin with, none of them encrypted: the first has the type t, and the last names
-- the type u
abbrev pub LeadsTo : ℕ → List Payload → ℕ → List ℕ → Type 0
LeadsTo t [] u x = (u ≡ t) × (x ≡ [])
LeadsTo t (p ∷ ps) u x = (t ≡ type_of p) × IsClear p × (next : ℕ) × Joins (SpellsPayload IsOctet p next) (LeadsTo next ps u) x

-- the octets begin with a payload's header and as many octets as it says
pub record BeginsPart (x : List ℕ) : Type 0 where
  pub first : ℕ
  pub second : ℕ
  pub inside : List ℕ
  pub after : List ℕ
  pub front : List ℕ
  pub joined : x ≡ front ++ after
  pub part : IsPart first second inside front

-- the octets begin with a payload of the type t; an encrypted one has to be the last, where there may be
-- one at all
pub record BeginsPayload (encrypted : Bool) (t : ℕ) (x : List ℕ) : Type 0 where
  pub payload : Payload
  pub next : ℕ
  pub front : List ℕ
  pub after : List ℕ
  pub joined : x ≡ front ++ after
  pub kind : t ≡ type_of payload
  pub spelled : SpellsPayload IsOctet payload next front
  pub last : t ≡ SEALED_TYPE → IsTrue encrypted × (after ≡ [])

-- no case of the grammar allows a payload of type t here, though there are a header and as many octets as
-- it says
abbrev pub IsRefused : Bool → ℕ → List ℕ → Type 0
IsRefused encrypted t x = BeginsPart x × (BeginsPayload encrypted t x → ⊥)

-- the fault of a payload of a type that is not as the grammar says, which begins at the offset
abbrev pub fault_of_type : ℕ → ℕ → WireFault
fault_of_type kind offset =
    if kind == SA_TYPE then BadProposal offset
    else if (kind == TS_I_TYPE) || (kind == TS_R_TYPE) then BadSelector offset
    else if kind == NONCE_TYPE then BadNonce offset
    else if (kind == KE_TYPE) || (kind == ID_I_TYPE) || (kind == ID_R_TYPE) || (kind == AUTH_TYPE) || (kind == NOTIFY_TYPE) || (kind == DELETE_TYPE)
    then BadField offset
    else BadChain offset

-- no payload is named and octets are left, or one is named that has no header or fewer octets than that says
abbrev pub IsBroken : ℕ → List ℕ → Type 0
IsBroken t x = ((t ≡ NO_PAYLOAD) × (x ≢ [])) ⊎ ((t ≢ NO_PAYLOAD) × (BeginsPart x → ⊥))

-- where no payload of the type t begins: the chain is broken, or no case of the grammar allows the payload
abbrev pub IsFaultAt : Bool → ℕ → List ℕ → ℕ → WireFault → Type 0
IsFaultAt encrypted t x offset f = (IsBroken t x × (f ≡ BadChain offset)) ⊎ ((t ≢ NO_PAYLOAD) × IsRefused encrypted t x × (f ≡ fault_of_type t offset))

-- A chain whose first payload has the type first begins at the offset start: payloads that the grammar
-- allows, and then one that it does not, or octets behind the last.
pub record IsChainFault (encrypted : Bool) (start first : ℕ) (x : List ℕ) (f : WireFault) : Type 0 where
  pub payloads : List Payload
  pub kind : ℕ
  pub front : List ℕ
  pub rest : List ℕ
  pub joined : x ≡ front ++ rest
  pub leads : LeadsTo first payloads kind front
  pub here : IsFaultAt encrypted kind rest (start + length front) f

abbrev pub length_field : List ℕ → ℕ
length_field b = big_number 4 (drop 24 b)

-- what can be a message by its length, by its length field, and by its version
abbrev pub HasLength : List ℕ → Type 0
HasLength b = (HEADER_LENGTH ≤ length b) × (length b ≤ MESSAGE_LIMIT)

abbrev pub HasVersion : List ℕ → Type 0
HasVersion b = HasLength b × (length_field b ≡ length b) × (slice_index b 17 / 16 ≡ MAJOR_VERSION)

-- the first fault of a datagram: of its length, of its header, and then of its payloads from left to right
abbrev pub IsFaultOf : List ℕ → WireFault → Type 0
IsFaultOf b Short = length b < HEADER_LENGTH
IsFaultOf b BadLength = HasLength b × (length_field b ≢ length b)
IsFaultOf b BadVersion = HasLength b × (length_field b ≡ length b) × (slice_index b 17 / 16 ≢ MAJOR_VERSION)
IsFaultOf b TooLong = MESSAGE_LIMIT < length b
IsFaultOf b Memory = ⊥
IsFaultOf b f = HasVersion b × IsChainFault true HEADER_LENGTH (slice_index b 16) (drop HEADER_LENGTH b) f

-- what a call answers, unless a growth is refused
abbrev pub IsUnlessMemory : {T : Type 0} → Result T WireFault → Result T WireFault → Type 0
IsUnlessMemory answer wanted = (answer ≡ wanted) ⊎ (answer ≡ Err Memory)

-- The fault of a payload that has no spelling, which would begin at the offset. An unknown one may have the
-- type of another form.
abbrev pub fault_in : Payload → ℕ → WireFault
fault_in (Unknown kind critical octets) offset = BadChain offset
fault_in p offset = fault_of_type (type_of p) offset

-- No list at all spells the payload, whatever it names next; or it is encrypted, and others follow it.
abbrev pub HasNoSpelling : Payload → List Payload → Type 0
HasNoSpelling p after = ((next : ℕ) (x : List ℕ) → SpellsPayload IsOctet p next x → ⊥) ⊎ ((type_of p ≡ SEALED_TYPE) × (after ≢ []))

-- The first payload that has no spelling; those before it are spelled by some octets, so it would begin
-- behind them.
pub record IsPayloadFault (start : ℕ) (ps : List Payload) (f : WireFault) : Type 0 where
  pub before : List Payload
  pub payload : Payload
  pub after : List Payload
  pub split : ps ≡ before ++ payload ∷ after
  pub first : ℕ
  pub octets : List ℕ
  pub leads : LeadsTo first before (type_of payload) octets
  pub unspelled : HasNoSpelling payload after
  pub fault : f ≡ fault_in payload (start + length octets)

-- the payloads have a spelling, with which the message passes its limit
abbrev pub PassesLimit : List Payload → Type 0
PassesLimit ps = (first : ℕ) × (x : List ℕ) × SpellsPayloads IsOctet first ps x × (MESSAGE_LIMIT < HEADER_LENGTH + length x)

-- the first fault of a message that is to be encoded: of its version, then of its payloads, then of its
-- length
abbrev pub IsEncodingFaultOf : Message → WireFault → Type 0
IsEncodingFaultOf m Short = ⊥
IsEncodingFaultOf m BadLength = ⊥
IsEncodingFaultOf m BadVersion = 16 ≤ m.header.minor
IsEncodingFaultOf m TooLong = (m.header.minor < 16) × PassesLimit m.payloads
IsEncodingFaultOf m Memory = ⊥
IsEncodingFaultOf m f = (m.header.minor < 16) × IsPayloadFault HEADER_LENGTH m.payloads f
