-- What the writers of the code make of the octets so far, step by step: private contracts cite it, and
-- lemmas lead from it to the grammar.
use Rattle.std.specs.Prelude.{◌≡◌, ◌≢◌, ℕ, ◌+◌, ◌-◌, ◌*◌, ◌^◌, ◌<◌, Bool, List, [], ◌∷◌, ◌++◌, length, take, drop, Option, Some, None, Result, Ok, Err, nat_lt, nat_le, ◌==◌, ◌||◌, ◌&&◌, not, if◌then◌else◌, ok_or}
use Rattle.byteorder.specs.Endian.{big_bytes}
use Rattle.base.specs.declared.address.Range.{Range}
use Rattle.base.specs.declared.address.Range.TheVariants as range
use Rattle.base.specs.declared.selector.Selector.{Selector}
use Rattle.wire.specs.Numbers.{NO_PAYLOAD, SA_TYPE, SEALED_TYPE, EAP_TYPE, IKE_PROTOCOL, AH_PROTOCOL, ESP_PROTOCOL, MORE_PROPOSALS, MORE_TRANSFORMS, MAJOR_VERSION, HEADER_LENGTH, NONCE_LEAST, NONCE_LIMIT, SPI_LENGTH, MESSAGE_LIMIT, SELECTOR_LIMIT, KEY_EXCHANGE_LIMIT, IDENTITY_LIMIT, AUTHENTICATION_LIMIT}
use Rattle.wire.specs.Messages.{bit}
use Rattle.wire.specs.Selectors.{selector_type}
use Rattle.wire.specs.Payloads.{type_of}
use Rattle.wire.specs.Refusals.{fault_in}
use Rattle.wire.specs.Reading.{◌>>=◌, ◌>>>◌, are_numbered, is_in_order}
use Rattle.wire.specs.declared.writer.Unwritten.{Unwritten}
use Rattle.wire.specs.declared.writer.Unwritten.TheVariants.{Unspelled, Memory}
use Rattle.wire.specs.declared.payload.Payload.{Payload}
use Rattle.wire.specs.declared.payload.Payload.TheVariants.{Sa, Ke, IdI, IdR, Auth, Nonce, Notify, Delete, TsI, TsR, Sealed, Skipped, Unknown}
use Rattle.wire.specs.declared.proposal.Attribute.{Attribute}
use Rattle.wire.specs.declared.proposal.Attribute.TheVariants.{Short, Long}
use Rattle.wire.specs.declared.proposal.Transform.{Transform}
use Rattle.wire.specs.declared.proposal.Proposal.{Proposal}
use Rattle.wire.specs.declared.message.Flags.{Flags}
use Rattle.wire.specs.declared.message.Header.{Header}
use Rattle.wire.specs.declared.message.Message.{Message}
use Rattle.wire.specs.declared.fault.WireFault.{WireFault}
use Rattle.wire.specs.declared.fault.WireFault.TheVariants as faults

-- the octets that a writer leaves, unless a growth was refused, are those that it is to make
abbrev pub Fails : Unwritten → Option (List ℕ) → Type 0
Fails Memory made = Unit {0}
Fails Unspelled made = made ≡ None

abbrev pub Writes : {U : Type 0} → List ℕ → Result U Unwritten → Option (List ℕ) → Type 0
Writes new (Ok u) made = made ≡ Some new
Writes new (Err f) made = Fails f made

abbrev pub octets_onto : List ℕ → List ℕ → Option (List ℕ)
octets_onto xs old = Some (old ++ xs)

-- a number that so many octets spell
abbrev pub number_onto : ℕ → ℕ → List ℕ → Option (List ℕ)
number_onto count n old = if nat_lt n (256 ^ count) then Some (old ++ big_bytes count n) else None

-- one item after the other
unfoldable pub each_onto : {A : Type 0} → (A → List ℕ → Option (List ℕ)) → List A → List ℕ → Option (List ℕ)
each_onto item [] old = Some old
each_onto item (a ∷ others) old = item a old >>= λ mid. each_onto item others mid

-- The header of a part, without its length; and the part that begins at start with its length.
abbrev pub open_onto : ℕ → ℕ → List ℕ → Option (List ℕ)
open_onto first second old = Some (old ++ first ∷ second ∷ 0 ∷ 0 ∷ [])

abbrev pub close_onto : ℕ → List ℕ → Option (List ℕ)
close_onto start old = if nat_lt (length old - start) (2 ^ 16) then Some (take (start + 2) old ++ big_bytes 2 (length old - start) ++ drop (start + 4) old) else None

abbrev pub part_onto : ℕ → ℕ → (List ℕ → Option (List ℕ)) → List ℕ → Option (List ℕ)
part_onto first second inside old = open_onto first second old >>= λ opened. inside opened >>= λ full. close_onto (length old) full

-- parts, the last of which is marked by 0 and the others by more
unfoldable pub marked_from : {A : Type 0} → ℕ → (A → List ℕ → Option (List ℕ)) → List A → List ℕ → Option (List ℕ)
marked_from more item [] old = Some old
marked_from more item (a ∷ others) old = part_onto (if length others == 0 then 0 else more) 0 (item a) old >>= λ mid. marked_from more item others mid

-- at least one part
abbrev pub marked_onto : {A : Type 0} → ℕ → (A → List ℕ → Option (List ℕ)) → List A → List ℕ → Option (List ℕ)
marked_onto more item found old = if length found == 0 then None else marked_from more item found old

unfoldable pub attribute_onto : Attribute → List ℕ → Option (List ℕ)
attribute_onto (Short kind value) old = if nat_lt kind (2 ^ 15) then (number_onto 2 (2 ^ 15 + kind) old >>= λ mid. number_onto 2 value mid) else None
attribute_onto (Long kind value) old = if nat_lt kind (2 ^ 15) && nat_lt (length value) (2 ^ 16) then (number_onto 2 kind old >>= λ mid. number_onto 2 (length value) mid >>= λ next. octets_onto value next) else None

unfoldable pub transform_onto : Transform → List ℕ → Option (List ℕ)
transform_onto t old = octets_onto (t.kind ∷ 0 ∷ []) old >>= λ mid. number_onto 2 t.id mid >>= λ next. each_onto attribute_onto t.attributes next

unfoldable pub proposal_onto : Proposal → List ℕ → Option (List ℕ)
proposal_onto p old =
    if nat_lt (length p.spi) 256 && nat_lt (length p.transforms) 256
    then (octets_onto (p.number ∷ p.protocol ∷ length p.spi ∷ length p.transforms ∷ []) old >>= λ mid. octets_onto p.spi mid >>= λ next. marked_onto MORE_TRANSFORMS transform_onto p.transforms next)
    else None

unfoldable pub proposals_onto : List Proposal → List ℕ → Option (List ℕ)
proposals_onto ps old = if are_numbered ps then marked_onto MORE_PROPOSALS proposal_onto ps old else None

-- both ends, in so many octets each
abbrev pub ends_onto : ℕ → ℕ → ℕ → List ℕ → Option (List ℕ)
ends_onto width start end old = number_onto width start old >>= λ mid. number_onto width end mid

unfoldable pub range_onto : Range → List ℕ → Option (List ℕ)
range_onto (range.V4 start end) old = ends_onto 4 start end old
range_onto (range.V6 start end) old = ends_onto 16 start end old

unfoldable pub inside_onto : Selector → List ℕ → Option (List ℕ)
inside_onto s old = number_onto 2 s.start_port old >>= λ a. number_onto 2 s.end_port a >>= λ b. range_onto s.addresses b

unfoldable pub selector_onto : Selector → List ℕ → Option (List ℕ)
selector_onto s old = if is_in_order s then part_onto (selector_type s.addresses) s.protocol (inside_onto s) old else None

unfoldable pub selectors_onto : List Selector → List ℕ → Option (List ℕ)
selectors_onto ss old = if nat_le 1 (length ss) && nat_le (length ss) SELECTOR_LIMIT then (octets_onto (length ss ∷ 0 ∷ 0 ∷ 0 ∷ []) old >>= λ mid. each_onto selector_onto ss mid) else None

-- data of at least one octet
abbrev pub data_onto : ℕ → List ℕ → List ℕ → Option (List ℕ)
data_onto limit xs old = if (length xs == 0) || nat_lt limit (length xs) then None else Some (old ++ xs)

unfoldable pub ke_onto : ℕ → List ℕ → List ℕ → Option (List ℕ)
ke_onto group xs old = number_onto 2 group old >>= λ mid. octets_onto (0 ∷ 0 ∷ []) mid >>= λ next. data_onto KEY_EXCHANGE_LIMIT xs next

unfoldable pub typed_onto : ℕ → ℕ → List ℕ → List ℕ → Option (List ℕ)
typed_onto limit kind xs old = octets_onto (kind ∷ 0 ∷ 0 ∷ 0 ∷ []) old >>= λ mid. data_onto limit xs mid

unfoldable pub nonce_onto : List ℕ → List ℕ → Option (List ℕ)
nonce_onto xs old = if nat_le NONCE_LEAST (length xs) && nat_le (length xs) NONCE_LIMIT then Some (old ++ xs) else None

unfoldable pub notify_onto : ℕ → List ℕ → ℕ → List ℕ → List ℕ → Option (List ℕ)
notify_onto protocol spi kind xs old =
    if nat_lt (length spi) 256
    then (octets_onto (protocol ∷ length spi ∷ []) old >>= λ a. number_onto 2 kind a >>= λ b. octets_onto spi b >>= λ c. octets_onto xs c)
    else None

-- the size of each of so many SPIs of this protocol
abbrev pub spi_size : ℕ → ℕ → Option ℕ
spi_size protocol count =
    if protocol == IKE_PROTOCOL then (if count == 0 then Some 0 else None) else if (protocol == AH_PROTOCOL) || (protocol == ESP_PROTOCOL) then Some SPI_LENGTH else None

unfoldable pub delete_onto : ℕ → List ℕ → List ℕ → Option (List ℕ)
delete_onto protocol spis old = spi_size protocol (length spis) >>= λ size. octets_onto (protocol ∷ size ∷ []) old >>= λ mid. number_onto 2 (length spis) mid >>= λ next. each_onto (number_onto 4) spis next

unfoldable pub body_onto : Payload → List ℕ → Option (List ℕ)
body_onto (Sa proposals) old = proposals_onto proposals old
body_onto (Ke group octets) old = ke_onto group octets old
body_onto (IdI kind octets) old = typed_onto IDENTITY_LIMIT kind octets old
body_onto (IdR kind octets) old = typed_onto IDENTITY_LIMIT kind octets old
body_onto (Auth method octets) old = typed_onto AUTHENTICATION_LIMIT method octets old
body_onto (Nonce octets) old = nonce_onto octets old
body_onto (Notify protocol spi kind octets) old = notify_onto protocol spi kind octets old
body_onto (Delete protocol spis) old = delete_onto protocol spis old
body_onto (TsI selectors) old = selectors_onto selectors old
body_onto (TsR selectors) old = selectors_onto selectors old
body_onto (Sealed first body) old = Some (old ++ body)
body_onto (Skipped kind octets) old = Some (old ++ octets)
body_onto (Unknown kind critical octets) old = Some (old ++ octets)

abbrev pub is_unknown : ℕ → Bool
is_unknown kind = (nat_lt NO_PAYLOAD kind && nat_lt kind SA_TYPE) || (nat_lt EAP_TYPE kind && nat_lt kind 256)

-- The first two octets of a payload's header, where next is the type of the payload behind it: an encrypted
-- one names the type of the first payload inside it, and an unknown one has its critical bit. An unknown
-- type has no form of its own.
abbrev pub header_octets : Payload → ℕ → Option (ℕ × ℕ)
header_octets (Sealed first body) next = Some (first, 0)
header_octets (Unknown kind critical octets) next = if is_unknown kind then Some (next, if critical then 128 else 0) else None
header_octets p next = Some (next, 0)

unfoldable pub payload_onto : Payload → ℕ → List ℕ → Option (List ℕ)
payload_onto p next old = header_octets p next >>= λ octets. part_onto octets.0 octets.1 (body_onto p) old

-- the type of the first payload, 0 for none
abbrev pub first_type : List Payload → ℕ
first_type [] = NO_PAYLOAD
first_type (p ∷ ps) = type_of p

-- what a function left in a vector, unless a growth was refused, is what is to be made
abbrev pub Makes : {U : Type 0} → List ℕ → Result U WireFault → Result (List ℕ) WireFault → Type 0
Makes new (Ok u) made = made ≡ Ok new
Makes new (Err f) made = f ≢ faults.Memory → made ≡ Err f

abbrev pub link_onto : Payload → List Payload → List ℕ → Result (List ℕ) WireFault
link_onto p others old = if (type_of p == SEALED_TYPE) && not (length others == 0) then Err (fault_in p (length old)) else ok_or (payload_onto p (first_type others) old) (fault_in p (length old))

unfoldable pub payloads_onto : List Payload → List ℕ → Result (List ℕ) WireFault
payloads_onto [] old = Ok old
payloads_onto (p ∷ ps) old = link_onto p ps old >>> λ mid. payloads_onto ps mid

abbrev pub flags_octet : Flags → ℕ
flags_octet f = 8 * bit f.initiator + 16 * bit f.version + 32 * bit f.response

-- the numbers of a header are of their octets
pub record FitsHeader (h : Header) : Type 0 where
  pub spi_i : h.spi_i < 2 ^ 64
  pub spi_r : h.spi_r < 2 ^ 64
  pub id : h.id < 2 ^ 32

unfoldable pub header_onto : Header → ℕ → List ℕ → Option (List ℕ)
header_onto h first old = number_onto 8 h.spi_i old >>= λ a. number_onto 8 h.spi_r a >>= λ b. octets_onto (first ∷ (16 * MAJOR_VERSION + h.minor) ∷ h.exchange ∷ flags_octet h.flags ∷ []) b >>= λ c. number_onto 4 h.id c >>= λ d. octets_onto (0 ∷ 0 ∷ 0 ∷ 0 ∷ []) d

-- with the length of the whole in its place
abbrev pub with_length : List ℕ → List ℕ
with_length whole = take 24 whole ++ big_bytes 4 (length whole) ++ drop HEADER_LENGTH whole

unfoldable pub encoding_of : Message → Result (List ℕ) WireFault
encoding_of m =
    if nat_le 16 m.header.minor then Err faults.BadVersion
    else ok_or (header_onto m.header (first_type m.payloads) []) faults.BadVersion >>> λ head. payloads_onto m.payloads head >>> λ whole. if nat_lt MESSAGE_LIMIT (length whole) then Err faults.TooLong else Ok (with_length whole)
