-- What the readers of the code give, step by step: private contracts cite it, and lemmas lead from it to
-- the grammar.
use Rattle.std.specs.Prelude.{◌≡◌, ℕ, zero, suc, ◌+◌, ◌-◌, ◌*◌, ◌^◌, Bool, true, false, List, [], ◌∷◌, length, take, drop, Option, Some, None, Result, Ok, Err, IsOk, nat_lt, nat_le, ◌==◌, ◌||◌, ◌&&◌, if◌then◌else◌, option_and_then, slice_index, ok_or, not, ◌≢◌, ◌/◌, ◌%◌}
use Rattle.byteorder.specs.Endian.{big_number}
use Rattle.base.specs.declared.address.Range.{Range}
use Rattle.base.specs.declared.address.Range.TheVariants as range
use Rattle.base.specs.declared.selector.Selector.{Selector}
use Rattle.wire.specs.Numbers.{NO_PAYLOAD, SA_TYPE, KE_TYPE, ID_I_TYPE, ID_R_TYPE, CERTIFICATE_TYPE, CERTIFICATE_REQUEST_TYPE, AUTH_TYPE, NONCE_TYPE, NOTIFY_TYPE, DELETE_TYPE, VENDOR_ID_TYPE, TS_I_TYPE, TS_R_TYPE, SEALED_TYPE, CONFIGURATION_TYPE, EAP_TYPE, IKE_PROTOCOL, AH_PROTOCOL, ESP_PROTOCOL, IPV4_RANGE_TYPE, IPV6_RANGE_TYPE, MORE_PROPOSALS, MORE_TRANSFORMS, MAJOR_VERSION, HEADER_LENGTH, NONCE_LEAST, NONCE_LIMIT, SPI_LENGTH, IPV4_RANGE_LENGTH, IPV6_RANGE_LENGTH, MESSAGE_LIMIT, SELECTOR_LIMIT, KEY_EXCHANGE_LIMIT, IDENTITY_LIMIT, AUTHENTICATION_LIMIT}
use Rattle.wire.specs.Refusals.{fault_of_type}
use Rattle.wire.specs.declared.checking.Numbers.{Numbers}
use Rattle.wire.specs.declared.reader.Unread.{Unread}
use Rattle.wire.specs.declared.reader.Unread.TheVariants.{Malformed, Memory}
use Rattle.wire.specs.declared.payload.Payload.{Payload}
use Rattle.wire.specs.declared.payload.Payload.TheVariants as payloads
use Rattle.wire.specs.declared.proposal.Attribute.{Attribute}
use Rattle.wire.specs.declared.proposal.Attribute.TheVariants.{Short, Long}
use Rattle.wire.specs.declared.proposal.Transform.{Transform}
use Rattle.wire.specs.declared.proposal.Proposal.{Proposal}
use Rattle.wire.specs.declared.payload.SkippedKind.TheVariants as skipped
use Rattle.wire.specs.declared.form.Form.{Form}
use Rattle.wire.specs.declared.form.Form.TheVariants as forms
use Rattle.wire.specs.declared.fault.WireFault.{WireFault}
use Rattle.wire.specs.declared.fault.WireFault.TheVariants as faults
use Rattle.wire.specs.declared.message.Flags.{Flags}
use Rattle.wire.specs.declared.message.Head.{Head}
use Rattle.wire.specs.declared.message.Message.{Message}

infixl 10 ◌>>=◌
abbrev pub ◌>>=◌ : {A B : Type 0} → Option A → (A → Option B) → Option B
o >>= f = option_and_then f o

-- what a function returned, unless a growth was refused, is what reading gives
abbrev pub Gives : {X Y : Type 0} → (X → Y) → Result X Unread → Option Y → Type 0
Gives view (Ok x) read = read ≡ Some (view x)
Gives view (Err Memory) read = Unit {0}
Gives view (Err Malformed) read = read ≡ None

-- the same of a reader, which has these octets left
abbrev pub Reads : {X Y : Type 0} → (X → Y) → List ℕ → Result X Unread → Option (Y × List ℕ) → Type 0
Reads view left (Ok x) read = read ≡ Some (view x, left)
Reads view left (Err Memory) read = Unit {0}
Reads view left (Err Malformed) read = read ≡ None

-- What a check finds of octets that it doesn't keep. It takes no memory: where it finds nothing, reading
-- gives nothing.
abbrev pub Finds : {X Y : Type 0} → (Y → X) → Result X Unread → Option Y → Type 0
Finds {Y = Y} view (Ok x) read = (y : Y) × (read ≡ Some y) × (view y ≡ x)
Finds view (Err e) read = read ≡ None

-- the same of a check that tells nothing else
abbrev pub Checks : {X Y : Type 0} → Result X Unread → Option Y → Type 0
Checks {Y = Y} (Ok x) read = (y : Y) × (read ≡ Some y)
Checks (Err e) read = read ≡ None

-- the same of a reader, which has these octets left
abbrev pub Leaves : {X Y : Type 0} → List ℕ → Result X Unread → Option (Y × List ℕ) → Type 0
Leaves {Y = Y} left (Ok x) read = (y : Y) × (read ≡ Some (y, left))
Leaves left (Err e) read = read ≡ None

abbrev pub octets_at : ℕ → List ℕ → Option (List ℕ × List ℕ)
octets_at count xs = if nat_lt (length xs) count then None else Some (take count xs, drop count xs)

abbrev pub octet_at : List ℕ → Option (ℕ × List ℕ)
octet_at xs = octets_at 1 xs >>= λ x. Some (slice_index x.0 0, x.1)

abbrev pub number_at : ℕ → List ℕ → Option (ℕ × List ℕ)
number_at count xs = octets_at count xs >>= λ x. Some (big_number count x.0, x.1)

-- a part: the first two octets of its header, and what is behind it
pub record Piece : Type 0 where
  pub first : ℕ
  pub second : ℕ
  pub inside : List ℕ

abbrev pub piece_of : ℕ → ℕ → List ℕ → Piece
piece_of first second inside = record { first = first; second = second; inside = inside }

unfoldable pub part_at : List ℕ → Option (Piece × List ℕ)
part_at xs = do
  first ← octet_at xs
  second ← octet_at first.1
  size ← number_at 2 second.1
  if nat_lt size.0 4 then None else (octets_at (size.0 - 4) size.1 >>= λ inside. Some (piece_of first.0 second.0 inside.0, inside.1))

-- one item after the other, up to the end; in at most so many steps
unfoldable pub each_of : {A : Type 0} → (List ℕ → Option (A × List ℕ)) → ℕ → List ℕ → Option (List A)
each_of item zero xs = if length xs == 0 then Some [] else None
each_of item (suc steps) xs = if length xs == 0 then Some [] else (item xs >>= λ a. each_of item steps a.1 >>= λ others. Some (a.0 ∷ others))

-- whether another part follows one with this mark
abbrev pub goes_on : ℕ → ℕ → Option Bool
goes_on more mark = if mark == 0 then Some false else if mark == more then Some true else None

-- parts up to the end, the last of which alone is marked so; in at most so many steps
unfoldable pub marked_of : {A : Type 0} → ℕ → (List ℕ → Option A) → ℕ → Bool → List ℕ → Option (List A)
marked_of more item steps false xs = if length xs == 0 then Some [] else None
marked_of more item zero true xs = None
marked_of more item (suc steps) true xs = do
  part ← part_at xs
  another ← goes_on more part.0.first
  a ← item part.0.inside
  others ← marked_of more item steps another part.1
  Some (a ∷ others)

unfoldable pub attribute_at : List ℕ → Option (Attribute × List ℕ)
attribute_at xs = do
  kind ← number_at 2 xs
  value ← number_at 2 kind.1
  if nat_le (2 ^ 15) kind.0 then Some (Short (kind.0 - 2 ^ 15) value.0, value.1) else (octets_at value.0 value.1 >>= λ octets. Some (Long kind.0 octets.0, octets.1))

unfoldable pub transform_of : List ℕ → Option Transform
transform_of xs = do
  kind ← octet_at xs
  reserved ← octet_at kind.1
  id ← number_at 2 reserved.1
  attributes ← each_of attribute_at (length id.1) id.1
  Some (record { kind = kind.0; id = id.0; attributes = attributes })

unfoldable pub proposal_of : List ℕ → Option Proposal
proposal_of xs = do
  number ← octet_at xs
  protocol ← octet_at number.1
  size ← octet_at protocol.1
  count ← octet_at size.1
  spi ← octets_at size.0 count.1
  transforms ← marked_of MORE_TRANSFORMS transform_of (length spi.1) true spi.1
  if length transforms == count.0 then Some (record { number = number.0; protocol = protocol.0; spi = spi.0; transforms = transforms }) else None

abbrev pub numbered_from : ℕ → List Proposal → Bool
numbered_from n [] = true
numbered_from n (p ∷ ps) = (p.number == n) && numbered_from (n + 1) ps

-- the last number, 0 where there is none
unfoldable pub last_number : List Proposal → ℕ
last_number [] = 0
last_number (p ∷ []) = p.number
last_number (p ∷ q ∷ ps) = last_number (q ∷ ps)

-- what a check keeps of the numbers of proposals
abbrev pub numbers_of : List Proposal → Numbers
numbers_of ps = record { count = length ps; last = last_number ps; in_order = numbered_from 1 ps }

unfoldable pub are_numbered : List Proposal → Bool
are_numbered [] = false
are_numbered (p ∷ []) = nat_le 1 p.number
are_numbered (p ∷ q ∷ ps) = numbered_from 1 (p ∷ q ∷ ps)

unfoldable pub proposals_of : List ℕ → Option (List Proposal)
proposals_of xs = do
  proposals ← marked_of MORE_PROPOSALS proposal_of (length xs) true xs
  if are_numbered proposals then Some proposals else None

-- both ends of a range, in so many octets each, and nothing behind them
unfoldable pub range_at : ℕ → (ℕ → ℕ → Range) → List ℕ → Option Range
range_at width made xs = do
  start ← number_at width xs
  end ← number_at width start.1
  if length end.1 == 0 then Some (made start.0 end.0) else None

-- the range that a selector of this type has
unfoldable pub range_of : ℕ → List ℕ → Option Range
range_of kind xs = if kind == IPV4_RANGE_TYPE then range_at 4 range.V4 xs else if kind == IPV6_RANGE_TYPE then range_at 16 range.V6 xs else None

abbrev pub is_ordered : Range → Bool
is_ordered (range.V4 start end) = nat_le start end
is_ordered (range.V6 start end) = nat_le start end

abbrev pub is_in_order : Selector → Bool
is_in_order s = nat_le s.start_port s.end_port && is_ordered s.addresses

abbrev pub in_order : Selector → Option Selector
in_order s = if is_in_order s then Some s else None

unfoldable pub selector_at : List ℕ → Option (Selector × List ℕ)
selector_at xs = do
  part ← part_at xs
  start_port ← number_at 2 part.0.inside
  end_port ← number_at 2 start_port.1
  addresses ← range_of part.0.first end_port.1
  selector ← in_order (record { protocol = part.0.second; start_port = start_port.0; end_port = end_port.0; addresses = addresses })
  Some (selector, part.1)

-- whether so many selectors of either family can have so many octets
abbrev pub is_counted : ℕ → ℕ → Bool
is_counted count size = nat_le 1 count && nat_le count SELECTOR_LIMIT && nat_le (IPV4_RANGE_LENGTH * count) size && nat_le size (IPV6_RANGE_LENGTH * count)

unfoldable pub selectors_of : List ℕ → Option (List Selector)
selectors_of xs = do
  count ← octet_at xs
  reserved ← octets_at 3 count.1
  selectors ← if is_counted count.0 (length reserved.1) then each_of selector_at (length reserved.1) reserved.1 else None
  if length selectors == count.0 then Some selectors else None

-- data from an octet to a limit
abbrev pub data_of : ℕ → List ℕ → Option (List ℕ)
data_of limit xs = if (length xs == 0) || nat_lt limit (length xs) then None else Some xs

unfoldable pub ke_of : List ℕ → Option (ℕ × List ℕ)
ke_of xs = do
  group ← number_at 2 xs
  reserved ← octets_at 2 group.1
  octets ← data_of KEY_EXCHANGE_LIMIT reserved.1
  Some (group.0, octets)

unfoldable pub typed_of : ℕ → List ℕ → Option (ℕ × List ℕ)
typed_of limit xs = do
  kind ← octet_at xs
  reserved ← octets_at 3 kind.1
  octets ← data_of limit reserved.1
  Some (kind.0, octets)

unfoldable pub nonce_of : List ℕ → Option (List ℕ)
nonce_of xs = if nat_le NONCE_LEAST (length xs) && nat_le (length xs) NONCE_LIMIT then Some xs else None

unfoldable pub notify_of : List ℕ → Option Payload
notify_of xs = do
  protocol ← octet_at xs
  size ← octet_at protocol.1
  kind ← number_at 2 size.1
  spi ← octets_at size.0 kind.1
  Some (payloads.Notify protocol.0 spi.0 kind.0 spi.1)

-- whether SPIs of this protocol have this size and can be so many
abbrev pub is_sized : ℕ → ℕ → ℕ → Bool
is_sized protocol size count = if protocol == IKE_PROTOCOL then (size == 0) && (count == 0) else if (protocol == AH_PROTOCOL) || (protocol == ESP_PROTOCOL) then size == SPI_LENGTH else false

unfoldable pub delete_of : List ℕ → Option Payload
delete_of xs = do
  protocol ← octet_at xs
  size ← octet_at protocol.1
  count ← number_at 2 size.1
  if is_sized protocol.0 size.0 count.0 && (length count.1 == SPI_LENGTH * count.0) then (each_of (number_at 4) (length count.1) count.1 >>= λ spis. Some (payloads.Delete protocol.0 spis)) else None

-- what is refused where octets have this fault unless they are read
abbrev pub refusal_of : Unread → WireFault → WireFault
refusal_of Malformed fault = fault
refusal_of Memory fault = faults.Memory

-- ---- payloads by their types

abbrev pub form_of : ℕ → Form
form_of kind =
    if kind == SA_TYPE then forms.Sa else if kind == KE_TYPE then forms.Ke else if kind == ID_I_TYPE then forms.IdI else if kind == ID_R_TYPE then forms.IdR
    else if kind == CERTIFICATE_TYPE then forms.Skipped skipped.Certificate else if kind == CERTIFICATE_REQUEST_TYPE then forms.Skipped skipped.CertificateRequest
    else if kind == AUTH_TYPE then forms.Auth else if kind == NONCE_TYPE then forms.Nonce else if kind == NOTIFY_TYPE then forms.Notify else if kind == DELETE_TYPE then forms.Delete
    else if kind == VENDOR_ID_TYPE then forms.Skipped skipped.VendorId else if kind == TS_I_TYPE then forms.TsI else if kind == TS_R_TYPE then forms.TsR
    else if kind == SEALED_TYPE then forms.Sealed else if kind == CONFIGURATION_TYPE then forms.Skipped skipped.Configuration
    else if kind == EAP_TYPE then forms.Skipped skipped.Eap else forms.Unknown

-- the payload of this form and type whose header has this second octet; an encrypted one is not made here
unfoldable pub body_of : Form → ℕ → ℕ → List ℕ → Option Payload
body_of forms.Sa kind second xs = proposals_of xs >>= λ proposals. Some (payloads.Sa proposals)
body_of forms.Ke kind second xs = ke_of xs >>= λ x. Some (payloads.Ke x.0 x.1)
body_of forms.IdI kind second xs = typed_of IDENTITY_LIMIT xs >>= λ x. Some (payloads.IdI x.0 x.1)
body_of forms.IdR kind second xs = typed_of IDENTITY_LIMIT xs >>= λ x. Some (payloads.IdR x.0 x.1)
body_of forms.Auth kind second xs = typed_of AUTHENTICATION_LIMIT xs >>= λ x. Some (payloads.Auth x.0 x.1)
body_of forms.Nonce kind second xs = nonce_of xs >>= λ octets. Some (payloads.Nonce octets)
body_of forms.Notify kind second xs = notify_of xs
body_of forms.Delete kind second xs = delete_of xs
body_of forms.TsI kind second xs = selectors_of xs >>= λ selectors. Some (payloads.TsI selectors)
body_of forms.TsR kind second xs = selectors_of xs >>= λ selectors. Some (payloads.TsR selectors)
body_of forms.Sealed kind second xs = None
body_of (forms.Skipped skipped) kind second xs = Some (payloads.Skipped skipped xs)
body_of forms.Unknown kind second xs = Some (payloads.Unknown kind (nat_le 128 second) xs)

infixl 10 ◌>>>◌
abbrev pub ◌>>>◌ : {A B : Type 0} → Result A WireFault → (A → Result B WireFault) → Result B WireFault
(Ok x) >>> f = f x
(Err e) >>> f = Err e

-- what a function returned, unless a growth was refused, is what reading gives
abbrev pub Answers : {X Y : Type 0} → (X → Y) → Result X WireFault → Result Y WireFault → Type 0
Answers view (Ok x) read = read ≡ Ok (view x)
Answers view (Err e) read = e ≢ faults.Memory → read ≡ Err e

-- a payload, the type of the payload behind it, and the octets behind it
pub record Linked : Type 0 where
  pub payload : Payload
  pub next : ℕ
  pub left : List ℕ

abbrev pub link_of : Payload → ℕ → List ℕ → Linked
link_of payload next left = record { payload = payload; next = next; left = left }

-- what is passed over is what reading gives, and no memory is wanted
abbrev pub Passes : List ℕ → Result ℕ WireFault → Result Linked WireFault → Type 0
Passes left (Ok next) read = (payload : Payload) × (read ≡ Ok (link_of payload next left))
Passes left (Err f) read = (read ≡ Err f) × (f ≢ faults.Memory)

-- the fault of reading, where there is one
abbrev pub Allows : {X Y : Type 0} → Result X WireFault → Result Y WireFault → Type 0
Allows (Ok x) read = IsOk read
Allows (Err f) read = (read ≡ Err f) × (f ≢ faults.Memory)

-- an encrypted payload has to be the last, where there may be one; nothing follows it
abbrev pub sealed_of : Bool → ℕ → ℕ → Piece → List ℕ → Result Linked WireFault
sealed_of encrypted kind offset part left =
    if encrypted && (length left == 0) then Ok (link_of (payloads.Sealed part.first part.inside) NO_PAYLOAD left) else Err (fault_of_type kind offset)

abbrev pub open_of : Form → ℕ → ℕ → Piece → List ℕ → Result Linked WireFault
open_of form kind offset part left = ok_or (body_of form kind part.second part.inside) (fault_of_type kind offset) >>> λ payload. Ok (link_of payload part.first left)

abbrev pub inside_of : Bool → Form → ℕ → ℕ → Piece → List ℕ → Result Linked WireFault
inside_of encrypted forms.Sealed kind offset part left = sealed_of encrypted kind offset part left
inside_of encrypted form kind offset part left = open_of form kind offset part left

-- the payload of this type that the octets begin with; end is the offset behind the last of them
unfoldable pub payload_at : Bool → ℕ → ℕ → List ℕ → Result Linked WireFault
payload_at encrypted end kind xs = ok_or (part_at xs) (faults.BadChain (end - length xs)) >>> λ part. inside_of encrypted (form_of kind) kind (end - length xs) part.0 part.1

-- the chain of payloads that begins with this type, in at most so many steps
unfoldable pub chain_at : Bool → ℕ → ℕ → ℕ → List ℕ → Result (List Payload) WireFault
chain_at encrypted end steps zero xs = if length xs == 0 then Ok [] else Err (faults.BadChain (end - length xs))
chain_at encrypted end zero (suc kind) xs = Err (faults.BadChain (end - length xs))
chain_at encrypted end (suc steps) (suc kind) xs = payload_at encrypted end (suc kind) xs >>> λ p. chain_at encrypted end steps p.next p.left >>> λ ps. Ok (p.payload ∷ ps)

-- ---- the header

abbrev pub bit_of : ℕ → ℕ → Bool
bit_of k octet = octet / 2 ^ k % 2 == 1

abbrev pub flags_of : ℕ → Flags
flags_of octet = record { initiator = bit_of 3 octet; version = bit_of 4 octet; response = bit_of 5 octet }

unfoldable pub head_at : List ℕ → Option (Head × List ℕ)
head_at xs = do
  spi_i ← number_at 8 xs
  spi_r ← number_at 8 spi_i.1
  first ← octet_at spi_r.1
  version ← octet_at first.1
  exchange ← octet_at version.1
  flags ← octet_at exchange.1
  id ← number_at 4 flags.1
  size ← number_at 4 id.1
  Some (record { header = record { spi_i = spi_i.0; spi_r = spi_r.0; minor = version.0 % 16; exchange = exchange.0; flags = flags_of flags.0; id = id.0 }; major = version.0 / 16; first = first.0; length = size.0 }, size.1)

unfoldable pub headed_of : List ℕ → Head → List ℕ → Result Message WireFault
headed_of xs head left =
    if not (head.length == length xs) then Err faults.BadLength
    else if not (head.major == MAJOR_VERSION) then Err faults.BadVersion
    else chain_at true (length xs) (length left) head.first left >>> λ ps. Ok (record { header = head.header; payloads = ps })

unfoldable pub message_of : List ℕ → Result Message WireFault
message_of xs =
    if nat_lt (length xs) HEADER_LENGTH then Err faults.Short
    else if nat_lt MESSAGE_LIMIT (length xs) then Err faults.TooLong
    else ok_or (head_at xs) faults.Short >>> λ head. headed_of xs head.0 head.1
