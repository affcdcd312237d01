-- How an IKE message is shown, and what goes out of it.
use Rattle.std.specs.Prelude.{◌≡◌, ℕ, Bool, List, [], ◌∷◌, ◌++◌, ◌+◌, length, codes, decimal, flat_map, if◌then◌else◌, Option, Result, Ok, Err, IsErr}
use Rattle.std.specs.Io.KnownBytes.{Appends, Keeps}
use Rattle.hex.specs.Hex.{decode_of}
use Rattle.base.specs.declared.address.Address.{Address}
use Rattle.base.specs.declared.address.Address.TheVariants as address
use Rattle.base.specs.declared.address.Range.{Range}
use Rattle.base.specs.declared.address.Range.TheVariants as range
use Rattle.base.specs.declared.selector.Selector.{Selector}
use Rattle.gw_console.specs.Addresses.{address_text}
use Rattle.gw_console.specs.Digits.{digits_of, hexadecimal, text_of}
use Rattle.gw_console.specs.Input.{IsWholeFile}
use Rattle.gw_console.specs.Output.{AppendsBeginning}
use Rattle.gw_console.specs.Status.{exit_code}
use Rattle.wire.specs.Messages.{Spells}
use Rattle.wire.specs.Numbers.{HEADER_LENGTH}
use Rattle.wire.specs.Payloads.{type_of}
use Rattle.wire.specs.Refusals.{IsFaultOf}
use Rattle.wire.specs.Sizes.{size_of, usize_of}
use Rattle.wire.specs.declared.fault.WireFault.{WireFault}
use Rattle.wire.specs.declared.message.Flags.{Flags}
use Rattle.wire.specs.declared.message.Header.{Header}
use Rattle.wire.specs.declared.message.Message.{Message}
use Rattle.wire.specs.declared.payload.Payload.{Payload}
use Rattle.wire.specs.declared.payload.Payload.TheVariants.{Sa, Ke, IdI, IdR, Auth, Nonce, Notify, Delete, TsI, TsR, Sealed, Skipped, Unknown}
use Rattle.wire.specs.declared.proposal.Proposal.{Proposal}
use Rattle.wire.specs.declared.proposal.Transform.{Transform}
use Rattle.wire.specs.declared.proposal.Attribute.{Attribute}
use Rattle.wire.specs.declared.proposal.Attribute.TheVariants.{Short, Long}
use Rattle.gw_engine.specs.Ends.{status_of, stop_of_fault, EndsWith}
use Rattle.gw_engine.specs.declared.stop.Stop.{Stop}
use Rattle.gw_engine.specs.declared.stop.Stop.TheVariants as stop

-- a letter where the flag is set
abbrev pub flag_text : Bool → List ℕ → List ℕ
flag_text flag letter = if flag then letter else []

-- the text, or a dash where there is none
abbrev pub or_dash : List ℕ → List ℕ
or_dash [] = codes "-"
or_dash (octet ∷ octets) = octet ∷ octets

-- the letters of the flags that are set, or a dash
abbrev pub flags_text : Flags → List ℕ
flags_text flags = or_dash (flag_text flags.initiator (codes "I") ++ flag_text flags.version (codes "V") ++ flag_text flags.response (codes "R"))

abbrev pub ike_line : List ℕ → List ℕ → List ℕ
ike_line spi_i spi_r = codes "ike " ++ spi_i ++ codes " " ++ spi_r ++ codes "\n"

abbrev pub exchange_line : ℕ → List ℕ → ℕ → ℕ → List ℕ
exchange_line exchange flags id size = codes "exchange " ++ decimal exchange ++ codes " flags " ++ flags ++ codes " id " ++ decimal id ++ codes " length " ++ decimal size ++ codes "\n"

abbrev pub header_text : Header → ℕ → List ℕ
header_text header size = ike_line (hexadecimal 16 header.spi_i) (hexadecimal 16 header.spi_r) ++ exchange_line header.exchange (flags_text header.flags) header.id size

-- a line of a number under its name, and what stands behind it
abbrev pub numbered_line : List ℕ → ℕ → List ℕ → List ℕ
numbered_line name number rest = codes "  " ++ name ++ codes " " ++ decimal number ++ codes " " ++ rest ++ codes "\n"

abbrev pub attribute_words : ℕ → List ℕ → List ℕ
attribute_words kind value = codes " attr " ++ decimal kind ++ codes " " ++ value

abbrev pub attribute_text : Attribute → List ℕ
attribute_text (Short kind value) = attribute_words kind (decimal value)
attribute_text (Long kind value) = attribute_words kind (text_of value)

abbrev pub transform_text : Transform → List ℕ
transform_text transform = numbered_line (codes "  transform") transform.kind (decimal transform.id ++ flat_map attribute_text transform.attributes)

-- what stands behind a proposal's number
abbrev pub proposal_words : ℕ → List ℕ → ℕ → List ℕ
proposal_words protocol spi count = codes "protocol " ++ decimal protocol ++ codes " spi " ++ spi ++ codes " transforms " ++ decimal count

abbrev pub proposal_text : Proposal → List ℕ
proposal_text proposal = numbered_line (codes "proposal") proposal.number (proposal_words proposal.protocol (text_of proposal.spi) (length proposal.transforms))
    ++ flat_map transform_text proposal.transforms

abbrev pub start_of : Range → Address
start_of (range.V4 start end) = address.V4 start
start_of (range.V6 start end) = address.V6 start

abbrev pub end_of : Range → Address
end_of (range.V4 start end) = address.V4 end
end_of (range.V6 start end) = address.V6 end

abbrev pub range_text : Range → List ℕ
range_text addresses = codes "addresses " ++ address_text (start_of addresses) ++ codes "-" ++ address_text (end_of addresses)

-- what stands behind a selector's protocol
abbrev pub selector_words : ℕ → ℕ → List ℕ → List ℕ
selector_words start_port end_port addresses = codes "ports " ++ decimal start_port ++ codes "-" ++ decimal end_port ++ codes " " ++ addresses

abbrev pub selector_text : Selector → List ℕ
selector_text selector = numbered_line (codes "selector protocol") selector.protocol (selector_words selector.start_port selector.end_port (range_text selector.addresses))

-- the line of a payload of a number and data, under the number's name
abbrev pub data_line : List ℕ → ℕ → List ℕ → List ℕ
data_line name number octets = numbered_line name number (codes "data " ++ text_of octets)

-- the line of a payload of data alone, under its name
abbrev pub octets_line : List ℕ → List ℕ → List ℕ
octets_line name octets = codes "  " ++ name ++ codes " " ++ text_of octets ++ codes "\n"

abbrev pub notice_line : ℕ → List ℕ → ℕ → List ℕ → List ℕ
notice_line protocol spi kind text = codes "  notify " ++ decimal kind ++ codes " protocol " ++ decimal protocol ++ codes " spi " ++ spi ++ codes " data " ++ text ++ codes "\n"

abbrev pub spis_text : List ℕ → List ℕ
spis_text [] = codes " -"
spis_text (spi ∷ spis) = flat_map (λ one. codes " " ++ hexadecimal 8 one) (spi ∷ spis)

abbrev pub deletion_line : ℕ → List ℕ → List ℕ
deletion_line protocol spis = numbered_line (codes "delete protocol") protocol (codes "spis" ++ spis_text spis)

abbrev pub sealed_line : ℕ → ℕ → List ℕ
sealed_line first count = numbered_line (codes "sealed first") first (codes "octets " ++ decimal count)

-- the lines below a payload's own line
abbrev pub body_text : Payload → List ℕ
body_text (Sa proposals) = flat_map proposal_text proposals
body_text (Ke group octets) = data_line (codes "group") group octets
body_text (IdI kind octets) = data_line (codes "id") kind octets
body_text (IdR kind octets) = data_line (codes "id") kind octets
body_text (Auth method octets) = data_line (codes "method") method octets
body_text (Nonce octets) = octets_line (codes "nonce") octets
body_text (Notify protocol spi kind octets) = notice_line protocol (text_of spi) kind (text_of octets)
body_text (Delete protocol spis) = deletion_line protocol spis
body_text (TsI selectors) = flat_map selector_text selectors
body_text (TsR selectors) = flat_map selector_text selectors
body_text (Sealed first body) = sealed_line first (length body)
body_text (Skipped kind octets) = octets_line (codes "data") octets
body_text (Unknown kind critical octets) = octets_line (codes "data") octets

-- the lines of a payload that begins at the offset
abbrev pub payload_text : ℕ → Payload → List ℕ
payload_text offset payload = codes "payload " ++ decimal (type_of payload) ++ codes " at " ++ decimal offset
    ++ codes " length " ++ decimal (usize_of (size_of payload)) ++ codes "\n" ++ body_text payload

-- the lines of payloads of which the first begins at the offset; the program's numbers stop at their
-- greatest, which no message comes near
abbrev pub payloads_text : ℕ → List Payload → List ℕ
payloads_text offset [] = []
payloads_text offset (payload ∷ payloads) = payload_text offset payload ++ payloads_text (usize_of (offset + usize_of (size_of payload))) payloads

-- all lines of a message of so many octets
abbrev pub message_text : Message → ℕ → List ℕ
message_text message size = header_text message.header size ++ payloads_text HEADER_LENGTH message.payloads

-- The digits spell the octets of a message, which this text shows.
pub record IsShownBy (digits text : List ℕ) : Type 0 where
  pub octets : List ℕ
  pub message : Message
  pub decoded : decode_of (digits_of digits) ≡ Ok octets
  pub spelled : Spells message octets
  pub text_is : text ≡ message_text message (length octets)

-- The digits spell octets that are no message for this reason.
pub record IsFaultyBy (digits : List ℕ) (why : Stop) : Type 0 where
  pub octets : List ℕ
  pub fault : WireFault
  pub decoded : decode_of (digits_of digits) ≡ Ok octets
  pub first : IsFaultOf octets fault
  pub why_is : why ≡ stop_of_fault fault

-- why nothing is shown of a text; that memory was wanted can't be said
abbrev pub IsRefusedBy : List ℕ → Stop → Type 0
IsRefusedBy digits stop.Hex = IsErr (decode_of (digits_of digits))
IsRefusedBy digits (stop.Message number) = IsFaultyBy digits (stop.Message number)
IsRefusedBy digits (stop.Payload number offset) = IsFaultyBy digits (stop.Payload number offset)
IsRefusedBy digits stop.Memory = Unit {0}
IsRefusedBy digits stop.File = ⊥
IsRefusedBy digits (stop.Line number) = ⊥
IsRefusedBy digits stop.Output = ⊥

-- The whole file is shown by this text.
pub record HasShown (file : Option (List ℕ)) (text : List ℕ) : Type 0 where
  pub digits : List ℕ
  pub whole : IsWholeFile file digits
  pub shown : IsShownBy digits text

-- Nothing is shown of the whole file for this reason.
pub record HasNone (file : Option (List ℕ)) (why : Stop) : Type 0 where
  pub digits : List ℕ
  pub whole : IsWholeFile file digits
  pub refused : IsRefusedBy digits why

-- all of the message's text goes out, or a beginning of it where the output can't be written, or nothing;
-- that a read failed, or that memory was wanted, can't be said
abbrev pub ShowsBy : Option (List ℕ) → Result Unit Stop → Option (List ℕ) → Option (List ℕ) → Type 0
ShowsBy file (Ok _) old new = (text : List ℕ) × HasShown file text × Appends old new text
ShowsBy file (Err stop.Output) old new = (text : List ℕ) × HasShown file text × AppendsBeginning old new text
ShowsBy file (Err stop.File) old new = Keeps old new
ShowsBy file (Err stop.Memory) old new = Keeps old new
ShowsBy file (Err why) old new = HasNone file why × Keeps old new

-- The status is 0 exactly where all was shown. Else the line that tells why goes out, or a beginning of it,
-- unless the output can't be written any more.
pub record Shows (file : Option (List ℕ)) (status : ℕ) (old new : Option (List ℕ)) : Type 0 where
  pub outcome : Result Unit Stop
  pub printed : Option (List ℕ)
  pub shows : ShowsBy file outcome old printed
  pub status_is : status ≡ exit_code (status_of outcome)
  pub ends : EndsWith outcome printed new
