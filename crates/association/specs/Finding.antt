-- Which IKE SA a message is for (RFC 7296 section 3.1, and 2.6 for the response to IKE_SA_INIT).
use Rattle.std.specs.Prelude.{◌==◌, ◌&&◌, ◌||◌, ℕ, Bool, true, false, not, Option, Some, None, Result, Ok, Err, List, if◌then◌else◌}
use Rattle.std.specs.List.{list_any, position}
use Rattle.wire.specs.Numbers.{IKE_SA_INIT}
use Rattle.wire.specs.declared.message.Header.{Header}
use Rattle.exchange.specs.declared.headers.Role.{Role}
use Rattle.exchange.specs.declared.headers.Role.TheVariants.{Initiator, Responder}
use Rattle.association.specs.declared.fault.MessageFault.{MessageFault}
use Rattle.association.specs.declared.fault.MessageFault.TheVariants.{UnknownAssociation, WrongRole}
use Rattle.association.specs.declared.phase.Association.{Association}
use Rattle.association.specs.declared.phase.Phase.{Phase}
use Rattle.association.specs.declared.phase.Phase.TheVariants.{InitSent}

-- The flag I is set in what the IKE SA's original initiator sends, and so is that of messages to a responder.
abbrev pub sent_by_other : Role → Bool → Bool
sent_by_other Initiator initiator = not initiator
sent_by_other Responder initiator = initiator

abbrev pub has_pair : Header → Association → Bool
has_pair h a = a.spi_i == h.spi_i && a.spi_r == h.spi_r

-- this end waits for the response to IKE_SA_INIT
abbrev pub is_waiting : Phase → Bool
is_waiting (InitSent sent) = true
is_waiting _ = false

-- that response names the responder's SPI, which this end does not know before
abbrev pub answers_initial : Header → Association → Bool
answers_initial h a = h.flags.response && h.exchange == IKE_SA_INIT && a.spi_i == h.spi_i && is_waiting a.phase

abbrev pub is_meant : Header → Association → Bool
is_meant h a = sent_by_other a.role h.flags.initiator && (has_pair h a || answers_initial h a)

-- it has the SPIs, but the message claims the role of this end
abbrev pub is_of_other_role : Header → Association → Bool
is_of_other_role h a = not (sent_by_other a.role h.flags.initiator) && has_pair h a

-- why none is found
abbrev pub missing : Header → List Association → MessageFault
missing h associations = if list_any (is_of_other_role h) associations then WrongRole else UnknownAssociation

abbrev pub place_or : Option ℕ → MessageFault → Result ℕ MessageFault
place_or None fault = Err fault
place_or (Some place) fault = Ok place

-- the place of the first that is meant
abbrev pub place_meant : Header → List Association → Result ℕ MessageFault
place_meant h associations = place_or (position (is_meant h) associations) (missing h associations)
