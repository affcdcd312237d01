-- Notifications (RFC 7296 section 3.10).
use Rattle.std.specs.Prelude.{◌<◌, ◌==◌, ◌&&◌, ℕ, Bool, false, Option, Some, None, List, [], ◌∷◌, length, nat_le, nat_lt, if◌then◌else◌}
use Rattle.wire.specs.Numbers.{AUTHENTICATION_FAILED, COOKIE, INVALID_SYNTAX, NO_ADDITIONAL_SAS, NO_PROPOSAL_CHOSEN, TS_UNACCEPTABLE, UNSUPPORTED_CRITICAL_PAYLOAD}
use Rattle.wire.specs.Sizes.{FitsData}
use Rattle.wire.specs.declared.payload.Payload.{Payload}
use Rattle.wire.specs.declared.payload.Payload.TheVariants.{Notify}
use Rattle.exchange.specs.Counting.{first_some}
use Rattle.exchange.specs.declared.notices.Notice.{Notice}
use Rattle.exchange.specs.declared.notices.Notice.TheVariants.{UnsupportedCriticalPayload, InvalidSyntax, NoProposalChosen, AuthenticationFailed, NoAdditionalSas, TsUnacceptable, Cookie}

-- section 3.10.1
abbrev pub type_of_notice : Notice → ℕ
type_of_notice (UnsupportedCriticalPayload kind) = UNSUPPORTED_CRITICAL_PAYLOAD
type_of_notice InvalidSyntax = INVALID_SYNTAX
type_of_notice NoProposalChosen = NO_PROPOSAL_CHOSEN
type_of_notice AuthenticationFailed = AUTHENTICATION_FAILED
type_of_notice NoAdditionalSas = NO_ADDITIONAL_SAS
type_of_notice TsUnacceptable = TS_UNACCEPTABLE
type_of_notice (Cookie octets) = COOKIE

-- what stands behind the type: that of the payload which is not understood, the cookie itself, or nothing
abbrev pub data_of_notice : Notice → List ℕ
data_of_notice (UnsupportedCriticalPayload kind) = kind ∷ []
data_of_notice (Cookie octets) = octets
data_of_notice _ = []

-- a notification concerns the IKE SA that it comes under: it names no protocol and no SPI
abbrev pub payload_of_notice : Notice → Payload
payload_of_notice n = Notify 0 [] (type_of_notice n) (data_of_notice n)

-- a type is an octet (section 3.2), and a cookie has 1 to 64 octets (section 2.6)
abbrev pub FitsNotice : Notice → Type 0
FitsNotice (UnsupportedCriticalPayload kind) = kind < 256
FitsNotice (Cookie octets) = FitsData 1 64 octets
FitsNotice notice = Unit {0}

-- a cookie as it is brought back (section 2.6)
abbrev pub returned_cookie : List ℕ → Payload
returned_cookie octets = Notify 0 [] COOKIE octets

-- a cookie has 1 to 64 octets (section 2.6); of another length it is none
abbrev pub cookie_of : ℕ → List ℕ → Option (List ℕ)
cookie_of kind octets = if kind == COOKIE && nat_le 1 (length octets) && nat_le (length octets) 64 then Some octets else None

abbrev pub cookie_in : Payload → Option (List ℕ)
cookie_in (Notify protocol spi kind octets) = cookie_of kind octets
cookie_in _ = None

-- a request that brings a cookie has it as its first payload, and an answer that asks for one has no other
-- (section 2.6)
abbrev pub leading_cookie : List Payload → Option (List ℕ)
leading_cookie [] = None
leading_cookie (p ∷ ps) = cookie_in p

abbrev pub asked_cookie : List Payload → Option (List ℕ)
asked_cookie [] = None
asked_cookie (p ∷ []) = cookie_in p
asked_cookie (p ∷ q ∷ ps) = None

-- an INVALID_SYNTAX notification (section 3.10.1)
abbrev pub is_invalid_syntax : Payload → Bool
is_invalid_syntax (Notify protocol spi kind octets) = kind == INVALID_SYNTAX
is_invalid_syntax _ = false

-- the type of a notification that tells an error: one below 16384, since those from there on tell a status
-- (section 3.10.1)
abbrev pub error_in : Payload → Option ℕ
error_in (Notify protocol spi kind octets) = if nat_lt kind 16384 then Some kind else None
error_in _ = None

-- that of the first such notification
abbrev pub first_error : List Payload → Option ℕ
first_error payloads = first_some error_in payloads
