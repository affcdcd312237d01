-- The payloads that a message holds (RFC 7296 section 3.2).
use Rattle.std.specs.Prelude.{◌≡◌, ℕ, Option, Some, None, List}
use Rattle.wire.specs.Payloads.{SpellsChain}
use Rattle.wire.specs.declared.payload.Payload.{Payload}
use Rattle.exchange.specs.Notices.{first_error}
use Rattle.exchange.specs.declared.sealed.Plain.{Plain}

-- the payloads that octets spell, if they spell any
abbrev pub IsRead : Plain → Option (List Payload) → Type 0
IsRead plain None = (payloads : List Payload) → ¬ SpellsChain plain.first payloads plain.octets
IsRead plain (Some payloads) = SpellsChain plain.first payloads plain.octets

-- the type of the first error notification (section 3.10.1); what spells no payloads tells none
abbrev pub error_of : Option (List Payload) → Option ℕ
error_of None = None
error_of (Some payloads) = first_error payloads

-- the error that octets tell, if they tell one
pub record TellsError (plain : Plain) (error : Option ℕ) : Type 0 where
  pub payloads : Option (List Payload)
  pub read : IsRead plain payloads
  pub told : error ≡ error_of payloads
