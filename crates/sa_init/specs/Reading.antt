-- What an initiator makes of a response (RFC 7296 sections 1.2, 2.6 and 2.14).
use Rattle.std.specs.Prelude.{◌≡◌, ◌≢◌, ◌<◌, ℕ, Option, Some}
use Rattle.std.specs.Option.{option_copied}
use Rattle.base.specs.Octets.{Octets}
use Rattle.wire.specs.declared.message.Message.{Message}
use Rattle.suite.specs.Keys.{ike_keys}
use Rattle.suite.specs.declared.choice.Chosen.{Chosen}
use Rattle.suite.specs.declared.key_record.KeyRecord.{KeyRecord}
use Rattle.suite.specs.declared.sealer.Cipher.{Cipher}
use Rattle.exchange.specs.Notices.{asked_cookie}
use Rattle.suite.specs.Offers.{AcceptsAnswer}
use Rattle.sa_init.specs.Messages.{ike_wanted}
use Rattle.sa_init.specs.Parts.{HasParts, PartsView}
use Rattle.sa_init.specs.declared.response.Response.{Response}
use Rattle.sa_init.specs.declared.response.Response.TheVariants.{Cookie, Keys, Unfit}
use Rattle.sa_init.specs.declared.response.Waiting.{Waiting}

-- Cookies that an initiator brings back, one after the other, before it gives up.
abbrev pub COOKIES_TAKEN_LIMIT : ℕ
COOKIES_TAKEN_LIMIT = 4

-- what an initiator remembers of its request
pub record WaitingView : Type 0 where
  pub spi_i : ℕ
  pub secret : Octets
  pub nonce : Octets
  pub cookie : Option Octets
  pub cookies_taken : ℕ

abbrev pub waiting_view : Waiting → WaitingView
waiting_view w = record { spi_i = w.spi_i; secret = w.secret.now; nonce = w.nonce.now; cookie = option_copied w.cookie; cookies_taken = w.cookies_taken }

-- The response asks for a cookie, and for nothing that the request carried, and not too often (section 2.6).
pub record AsksCookie (sent : WaitingView) (m : Message) (octets : Octets) : Type 0 where
  pub asked : asked_cookie m.payloads ≡ Some octets
  pub unnamed : m.header.spi_r ≡ 0
  pub other : sent.cookie ≢ Some octets
  pub few : sent.cookies_taken < COOKIES_TAKEN_LIMIT

-- The response has the parts of an answer that accepts what was offered, and names an SPI.
pub record IsAcceptance (cipher : Cipher) (group : ℕ) (m : Message) (parts : PartsView) : Type 0 where
  pub complete : HasParts m.payloads parts
  pub chosen : Chosen
  pub accepted : AcceptsAnswer (ike_wanted cipher group) parts.proposals chosen
  pub same_group : parts.group ≡ group
  pub named : m.header.spi_r ≢ 0

-- The response accepts nothing that was offered. One that asks for a cookie never does, since it names no SPI.
abbrev pub AcceptsNothing : Cipher → ℕ → Message → Type 0
AcceptsNothing cipher group m = (parts : PartsView) → ¬ IsAcceptance cipher group m parts

-- It accepts, and these keys follow (section 2.14).
pub record GivesKeys (cipher : Cipher) (group : ℕ) (shared_secret : Octets → Octets → Option Octets) (sent : WaitingView) (m : Message) (keys : KeyRecord) : Type 0 where
  pub parts : PartsView
  pub acceptance : IsAcceptance cipher group m parts
  pub shared : Octets
  pub agrees : shared_secret sent.secret parts.public ≡ Some shared
  pub made : keys ≡ ike_keys shared sent.nonce parts.nonce sent.spi_i m.header.spi_r

-- each meaning of a response and when it has it
abbrev pub IsResponse : Cipher → ℕ → (Octets → Octets → Option Octets) → WaitingView → Message → Response → Type 0
IsResponse cipher group shared_secret sent m (Cookie octets) = AsksCookie sent m octets.now
IsResponse cipher group shared_secret sent m (Keys keys) = GivesKeys cipher group shared_secret sent m keys
IsResponse cipher group shared_secret sent m Unfit =
    ((octets : Octets) → ¬ AsksCookie sent m octets) × ((keys : KeyRecord) → ¬ GivesKeys cipher group shared_secret sent m keys)

-- two meanings of a response that say the same, a cookie by its octets
abbrev pub IsSameResponse : Response → Response → Type 0
IsSameResponse (Cookie one) (Cookie other) = one.now ≡ other.now
IsSameResponse (Keys one) (Keys other) = one ≡ other
IsSameResponse Unfit Unfit = Unit {0}
IsSameResponse _ _ = ⊥
