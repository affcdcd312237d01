-- What an end holds of all its IKE SAs (RFC 7296 sections 1.2, 2.6 and 3.1).
use Rattle.std.specs.Prelude.{◌==◌, ◌||◌, ◌^◌, ℕ, Bool, true, false, not, Option, List, [], option_and_then}
use Rattle.std.specs.List.{count_by, filter, find, list_any}
use Rattle.policy.specs.declared.entry.Entry.{Entry}
use Rattle.suite.specs.declared.fresh.Fresh.{Fresh}
use Rattle.suite.specs.declared.key_record.KeyRecord.{KeyRecord}
use Rattle.exchange.specs.declared.headers.Role.{Role}
use Rattle.exchange.specs.declared.headers.Role.TheVariants.{Initiator, Responder}
use Rattle.sa_init.specs.Cookies.{first_secret, CookieSecrets}
use Rattle.association.specs.Phases.{keys_in}
use Rattle.association.specs.declared.phase.Association.{Association}
use Rattle.association.specs.declared.phase.Phase.{Phase}
use Rattle.association.specs.declared.phase.Phase.TheVariants.{HalfOpen}
use Rattle.setup.specs.Configs.{Setup}
use Rattle.setup.specs.declared.config.Config.{Config}

-- The IKE SAs that an end holds, and the serial of the next one.
pub record Held : Type 0 where
  pub next : ℕ
  -- in the order in which they were made
  pub associations : List Association

pub record Machine : Type 0 where
  pub config : Config
  -- the secrets of its cookies
  pub cookies : CookieSecrets
  -- the greatest time so far, in milliseconds
  pub moment : ℕ
  pub held : Held

abbrev pub none_held : Held
none_held = record { next = 1; associations = [] }

abbrev pub new_machine : Config → Machine
new_machine config = record { config = config; cookies = first_secret config.cookie_secret; moment = 0; held = none_held }

-- one past the greatest serial, which has 32 bits
abbrev pub SERIAL_END : ℕ
SERIAL_END = 2 ^ 32

-- the SPI that this end chose
abbrev pub spi_by_role : Role → ℕ → ℕ → ℕ
spi_by_role Initiator spi_i spi_r = spi_i
spi_by_role Responder spi_i spi_r = spi_r

abbrev pub own_spi : Association → ℕ
own_spi a = spi_by_role a.role a.spi_i a.spi_r

abbrev pub has_own_spi : ℕ → Association → Bool
has_own_spi spi a = own_spi a == spi

-- no new IKE SA can have the SPI: it is zero (section 3.1), or this end uses it
abbrev pub is_bad_spi : ℕ → List Association → Bool
is_bad_spi spi associations = spi == 0 || list_any (has_own_spi spi) associations

abbrev pub has_serial : ℕ → Association → Bool
has_serial serial a = a.serial == serial

-- the IKE SA with this serial; serials rise, so there is one at most
abbrev pub association_of : ℕ → List Association → Option Association
association_of serial associations = find (has_serial serial) associations

-- its keys, where it has them
abbrev pub keys_of_serial : ℕ → List Association → Option KeyRecord
keys_of_serial serial associations = option_and_then (λ a. keys_in a.phase) (association_of serial associations)

-- all others, in their order
abbrev pub others_than : ℕ → List Association → List Association
others_than serial associations = filter (λ a. not (has_serial serial a)) associations

abbrev pub is_half_open_phase : Phase → Bool
is_half_open_phase (HalfOpen opened) = true
is_half_open_phase _ = false

abbrev pub is_half_open : Association → Bool
is_half_open a = is_half_open_phase a.phase

-- how many are half open
abbrev pub half_open_count : List Association → ℕ
half_open_count associations = count_by is_half_open associations

-- what a step of this machine works with: configuration, fresh octets and time
abbrev pub setup_at : Machine → List Entry → Fresh → Setup
setup_at machine entries fresh = record { config = machine.config; entries = entries; fresh = fresh; moment = machine.moment }
