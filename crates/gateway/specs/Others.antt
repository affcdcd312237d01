-- What a gateway holds and says without some of its IKE SAs, and when an input has to do with none of them.
use Rattle.std.specs.Prelude.{◌≡◌, ◌⊎◌, ◌<◌, ℕ, Bool, true, false, not, Some, None, length}
use Rattle.std.specs.List.{filter}
use Rattle.base.specs.Octets.{Octets}
use Rattle.wire.specs.Messages.{Spells}
use Rattle.wire.specs.declared.message.Message.{Message}
use Rattle.suite.specs.declared.fresh.Fresh.{Fresh}
use Rattle.sa_init.specs.Cookies.{CookieSecrets}
use Rattle.sa_init.specs.Judging.{ASSOCIATION_LIMIT, BringsRightCookie, COOKIE_THRESHOLD, HALF_OPEN_LIMIT}
use Rattle.sa_init.specs.Parts.{HasParts, PartsView}
use Rattle.sadb.specs.Database.{pair_at, Database}
use Rattle.sadb.specs.declared.pair.Pair.{Pair}
use Rattle.association.specs.Finding.{has_pair}
use Rattle.association.specs.declared.phase.Association.{Association}
use Rattle.initial.specs.Answering.{IsHalfOpen}
use Rattle.ike.specs.Machines.{half_open_count, has_own_spi, Held, Machine, SERIAL_END}
use Rattle.ike.specs.Receiving.{is_answered, is_initial_request, sender_of}
use Rattle.ike.specs.Soundness.{At}
use Rattle.gateway.specs.Inputs.{Input}
use Rattle.gateway.specs.Inputs as input
use Rattle.gateway.specs.Outputs.{OutputView}
use Rattle.gateway.specs.Outputs as said
use Rattle.gateway.specs.States.{State}

-- ---- without those IKE SAs whose serials pass a test

abbrev pub stays : (ℕ → Bool) → Association → Bool
stays strange a = not (strange a.serial)

abbrev pub held_without : (ℕ → Bool) → Held → Held
held_without strange held = record held { associations = filter (stays strange) held.associations }

abbrev pub machine_without : (ℕ → Bool) → Machine → Machine
machine_without strange machine = record machine { held = held_without strange machine.held }

abbrev pub state_without : {C : Type 0} → (ℕ → Bool) → State C → State C
state_without {C} strange s = record s { machine = machine_without strange s.machine }

-- what is said without what is said of them, which a `Tick` alone may tell
abbrev pub said_without : (ℕ → Bool) → OutputView → OutputView
said_without strange (said.Ticked requests closed) = said.Ticked (filter (λ r. not (strange r.ike)) requests) (filter (λ serial. not (strange serial)) closed)
said_without strange (said.Reply octets closed) = said.Reply octets closed
said_without strange (said.Repeat octets) = said.Repeat octets
said_without strange (said.Request ike octets) = said.Request ike octets
said_without strange (said.Counted ike child closed) = said.Counted ike child closed
said_without strange said.Done = said.Done
said_without strange (said.Up child number packet) = said.Up child number packet
said_without strange (said.Dummy child number) = said.Dummy child number
said_without strange (said.Sealed child number octets) = said.Sealed child number octets
said_without strange (said.Clear packet) = said.Clear packet
said_without strange said.Discarded = said.Discarded
said_without strange (said.Dropped why) = said.Dropped why
said_without strange (said.Refused why) = said.Refused why

-- ---- of those

-- each of them is half open
abbrev pub AreHalfOpen : (ℕ → Bool) → Held → Type 0
AreHalfOpen strange held = (place : ℕ) (a : Association) → At held place a → strange a.serial ≡ true → IsHalfOpen a.phase

-- no SA pair is of one of them
abbrev pub HaveNoPairs : (ℕ → Bool) → Database → Type 0
HaveNoPairs strange table = (serial : ℕ) (pair : Pair) → pair_at table.pairs serial ≡ Some pair → strange pair.ike ≡ false

-- this end uses the SPI for none of them
abbrev pub HaveNotTheSpi : (ℕ → Bool) → Held → ℕ → Type 0
HaveNotTheSpi strange held spi = (place : ℕ) (a : Association) → At held place a → strange a.serial ≡ true → has_own_spi spi a ≡ false

-- ---- an input that stays

-- So few are half open that no cookie is asked for, or the request brings a right one and there is room for
-- one more (RFC 7296 section 2.6).
abbrev pub IsHeardEitherWay : CookieSecrets → Held → Octets → Message → Type 0
IsHeardEitherWay cookies held from m =
    (half_open_count held.associations < COOKIE_THRESHOLD)
    ⊎ ((half_open_count held.associations < HALF_OPEN_LIMIT) × ((parts : PartsView) → HasParts m.payloads parts → BringsRightCookie cookies (sender_of from m.header) m.payloads parts.nonce))

-- there is room for one more IKE SA, and a serial
pub record HasRoom (held : Held) : Type 0 where
  pub holding : length held.associations < ASSOCIATION_LIMIT
  pub serial : held.next < SERIAL_END

-- A datagram names none of them by its SPIs, and is the IKE_SA_INIT request of none of them. Where it is a
-- request of IKE_SA_INIT, no limit is reached, and the fresh SPI is not one of theirs.
pub record IsApartDatagram (strange : ℕ → Bool) (machine : Machine) (from octets : Octets) (fresh : Fresh) : Type 0 where
  pub unnamed : (m : Message) (place : ℕ) (a : Association) → Spells m octets → At machine.held place a → strange a.serial ≡ true → has_pair m.header a ≡ false
  pub unasked : (place : ℕ) (a : Association) → At machine.held place a → strange a.serial ≡ true → is_answered octets a ≡ false
  pub heard : (m : Message) → Spells m octets → is_initial_request m.header ≡ true → IsHeardEitherWay machine.cookies machine.held from m
  pub room : (m : Message) → Spells m octets → is_initial_request m.header ≡ true → HasRoom machine.held
  pub spi : (m : Message) → Spells m octets → is_initial_request m.header ≡ true → HaveNotTheSpi strange machine.held fresh.spi

-- A command that begins an IKE SA has room for it, and a fresh SPI that is not one of theirs.
pub record IsApartStart (strange : ℕ → Bool) (held : Held) (fresh : Fresh) : Type 0 where
  pub room : HasRoom held
  pub spi : HaveNotTheSpi strange held fresh.spi

-- The input has to do with none of them: it would be treated alike were they not held.
abbrev pub IsApart : {C : Type 0} → (ℕ → Bool) → State C → Input → Type 0
IsApart {C} strange s (input.Ike from octets fresh) = IsApartDatagram strange s.machine from octets fresh
IsApart {C} strange s (input.Start None entry fresh) = IsApartStart strange s.machine.held fresh
IsApart {C} strange s (input.Start (Some serial) entry fresh) = strange serial ≡ false
IsApart {C} strange s (input.Probe serial fresh) = strange serial ≡ false
IsApart {C} strange s (input.DeleteIke serial fresh) = strange serial ≡ false
IsApart {C} strange s (input.DeleteChild child fresh) = Unit {0}
IsApart {C} strange s (input.Esp octets) = Unit {0}
IsApart {C} strange s (input.Outward packet) = Unit {0}
IsApart {C} strange s (input.Inward packet) = Unit {0}
IsApart {C} strange s (input.Secret secret) = Unit {0}
IsApart {C} strange s (input.Tick moment) = Unit {0}
