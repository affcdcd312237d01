-- The invariant of every machine and the table that goes with it.
use Rattle.std.specs.Prelude.{◌≡◌, ◌≢◌, ◌⊎◌, ◌<◌, ◌≤◌, ℕ, Bool, true, List, Some, length, slice_get}
use Rattle.std.specs.FinMap as map
use Rattle.exchange.specs.declared.headers.Role.TheVariants.{Initiator, Responder}
use Rattle.sadb.specs.Database.{Database, IsReserved}
use Rattle.sa_init.specs.Judging.{ASSOCIATION_LIMIT, HALF_OPEN_LIMIT}
use Rattle.association.specs.AskedChildren.{AskedChildView}
use Rattle.association.specs.Closing.{HoldsReserved, HoldsSpi}
use Rattle.association.specs.declared.phase.Association.{Association}
use Rattle.association.specs.declared.phase.HalfOpen.{HalfOpen}
use Rattle.association.specs.declared.phase.Phase.TheVariants as phase
use Rattle.association.specs.declared.phase.Request.{Request}
use Rattle.association.specs.declared.purpose.FurtherChild.{FurtherChild}
use Rattle.association.specs.declared.purpose.Purpose.TheVariants.{CreateChild}
use Rattle.initial.specs.Answering.{IsHalfOpen}
use Rattle.setup.specs.Configs.{IsConfig}
use Rattle.initial.specs.Ending.{IsAuthSent}
use Rattle.effects.specs.Children.{first_asked}
use Rattle.effects.specs.Keeping.{KeepsShort}
use Rattle.effects.specs.Lengths.{HoldsWholeKeys}
use Rattle.effects.specs.Requests.{IsSoundlyHeld}
use Rattle.initial.specs.Reading.{IsInitSent}
use Rattle.ike.specs.Machines.{association_of, half_open_count, own_spi, Held, Machine, SERIAL_END}
use Rattle.ike.specs.Receiving.{IsInitialRequest}

-- an IKE SA stands at a place of the list
abbrev pub At : Held → ℕ → Association → Type 0
At held place a = slice_get held.associations place ≡ Some a

-- What holds of each IKE SA. Its serial was given, and this end's SPI is not zero. One that waits for a
-- response to IKE_SA_INIT or to IKE_AUTH has this end as initiator, one that waits for the request of
-- IKE_AUTH as responder. The SPIs that it holds for Child SAs are reserved, each for one child. All that it
-- can send again has at most 3000 octets. What is kept of the peer's requests satisfies its invariant, and
-- what is outstanding belongs to the phase. A half-open one was asked for by IKE_SA_INIT. Its keys have 32
-- octets each.
pub record IsSound (a : Association) (next : ℕ) (table : Database) : Type 0 where
  pub serial_least : 1 ≤ a.serial
  pub serial_given : a.serial < next
  pub own : own_spi a ≢ 0
  pub initiator : IsInitSent a.phase ⊎ IsAuthSent a.phase → a.role ≡ Initiator
  pub responder : IsHalfOpen a.phase → a.role ≡ Responder
  pub reserved : HoldsReserved a table
  pub short : KeepsShort a
  pub soundly : IsSoundlyHeld a
  pub asked : (opened : HalfOpen) → a.phase ≡ phase.HalfOpen opened → IsInitialRequest opened.request
  pub whole : HoldsWholeKeys a.phase

-- what holds of two IKE SAs, of which the other was made later
pub record AreApart (a other : Association) : Type 0 where
  pub rising : a.serial < other.serial
  pub own : own_spi a ≢ own_spi other
  pub held : (spi : ℕ) → HoldsSpi a spi → ¬ HoldsSpi other spi
  -- no request of IKE_SA_INIT makes a second half-open one
  pub asked : (one two : HalfOpen) → a.phase ≡ phase.HalfOpen one → other.phase ≡ phase.HalfOpen two → one.request ≢ two.request

pub record AreSound (held : Held) (table : Database) : Type 0 where
  pub first : 1 ≤ held.next
  pub serials : held.next ≤ SERIAL_END
  pub few : length held.associations ≤ ASSOCIATION_LIMIT
  pub few_half_open : half_open_count held.associations ≤ HALF_OPEN_LIMIT
  pub each : (place : ℕ) (a : Association) → At held place a → IsSound a held.next table
  pub apart : (place later : ℕ) (a other : Association) → place < later → At held place a → At held later other → AreApart a other

-- an IKE SA asked for the Child SAs that it waits for, first and additional ones, with ESN only where that
-- is configured
pub record AsksAsAllowed (extended : Bool) (a : Association) : Type 0 where
  pub first : (child : AskedChildView) → first_asked a.phase ≡ Some child → child.extended ≡ true → extended ≡ true
  pub further : (number : ℕ) (request : Request) (further : FurtherChild) → map.get a.outgoing.outstanding number ≡ Some request → request.purpose ≡ CreateChild further
      → further.child.extended ≡ true → extended ≡ true

abbrev pub AskAsAllowed : Bool → Held → Type 0
AskAsAllowed extended held = (serial : ℕ) (a : Association) → association_of serial held.associations ≡ Some a → AsksAsAllowed extended a

-- and the configuration is a valid one, under which all Child SAs were asked for
pub record IsSoundMachine (machine : Machine) (table : Database) : Type 0 where
  pub held : AreSound machine.held table
  pub config : IsConfig machine.config
  pub asks : AskAsAllowed machine.config.extended machine.held

-- an IKE SA holds the SPI, for a Child SA that it asked for
pub record HoldsReservation (associations : List Association) (spi : ℕ) : Type 0 where
  pub place : ℕ
  pub association : Association
  pub there : slice_get associations place ≡ Some association
  pub holds : HoldsSpi association spi

-- each SPI that is reserved in the table is held so
abbrev pub AreReservationsHeld : Held → Database → Type 0
AreReservationsHeld held table = (spi : ℕ) → IsReserved table spi → HoldsReservation held.associations spi
