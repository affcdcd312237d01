-- An IKE SA that this end begins, whatever was lost or closed before (RFC 7296 section 1.2).
use Rattle.std.specs.Prelude.{◌≡◌, ◌≢◌, ◌<◌, ◌++◌, ◌∷◌, ℕ, None, Some, Contains, [], length, slice_get}
use Rattle.base.specs.Octets.{Octets}
use Rattle.wire.specs.Messages.{SpellsPlainly}
use Rattle.policy.specs.declared.entry.Action.TheVariants.{Protect}
use Rattle.policy.specs.declared.entry.Entry.{Entry}
use Rattle.suite.specs.declared.fresh.Fresh.{Fresh}
use Rattle.exchange.specs.declared.headers.Role.TheVariants.{Initiator}
use Rattle.sadb.specs.Database.{Database, IsAsBefore, IsFull, IsSpent, Reserves}
use Rattle.sa_init.specs.Judging.{ASSOCIATION_LIMIT}
use Rattle.sa_init.specs.Messages.{request_message}
use Rattle.association.specs.declared.phase.Association.{Association}
use Rattle.association.specs.declared.phase.InitSent.{InitSent}
use Rattle.association.specs.declared.phase.Phase.TheVariants as phase
use Rattle.association.specs.declared.phase.Request.{Request}
use Rattle.effects.specs.Taking.{Meaning}
use Rattle.ike.specs.Machines.{own_spi, SERIAL_END}
use Rattle.gateway.specs.Histories.{Passage}
use Rattle.gateway.specs.Outputs as output
use Rattle.gateway.specs.States.{association_in, State}
use Rattle.gateway.specs.Strangers.{IsAsItWas}
use Rattle.gateway.specs.declared.fault.Reason.{Reason}
use Rattle.laws_recovery.specs.Waiting.{WaitsAfter}

-- A gateway may begin an IKE SA by the entry at this place. That entry protects. Fewer IKE SAs are held than
-- may be, a serial is left, and the fresh SPI is not zero and not in use. The table has a place and an SPI
-- left for the first Child SA. Nothing is asked of what the gateway held before, or of its peer.
pub record MayBegin {C : Type 0} (place : ℕ) (fresh : Fresh) (s : State C) : Type 0 where
  pub entry : Entry
  pub there : slice_get s.entries place ≡ Some entry
  pub protects : entry.action ≡ Protect
  pub few : length s.machine.held.associations < ASSOCIATION_LIMIT
  pub left : s.machine.held.next < SERIAL_END
  pub named : fresh.spi ≢ 0
  pub unused : (a : Association) → Contains s.machine.held.associations a → own_spi a ≢ fresh.spi
  pub not_full : ¬ IsFull s.table
  pub not_spent : ¬ IsSpent s.table

-- the next SPI is given for the first Child SA, and nothing else of the table changes but spare room
pub record GivesOne (old new : Database) : Type 0 where
  pub between : Database
  pub room : IsAsBefore old between
  pub spi : ℕ
  pub reserved : Reserves between spi new

-- At this step one more IKE SA begins, under the next serial, with the fresh SPI. The request of IKE_SA_INIT
-- goes out, with what is fresh, and waits for its answer from now on. All others are held as they were.
pub record BeginsAnew {C : Type 0} (meaning : Meaning) (fresh : Fresh) (p : Passage C) : Type 0 where
  pub octets : Octets
  pub spelled : SpellsPlainly (request_message meaning.cipher meaning.group (meaning.public_value fresh.secret) fresh.spi None fresh.nonce) octets
  pub said : p.said ≡ output.Request p.before.machine.held.next octets
  pub association : Association
  pub held : p.after.machine.held.associations ≡ p.before.machine.held.associations ++ association ∷ []
  pub there : association_in p.after p.before.machine.held.next ≡ Some association
  pub role : association.role ≡ Initiator
  pub spi : association.spi_i ≡ fresh.spi
  pub sent : InitSent
  pub begun : association.phase ≡ phase.InitSent sent
  pub secret : sent.secret ≡ fresh.secret
  pub nonce : sent.nonce ≡ fresh.nonce
  pub request : Request
  pub waits : WaitsAfter p.before.machine.held.next 0 request p
  pub octets_are : request.octets ≡ octets
  pub timer : request.timer ≡ record { sent = p.before.machine.moment; repeats = 0 }
  pub table : GivesOne p.before.table p.after.table

-- the input is refused, and the gateway is as it was, but for spare room
pub record IsRefused {C : Type 0} (p : Passage C) : Type 0 where
  pub why : Reason
  pub said : p.said ≡ output.Refused why
  pub unchanged : IsAsItWas p.before p.after
