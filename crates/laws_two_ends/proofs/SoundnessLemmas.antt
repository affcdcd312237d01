-- A gateway stays sound over a step of the machine of IKE, as the laws of that say.
use Rattle.std.proofs.Common.{◌≡◌, ◌↔◌, zero, suc, List, [], ◌∷◌, arith}
use Rattle.base.specs.Octets.{Octets}
use Rattle.wire.specs.Messages.{Spells}
use Rattle.wire.specs.declared.message.Message.{Message}
use Rattle.policy.specs.declared.entry.Entry.{Entry}
use Rattle.suite.specs.declared.key_record.KeyRecord.{KeyRecord}
use Rattle.sadb.specs.Database.{Database, IsSoundTable}
use Rattle.association.specs.declared.phase.Association.{Association}
use Rattle.setup.specs.declared.config.Config.{Config}
use Rattle.moments.specs.Held.{IsInTime}
use Rattle.effects.specs.Taking.{Meaning}
use Rattle.ike.specs.Machines.{new_machine, Machine}
use Rattle.ike.specs.Moments.{IsTimely}
use Rattle.ike.specs.Soundness.{AreReservationsHeld, IsSoundMachine}
use Rattle.ike.specs.Steps.{InputView, Steps}
use Rattle.ike.specs.declared.output.Stepped.{Stepped}
use Rattle.lockstep.specs.Parties.{times}
use Rattle.gateway.specs.States.{IsSoundState, State}

-- what the law `ike::laws::soundness_stays` says
abbrev pub SoundnessStays : Type 0
SoundnessStays =
    (meaning : Meaning) (entries : List Entry) (given : InputView) (old : Machine) (table : Database) (stepped : Stepped) (new : Machine) (new_table : Database)
    → IsSoundTable table → IsSoundMachine old table → Steps meaning entries given old table stepped new new_table → IsSoundMachine new new_table

-- and the clause `stepped` of `ike::laws::no_spi_is_lost`
abbrev pub NoSpiIsLost : Type 0
NoSpiIsLost =
    (meaning : Meaning) (entries : List Entry) (given : InputView) (old : Machine) (table : Database) (stepped : Stepped) (new : Machine) (new_table : Database)
    → IsSoundMachine old table → Steps meaning entries given old table stepped new new_table → AreReservationsHeld old.held table → AreReservationsHeld new.held new_table

-- octets spell one message, as `wire` has it
abbrev pub OneMessage : Type 0
OneMessage = (m n : Message) (b : Octets) → Spells m b → Spells n b → m ≡ n

-- how often a record stands in a list of itself, as `lockstep` has it
abbrev pub OneTime : Type 0
OneTime = (keys k : KeyRecord) → times keys (k ∷ []) ≡ 1 ↔ (k ≡ keys)

pub sound_next : SoundnessStays → NoSpiIsLost → {C : Type 0} (meaning : Meaning) (given : InputView) (stepped : Stepped) (old new : State C) → IsSoundState old
    → Steps meaning old.entries given old.machine old.table stepped new.machine new.table → IsSoundTable new.table → IsTimely new.machine → IsSoundState new
sound_next stays held {C} meaning given stepped old new sound steps table timely = record {
  machine = stays meaning old.entries given old.machine old.table stepped new.machine new.table sound.table sound.machine steps;
  table = table;
  timely = timely;
  reservations = held meaning old.entries given old.machine old.table stepped new.machine new.table sound.machine steps sound.reservations;
}

-- a machine at time 0 that holds one IKE SA
pub timely_alone : (config : Config) (a : Association) → IsInTime 0 a
    → IsTimely (record (new_machine config) { held = record { next = 2; associations = a ∷ [] } })
timely_alone config a is zero d less = is
timely_alone config a is (suc place) d less = absurd (omega (arith, less))
