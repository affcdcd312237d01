-- What is said of the octets and the message that a datagram lends is said of the datagram.
use Rattle.std.proofs.Common.{◌≡◌, subst}
use Rattle.base.specs.Octets.{Octets}
use Rattle.wire.specs.declared.message.Message.{Message}
use Rattle.association.specs.Receiving.{Opening}
use Rattle.association.specs.declared.phase.Association.{Association}
use Rattle.children.specs.declared.fault.MemoryFault.{MemoryFault}
use Rattle.sadb.specs.Database.{Database}
use Rattle.setup.specs.Configs.{Setup}
use Rattle.effects.specs.Taking.{CanWant, Meaning, TakesMessage}
use Rattle.effects.specs.declared.taking.Effect.{Effect}

pub lent_takes : (meaning : Meaning) (setup : Setup) (old : Association) (table : Database) (lent octets : Octets) (read m : Message) (effect : Effect) (new : Association) (new_table : Database)
    → lent ≡ octets → read ≡ m → TakesMessage meaning setup old table lent read effect new new_table → TakesMessage meaning setup old table octets m effect new new_table
lent_takes meaning setup old table lent octets read m effect new new_table same one takes =
    subst (λ (x : Octets). TakesMessage meaning setup old table x m effect new new_table) same
    (subst (λ (x : Message). TakesMessage meaning setup old table lent x effect new new_table) one takes)

pub lent_wants : (plain_of : Opening) (old : Association) (table : Database) (lent octets : Octets) (read m : Message) (f : MemoryFault)
    → lent ≡ octets → read ≡ m → CanWant plain_of old table lent read f → CanWant plain_of old table octets m f
lent_wants plain_of old table lent octets read m f same one wants =
    subst (λ (x : Octets). CanWant plain_of old table x m f) same
    (subst (λ (x : Message). CanWant plain_of old table lent x f) one wants)
