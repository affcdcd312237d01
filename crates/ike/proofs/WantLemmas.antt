-- An item of the machine's list, and for what a message for it can want memory.
use Rattle.std.proofs.Common.{◌≡◌, inl, inr, ◌<◌, ℕ, List, length, Some, refl, subst, sym, Ok}
use Rattle.std.specs.List.{slice_get}
use Rattle.std.specs.Prelude.{slice_index_or}
use Rattle.std.proofs.lemmas.Option.{slice_get_read}
use Rattle.base.specs.Octets.{Octets}
use Rattle.wire.specs.declared.message.Message.{Message}
use Rattle.association.specs.Receiving.{Opening}
use Rattle.children.specs.declared.fault.MemoryFault.{MemoryFault}
use Rattle.association.specs.declared.phase.Association.{Association}
use Rattle.sadb.specs.Database.{Database, IsTableRefusal}
use Rattle.sadb.specs.declared.fault.TableFault.{TableFault}
use Rattle.sadb.specs.declared.fault.TableFault.TheVariants as table
use Rattle.effects.specs.Taking.{CanWant}
use Rattle.ike.specs.Faults.{fault_of_table}
use Rattle.ike.specs.Machines.{Held}
use Rattle.ike.specs.Receiving.{WantsFound}
use Rattle.ike.specs.Starting.{GivesNoSpi}

-- what is read at a place of the items stands there in what they are seen as
pub read_there : (next : ℕ) (items : List Association) (old : Held) (place : ℕ) (a : Association) → record { next = next; associations = items } ≡ old → place < length old.associations
    → a ≡ slice_index_or items place a → slice_get old.associations place ≡ Some a
read_there next items old place a same within value =
    subst (λ (h : Held). slice_get h.associations place ≡ Some a) same
    (slice_get_read items (length items) place a refl (subst (λ (h : Held). place < length h.associations) (sym same) within) value)

pub wants_there : (plain_of : Opening) (old : Held) (table : Database) (place : ℕ) (octets : Octets) (m : Message) (a : Association) (f : MemoryFault) → slice_get old.associations place ≡ Some a
    → CanWant plain_of a table octets m f → WantsFound plain_of (Ok place) octets m old table f
wants_there plain_of old table place octets m a f there (inl is) = inl is
wants_there plain_of old table place octets m a f there (inr (makes, takes)) = inr (record { association = a; there = there; makes = makes; takes = takes })

pub withheld : (d : Database) (f : TableFault) → IsTableRefusal d f → GivesNoSpi d (fault_of_table f)
withheld d table.Full is = is
withheld d table.Spent is = is
withheld d table.Memory is = (is.0, is.1, inr (refl, is.2))
