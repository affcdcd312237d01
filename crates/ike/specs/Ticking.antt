-- What a `Tick` brings (RFC 7296 sections 2.1 and 2.4).
use Rattle.std.specs.Prelude.{◌≡◌, ℕ, List, max}
use Rattle.association.specs.declared.phase.Association.{Association}
use Rattle.moments.specs.Due.{SomethingComes}
use Rattle.sadb.specs.Database.{Database}
use Rattle.children.specs.declared.fault.MemoryFault.TheVariants as child
use Rattle.moments.specs.Ticking.{Ticks}
use Rattle.moments.specs.declared.ticking.Ticked.{Ticked}
use Rattle.ike.specs.Machines.{Held, Machine}
use Rattle.ike.specs.Outputs.{plain_step}
use Rattle.ike.specs.declared.fault.IkeFault.{IkeFault}
use Rattle.ike.specs.declared.fault.IkeFault.TheVariants as fault
use Rattle.ike.specs.declared.output.IkeOutput.TheVariants as output
use Rattle.ike.specs.declared.output.Stepped.{Stepped}

-- what is due at a time is done, and no serial is given
pub record TakesHeld (now : ℕ) (old : Held) (table : Database) (new : Held) (new_table : Database) (stepped : Stepped) : Type 0 where
  pub ticked : Ticked
  pub ticks : Ticks now old.associations table ticked new.associations new_table
  pub said : stepped ≡ plain_step (output.Ticked ticked)
  pub next : new.next ≡ old.next

-- The time never goes back: one before the greatest so far counts as that one.
pub record TakesMoment (moment : ℕ) (old : Machine) (table : Database) (stepped : Stepped) (new : Machine) (new_table : Database) : Type 0 where
  pub takes : TakesHeld (max old.moment moment) old.held table new.held new_table stepped
  pub content : new ≡ record old { moment = max old.moment moment; held = new.held }

-- refused on allocation failure alone, for its output, and only where something is due at the IKE SAs that
-- are held
abbrev pub RefusesMoment : ℕ → List Association → IkeFault → Type 0
RefusesMoment now associations (fault.Memory f) = (f ≡ child.Message) × SomethingComes now associations
RefusesMoment now associations reason = ⊥
