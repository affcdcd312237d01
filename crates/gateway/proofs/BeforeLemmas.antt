-- What is known of one step of the machine of IKE, and what follows of an IKE SA whose serial was given before it.
use Rattle.std.proofs.Common.{◌≡◌, ◌<◌, ◌≤◌, inl, inr, ℕ, Bool, true, false, List, [], ◌∷◌, Option, Some, None, eqb-true, cond, arith, ap, sym, refl, ◌∙◌}
use Rattle.base.specs.Octets.{Octets}
use Rattle.wire.specs.declared.message.Message.{Message}
use Rattle.policy.specs.declared.entry.Entry.{Entry}
use Rattle.sadb.specs.Database.{Database}
use Rattle.association.specs.declared.phase.Association.{Association}
use Rattle.setup.specs.Configs.{Setup}
use Rattle.effects.specs.Taking.{KeepsIdentity, Meaning, TakesMessage}
use Rattle.effects.specs.declared.taking.Effect.{Effect}
use Rattle.ike.specs.Before.{WasThere}
use Rattle.ike.specs.LawsOfBefore.{EachAssociationWasThereOrCame, FirstRequestsTellWhatIsHeld, NoSerialIsGivenAgain}
use Rattle.ike.specs.LawsOfSealing.{EachAssociationIsSound}
use Rattle.ike.specs.Machines.{association_of, has_serial, Machine}
use Rattle.ike.specs.Soundness.{IsSoundMachine}
use Rattle.ike.specs.Steps as ike
use Rattle.ike.specs.declared.output.Stepped.{Stepped}

pub same_one : {T : Type 0} (x y : T) → Some x ≡ Some y → x ≡ y
same_one {T} x y is = cc

pub none_some : {T : Type 0} (x : T) → None ≡ Some x → ⊥
none_some {T} x is = cc

pub record StepLaws : Type 0 where
  pub came : EachAssociationWasThereOrCame
  pub rising : NoSerialIsGivenAgain
  pub tells : FirstRequestsTellWhatIsHeld
  pub sound_at : EachAssociationIsSound
  pub itself : (meaning : Meaning) (setup : Setup) (old : Association) (table : Database) (octets : Octets) (m : Message) (e : Effect) (new : Association) (new_table : Database)
      → TakesMessage meaning setup old table octets m e new new_table → KeepsIdentity old new

-- the one with a serial has it
serial_by : (b : Bool) (x a : Association) (serial : ℕ) (others : Option Association) → has_serial serial x ≡ b → cond b (Some x) others ≡ Some a → (others ≡ Some a → a.serial ≡ serial) → a.serial ≡ serial
serial_by true x a serial others here is rest = ap (λ (y : Association). y.serial) (sym (same_one x a is)) ∙ eqb-true x.serial serial here
serial_by false x a serial others here is rest = rest is

pub serial_is : (xs : List Association) (serial : ℕ) (a : Association) → association_of serial xs ≡ Some a → a.serial ≡ serial
serial_is [] serial a there = absurd cc
serial_is (x ∷ xs) serial a there = serial_by (has_serial serial x) x a serial (association_of serial xs) refl there (serial_is xs serial a)

-- so it was given before
pub given_before : (laws : StepLaws) (machine : Machine) (table : Database) → IsSoundMachine machine table → (serial : ℕ) (a : Association) → association_of serial machine.held.associations ≡ Some a → serial < machine.held.next
given_before laws machine table sound serial a there =
    let least = (laws.sound_at machine table serial a sound there).serial_given in
    let same = serial_is machine.held.associations serial a there in
    omega (arith, least, same)

-- one whose serial was given before the step was there before it
pub step_previous : (laws : StepLaws) (meaning : Meaning) (entries : List Entry) (view : ike.InputView) (old : Machine) (table : Database) (stepped : Stepped) (new : Machine) (new_table : Database)
    → IsSoundMachine old table → ike.Steps meaning entries view old table stepped new new_table
    → (serial : ℕ) (is : Association) → serial < old.held.next → association_of serial new.held.associations ≡ Some is → WasThere meaning entries view old table new.held new_table serial is
step_previous laws meaning entries view old table stepped new new_table sound steps serial is given there = elim (laws.came meaning entries view old table stepped new new_table serial is sound steps there) [
  | inl before ↦ before
  | inr now ↦ (let next = now.next in absurd (omega (arith, given, next)))
]
