-- Whoever is held by a sound machine is sound.
use Rattle.std.proofs.Common.{◌≡◌, ℕ, suc, Bool, true, false, List, [], ◌∷◌, Option, Some, slice_get, cond}
use Rattle.std.specs.List.{find}
use Rattle.sadb.specs.Database.{Database}
use Rattle.association.specs.declared.phase.Association.{Association}
use Rattle.ike.specs.Machines.{association_of, has_serial, Machine}
use Rattle.ike.specs.Soundness.{IsSound, IsSoundMachine}

record Placed (xs : List Association) (a : Association) : Type 0 where
  place : ℕ
  at : slice_get xs place ≡ Some a

placed_in : (b : Bool) (x a : Association) (xs : List Association) (found : Option Association) → (found ≡ Some a → Placed xs a) → cond b (Some x) found ≡ Some a → Placed (x ∷ xs) a
placed_in true x a xs found rest is = record { place = 0; at = is }
placed_in false x a xs found rest is = let later = rest is in record { place = suc later.place; at = later.at }

placed : (p : Association → Bool) (xs : List Association) (a : Association) → find p xs ≡ Some a → Placed xs a
placed p [] a is = absurd cc
placed p (x ∷ xs) a is = placed_in (p x) x a xs (find p xs) (placed p xs a) is

pub sound_at : (machine : Machine) (table : Database) (serial : ℕ) (a : Association) → IsSoundMachine machine table → association_of serial machine.held.associations ≡ Some a → IsSound a machine.held.next table
sound_at machine table serial a sound there =
    let is = placed (has_serial serial) machine.held.associations a there in
    sound.held.each is.place a is.at
