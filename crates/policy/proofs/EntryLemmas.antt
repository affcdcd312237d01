-- The first entry at fault.
use Rattle.std.proofs.Common.{◌≡◌, ◌⊎◌, inl, inr, ℕ, ◌+◌, ◌<◌, ◌≤◌, List, length, get_or, Some, sym, ◌∙◌, ap, subst, arith}
use Rattle.std.specs.List.{slice_get}
use Rattle.std.proofs.lemmas.Option.{slice_get-get_or, slice_get_within}
use Rattle.base.specs.declared.address.Range.TheVariants.{V4}
use Rattle.policy.specs.declared.entry.Entry.{Entry}
use Rattle.policy.specs.declared.entry.Action.TheVariants.{Discard}
use Rattle.policy.specs.Entries.{IsSoundEntry, IsEntryAtFault, IsFirstEntryAtFault, IsSoundPolicy}
use Rattle.policy.proofs.Scanning.{same_item, before_or_here}

-- no entry before the place is at fault
pub record IsSoundBefore (entries : List Entry) (place : ℕ) : Type 0 where
  pub few : place ≤ 256
  pub each : (k : ℕ) (e : Entry) → k < place → slice_get entries k ≡ Some e → IsSoundEntry e

pub sound_yet : (entries : List Entry) → IsSoundBefore entries 0
sound_yet entries = record { few = omega arith; each = λ k e before there. absurd (omega arith) }

pub sound_more : (entries : List Entry) (place : ℕ) (d : Entry) → place < length entries → place < 256 → IsSoundEntry (get_or entries place d) → IsSoundBefore entries place → IsSoundBefore entries (place + 1)
sound_more entries place d within few here before = record {
  few = omega arith;
  each = λ k e below there.
      elim (before_or_here k place below) [
        | inl less ↦ before.each k e less there
        | inr same ↦ subst IsSoundEntry (same_item (get_or entries place d) e (sym (slice_get-get_or entries place d within) ∙ ap (slice_get entries) (sym same) ∙ there)) here
      ];
}

no_fault : (entries : List Entry) (place k : ℕ) → IsSoundBefore entries place → k < place → ¬ IsEntryAtFault entries k
no_fault entries place k before less fault =
    elim fault.fault [
      | inl bad ↦ bad (before.each k fault.entry less fault.there)
      | inr late ↦ (let few = before.few in absurd (omega arith))
    ]

pub first_fault : (entries : List Entry) (place : ℕ) (d : Entry) → place < length entries → (¬ IsSoundEntry (get_or entries place d)) ⊎ (256 ≤ place) → IsSoundBefore entries place → IsFirstEntryAtFault entries place
first_fault entries place d within fault before = record {
  here = record { entry = get_or entries place d; there = slice_get-get_or entries place d within; fault = fault };
  before = λ k less. no_fault entries place k before less;
}

-- the same of a list that is read in another place
pub nothing : Entry
nothing = record { protocol = 0; local = V4 0 0; remote = V4 0 0; local_ports = (0, 0); remote_ports = (0, 0); action = Discard }

pub first_fault_in : (entries items : List Entry) (place : ℕ) (d : Entry) → items ≡ entries → place < length items → (¬ IsSoundEntry (get_or items place d)) ⊎ (256 ≤ place) → IsSoundBefore entries place → IsFirstEntryAtFault entries place
first_fault_in entries items place d same within fault before =
    subst (λ (xs : List Entry). IsFirstEntryAtFault xs place) same (first_fault items place d within fault (subst (λ (xs : List Entry). IsSoundBefore xs place) (sym same) before))

pub sound_more_in : (entries items : List Entry) (place : ℕ) (d : Entry) → items ≡ entries → place < length items → place < 256 → IsSoundEntry (get_or items place d) → IsSoundBefore entries place → IsSoundBefore entries (place + 1)
sound_more_in entries items place d same within few here before =
    subst (λ (xs : List Entry). IsSoundBefore xs (place + 1)) same (sound_more items place d within few here (subst (λ (xs : List Entry). IsSoundBefore xs place) (sym same) before))

pub all_sound : (entries : List Entry) (place : ℕ) → length entries ≤ place → IsSoundBefore entries place → IsSoundPolicy entries
all_sound entries place end before = record {
  few = let few = before.few in omega arith;
  each = λ k e there. before.each k e (let within = slice_get_within entries k e there in omega arith) there;
}
