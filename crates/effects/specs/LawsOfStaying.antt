-- What a message leaves unchanged.
use Rattle.std.specs.Prelude.{◌≡◌, ◌⊎◌, ℕ, Some}
use Rattle.sadb.specs.Database.{pair_at}
use Rattle.sadb.specs.declared.pair.Pair.{Pair}
use Rattle.effects.specs.Keeping.{child_in}
use Rattle.effects.specs.LawCases.{EachMessage, EachMessageWith, IsTaken}
use Rattle.effects.specs.Pairs.{LeavesPairs}
use Rattle.effects.specs.Taking.{KeepsIdentity}
use Rattle.effects.specs.declared.taking.Effect.TheVariants.{Refused, Repeated}

-- ---- associations_stay_themselves
abbrev pub AssociationsStayThemselves : Type 0
AssociationsStayThemselves = EachMessage (λ it.
    IsTaken it
    → KeepsIdentity it.old it.new)

-- ---- pairs_stay_as_they_were
abbrev pub PairsStayAsTheyWere : Type 0
PairsStayAsTheyWere = EachMessage (λ it.
    IsTaken it
    → LeavesPairs it.table it.old.serial it.new_table)

-- ---- pairs_that_come_are_told
abbrev pub PairsThatComeAreTold : Type 0
PairsThatComeAreTold = EachMessage (λ it. (serial : ℕ) (pair : Pair)
    → IsTaken it
    → pair_at it.new_table.pairs serial ≡ Some pair
    → (pair_at it.table.pairs serial ≡ Some pair) ⊎ (child_in it.effect ≡ Some serial))

-- ---- what_is_passed_over_changes_nothing
abbrev pub RefusalsChangeNothing : Type 0
RefusalsChangeNothing = EachMessageWith Refused (λ fault it.
    IsTaken it
    → (it.new ≡ it.old) × (it.new_table ≡ it.table))

abbrev pub RepeatsChangeNothing : Type 0
RepeatsChangeNothing = EachMessageWith Repeated (λ reply it.
    IsTaken it
    → (it.new ≡ it.old) × (it.new_table ≡ it.table))
