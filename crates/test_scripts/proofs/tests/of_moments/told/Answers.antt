use Rattle.std.proofs.Common.{◌≡◌, ℕ, List, Some, slice_get, inl, inr, subst, zero, suc, ◌∷◌, []}
use Rattle.std.proofs.lemmas.Option.{none-some}
use Rattle.std.proofs.lemmas.List.Elements.{recursion_from_All}
use Rattle.std.specs.List.{AllByRecursion}
use Rattle.association.specs.Closing.{HoldsNoSpi}
use Rattle.association.specs.declared.phase.Association.{Association}
use Rattle.test_scripts.proofs.tests.of_moments.told.Goals as goal

none_at : (all : List Association) (place : ℕ) (a : Association) → AllByRecursion HoldsNoSpi all → slice_get all place ≡ Some a → HoldsNoSpi a
none_at [] place a none there = absurd (none-some a there)
none_at (x ∷ xs) zero a none there = let same : x ≡ a = cc in subst HoldsNoSpi same none.0
none_at (x ∷ xs) (suc place) a none there = none_at xs place a none.1 there

pub tick-requires : goal.tick-requires
tick-requires g c =
    let none = subst (λ (all : List Association). AllByRecursion HoldsNoSpi all) c.as_slice.ensures.value (recursion_from_All HoldsNoSpi c.as_slice.result.now (c.if-not-none_waits_for_child.ensures {u = tt})) in
    record {
      reserved = λ place a there.
          let free = (none_at c.args.associations.now.items place a none there).none in
          record {
            reserved = λ spi its. absurd (free spi its);
            first = λ spi its awaits. free spi (inl its);
            one = λ number other spi one two. absurd (free spi (inr (record { number = number; awaits = one })));
          };
      apart = λ place later a other spi less there further its. absurd ((none_at c.args.associations.now.items place a none there).none spi its);
    }
