-- What an exchange makes of an IKE SA, by what it concluded.
use Rattle.std.proofs.Common.{◌≡◌, ℕ, Bool, Option, true, false, Some, None, ap, refl}
use Rattle.sadb.specs.Database.{Database}
use Rattle.sadb.specs.declared.pair.Pair.{Pair}
use Rattle.association.specs.Outcomes.{childless, closed_by, made_by}
use Rattle.association.specs.declared.outcome.Fate.{Fate}
use Rattle.association.specs.declared.outcome.Fate.TheVariants as fate
use Rattle.association.specs.declared.phase.Association.{Association}
use Rattle.initial.specs.Concluding.{is_closing, ConcludesBy}
use Rattle.initial.specs.declared.concluding.Outcome.{Outcome}
use Rattle.initial.specs.declared.concluding.Outcome.TheVariants as outcome
use Rattle.setup.specs.Configs.{Setup}
use Rattle.further.specs.declared.concluding.Conclusion.{Conclusion}
use Rattle.further.specs.declared.concluding.Conclusion.TheVariants as conclusion
use Rattle.create_child.specs.Answering.{ConcludesFurther}
use Rattle.create_child.specs.Counting.{is_closing_conclusion, EndsFurther}

-- ---- whether it is closed

pub concluded_fate : (setup : Setup) (a : Association) (table : Database) (o : Outcome) (came : Fate) (new : Association) (new_table : Database)
    → ConcludesBy setup a table o came new new_table → closed_by came ≡ is_closing o
concluded_fate setup a table outcome.Closes came new new_table is = ap closed_by is.closed
concluded_fate setup a table (outcome.Establishes pair window) came new new_table is = is.stands

pub answered_fate : (closing : Bool) (pair : Option Pair) (a : Association) (table : Database) (moment : ℕ) (came : Fate) (new : Association) (new_table : Database)
    → ConcludesFurther closing pair a table moment came new new_table → closed_by came ≡ closing
answered_fate true pair a table moment came new new_table is = ap closed_by is.0
answered_fate false None a table moment fate.Stands new new_table is = refl
answered_fate false None a table moment (fate.Made serial) new new_table is = absurd is.1
answered_fate false None a table moment fate.Closed new new_table is = absurd is.1
answered_fate false (Some pair) a table moment fate.Stands new new_table is = absurd is.1
answered_fate false (Some pair) a table moment (fate.Made serial) new new_table is = refl
answered_fate false (Some pair) a table moment fate.Closed new new_table is = absurd is.1

pub counted_fate : (c : Conclusion) (spi : ℕ) (a : Association) (table : Database) (moment : ℕ) (came : Fate) (new : Association) (new_table : Database)
    → EndsFurther c spi a table moment came new new_table → closed_by came ≡ is_closing_conclusion c
counted_fate conclusion.Closes spi a table moment came new new_table is = ap closed_by is.closed
counted_fate (conclusion.Made pair) spi a table moment came new new_table is = ap closed_by is.told
counted_fate conclusion.NoChild spi a table moment came new new_table is = ap closed_by is.stands

pub childless_closed : (closed : Bool) → closed_by (childless closed) ≡ closed
childless_closed true = refl
childless_closed false = refl

-- ---- the Child SA

pub childless_made : (closed : Bool) → made_by (childless closed) ≡ None
childless_made true = refl
childless_made false = refl

same_serial : (a b : ℕ) → Some a ≡ Some b → a ≡ b
same_serial a b is = cc

some_none : (serial : ℕ) → Some serial ≡ None → ⊥
some_none serial is = cc

none_some : (serial : ℕ) → None ≡ Some serial → ⊥
none_some serial is = cc

yes_no : true ≡ false → ⊥
yes_no is = cc

no_yes : false ≡ true → ⊥
no_yes is = cc

-- both together tell the fate
pub same_fate : (a b : Fate) → made_by a ≡ made_by b → closed_by a ≡ closed_by b → a ≡ b
same_fate fate.Stands fate.Stands made closed = refl
same_fate fate.Stands (fate.Made serial) made closed = absurd (none_some serial made)
same_fate fate.Stands fate.Closed made closed = absurd (no_yes closed)
same_fate (fate.Made serial) fate.Stands made closed = absurd (some_none serial made)
same_fate (fate.Made serial) (fate.Made other) made closed = ap (λ (n : ℕ). fate.Made n) (same_serial serial other made)
same_fate (fate.Made serial) fate.Closed made closed = absurd (some_none serial made)
same_fate fate.Closed fate.Stands made closed = absurd (yes_no closed)
same_fate fate.Closed (fate.Made serial) made closed = absurd (none_some serial made)
same_fate fate.Closed fate.Closed made closed = refl
