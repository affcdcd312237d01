-- What is remembered of flows stays right over a step.
use Rattle.std.proofs.Common.{◌≡◌, ℕ, List, Option, Some, None, inl, inr, refl, sym, ap, subst, ◌∙◌}
use Rattle.std.specs.Prelude.{MatchOption}
use Rattle.policy.specs.declared.entry.Entry.{Entry}
use Rattle.sadb.specs.Database.{Database, pair_at, PairMap}
use Rattle.sadb.specs.declared.pair.Pair.{Pair}
use Rattle.sadb.specs.declared.pair.State.TheVariants.{Live, Deleting}
use Rattle.flows.specs.declared.memory.Answer.{Answer}
use Rattle.flows.specs.Memory.{AllRight, HoldsNone}
use Rattle.flows.specs.Staying.{NoneComes, WasThere}
use Rattle.ike.specs.Machines.{Held}
use Rattle.ike.specs.Pairs.{BecameDeleting}
use Rattle.ike.specs.Tracing.{IsTraced}
use Rattle.ike.specs.declared.output.MadeChild.{MadeChild}
use Rattle.ike.specs.declared.output.Stepped.{Stepped}

itself : (pairs : PairMap) (serial : ℕ) (pair : Pair) → pair_at pairs serial ≡ Some pair → WasThere pairs serial pair
itself pairs serial pair there = record { was = pair; there = there; local = refl; remote = refl; live = λ live. live }

was_marked : (old : Database) (serial : ℕ) (pair : Pair) → BecameDeleting old serial pair → WasThere old.pairs serial pair
was_marked old serial pair is = record {
  was = is.was;
  there = is.stood;
  local = ap (λ (p : Pair). p.local) is.is;
  remote = ap (λ (p : Pair). p.remote) is.is;
  live = λ live. absurd (let marked : Deleting ≡ Live = sym (ap (λ (p : Pair). p.state) is.is) ∙ live in cc);
}

-- a step that made no Child SA
pub none_comes : (held : Held) (table : Database) (stepped : Stepped) (new : Held) (new_table : Database) → IsTraced held table stepped new new_table → stepped.trace.child ≡ None
    → NoneComes table.pairs new_table.pairs
none_comes held table stepped new new_table is none = λ serial pair there.
    elim (is.pairs serial pair there) [
      | inl same ↦ itself table.pairs serial pair same
      | inr (inl named) ↦ absurd (let made : Some named.made ≡ None = sym named.named ∙ none in cc)
      | inr (inr marked) ↦ was_marked table serial pair marked
    ]

pub same_pairs : (old new : PairMap) → new ≡ old → NoneComes old new
same_pairs old new is = λ serial pair there. itself old serial pair (subst (λ (pairs : PairMap). pair_at pairs serial ≡ Some pair) is there)

-- what is remembered after a step
pub right_after : (policy : List Entry) (old new : PairMap) (memory later : List (Option Answer)) (child : Option MadeChild)
    → (NoneComes old new → AllRight policy old memory → AllRight policy new memory) → (HoldsNone later → AllRight policy new later)
    → (child ≡ None → NoneComes old new) → MatchOption child (later ≡ memory) (λ _. HoldsNone later) → AllRight policy old memory → AllRight policy new later
right_after policy old new memory later None stay none comes is right = subst (AllRight policy new) (sym is) (stay (comes refl) right)
right_after policy old new memory later (Some made) stay none comes is right = none is
