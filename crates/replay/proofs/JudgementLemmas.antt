-- How a window judges a sequence number in its span or above it.
use Rattle.std.specs.Prelude.{◌≡◌, ℕ, ◌+◌, ◌<◌, ◌≤◌, Bool, false, if◌then◌else◌}
use Rattle.std.specs.FinSet as set
use Rattle.std.proofs.Common.{arith, sym, ◌∙◌, ap}
use Rattle.std.proofs.lemmas.Bool.Decides.{nat_tests}
use Rattle.replay.specs.declared.window.Judgement.TheVariants.{Zero, Old, Taken, Fresh}
use Rattle.replay.specs.Window.{Seen, judgement}

judgement_cases : (zero old taken : Bool) → zero ≡ false → old ≡ false → (if zero then Zero else if old then Old else if taken then Taken else Fresh) ≡ (if taken then Taken else Fresh)
judgement_cases zero old taken not_zero not_old = cc

-- what is not below the span is judged by whether it was taken
pub judged_in_span : (w : Seen) (n : ℕ) (found : Bool) → 1 ≤ n → w.top < n + w.size → found ≡ set.contains w.taken n → judgement w n ≡ (if found then Taken else Fresh)
judged_in_span w n found not_zero not_old is =
    judgement_cases _ _ _ (grind (arith, nat_tests)) (grind (arith, nat_tests)) ∙ ap (λ b. if b then Taken else Fresh) (sym is)
