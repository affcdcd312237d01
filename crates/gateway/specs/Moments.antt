-- Time over a run: what is due comes with the first `Tick` that reaches it, and with nothing else (RFC 7296
-- sections 2.1 and 2.4).
use Rattle.std.specs.Prelude.{◌≡◌, ◌⊎◌, ℕ, Bool, true, false, Some, List, max, slice_get}
use Rattle.ike.specs.Moments.{BringsDue, IsTimely, StaysAt}
use Rattle.ike.specs.declared.output.Stepped.{Stepped}
use Rattle.moments.specs.Due.{SomethingComes}
use Rattle.moments.specs.declared.ticking.Ticked.{Ticked}
use Rattle.gateway.specs.Histories.{Passage}
use Rattle.gateway.specs.Inputs.{Input}
use Rattle.gateway.specs.Inputs as input
use Rattle.gateway.specs.Outputs as output
use Rattle.gateway.specs.Outputs.{view_of_ike, wants_memory, OutputView}

abbrev pub is_moment : Input → Bool
is_moment (input.Tick moment) = true
is_moment _ = false

abbrev pub tells_moment : OutputView → Bool
tells_moment (output.Ticked requests closed) = true
tells_moment _ = false

-- this step is a `Tick` that brings all that is due at a time, and nothing else; that time is the greatest
-- so far from then on
pub record Brings {C : Type 0} (now : ℕ) (p : Passage C) : Type 0 where
  pub ticked : Ticked
  pub said : p.said ≡ output.Ticked ticked.requests ticked.closed
  pub brings : BringsDue now p.before.machine.held p.before.table ticked p.after.machine.held p.after.table
  pub moment : p.after.machine.moment ≡ now

-- the step is one of the IKE machine at which no time passes
pub record StandsStill {C : Type 0} (p : Passage C) : Type 0 where
  pub stepped : Stepped
  pub said : p.said ≡ view_of_ike stepped.output
  pub stays : StaysAt p.before.machine stepped p.after.machine

-- This step brings nothing that is due, and no time passes. The timers of what waits and of what is held
-- for a time stay, or the machine is unchanged altogether.
pub record BringsNone {C : Type 0} (p : Passage C) : Type 0 where
  pub said : tells_moment p.said ≡ false
  pub moment : p.after.machine.moment ≡ p.before.machine.moment
  pub stays : (p.after.machine ≡ p.before.machine) ⊎ StandsStill p

-- A request is retransmitted, and an IKE SA is closed or removed, at the first `Tick` that reaches its time
-- by the timers as they stand. So before each step and after it nothing is overdue at the greatest time so
-- far, and no timer starts in the future. A `Tick` that is refused on allocation failure changes nothing but
-- the table's spare capacity (`RequestsTakeEffect.undelivered`). That an IKE SA is removed by a `Tick`
-- alone stands in `RepeatsAreAnswered.held`.
pub record MomentsComeInTime {C : Type 0} (passages : List (Passage C)) : Type 0 where
  pub done : (place : ℕ) (p : Passage C) → slice_get passages place ≡ Some p → IsTimely p.before.machine × IsTimely p.after.machine
  pub comes : (place moment : ℕ) (p : Passage C) → slice_get passages place ≡ Some p → p.given ≡ input.Tick moment → wants_memory p.said ≡ false
      → Brings (max p.before.machine.moment moment) p
  -- a `Tick` is refused only where something is due with it
  pub needed : (place moment : ℕ) (p : Passage C) → slice_get passages place ≡ Some p → p.given ≡ input.Tick moment → wants_memory p.said ≡ true
      → SomethingComes (max p.before.machine.moment moment) p.before.machine.held.associations
  pub otherwise : (place : ℕ) (p : Passage C) → slice_get passages place ≡ Some p → is_moment p.given ≡ false → BringsNone p
