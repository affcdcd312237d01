-- An input has one result.
use Rattle.std.specs.Prelude.{◌≡◌, false}
use Rattle.effects.specs.Taking.{Meaning}
use Rattle.gateway.specs.Contents.{state_content}
use Rattle.gateway.specs.Inputs.{Input}
use Rattle.gateway.specs.Outputs.{wants_memory, OutputView}
use Rattle.gateway.specs.States.{State}
use Rattle.gateway.specs.Steps.{Steps}

-- Whatever step takes this input in a gateway of the same content has this output, and leaves the same
-- content: whatever room either has, unless memory runs out at one of the two.
abbrev pub HasOneResult : {C : Type 0} → Meaning → Input → State C → OutputView → State C → Type 0
HasOneResult {C} meaning given old said new =
    (other after : State C) (also : OutputView) → state_content other ≡ state_content old
    → wants_memory said ≡ false → wants_memory also ≡ false
    → Steps meaning given other also after
    → (also ≡ said) × (state_content after ≡ state_content new)
