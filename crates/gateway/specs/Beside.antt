-- Two runs side by side: of the second one strangers' inputs are left out.
use Rattle.std.specs.Prelude.{◌≡◌, ◌⊎◌, ◌+◌, ◌<◌, ◌==◌, ◌||◌, ◌∷◌, ℕ, Bool, true, false, List, [], nat_lt, take, if◌then◌else◌}
use Rattle.effects.specs.Taking.{Meaning}
use Rattle.ike.specs.Machines.{SERIAL_END}
use Rattle.ike.specs.Receiving.{IsInitialRequest}
use Rattle.gateway.specs.Contents.{state_content}
use Rattle.gateway.specs.Carrying.{EachPairIsOfAnEstablished}
use Rattle.gateway.specs.Histories.{IsHistory, IsTrail, Passage}
use Rattle.gateway.specs.Inputs.{Input}
use Rattle.gateway.specs.Inputs as input
use Rattle.gateway.specs.LeavingOut.{HasMemory, IsAny}
use Rattle.gateway.specs.States.{State}
use Rattle.gateway.specs.Strangers.{IsStrange}
use Rattle.gateway.specs.declared.output.Output.{Output}
use Rattle.gateway.specs.Others.{AreHalfOpen, IsApart, said_without, state_without}
use Rattle.gateway.specs.Renaming.{renamed_input, renamed_said, renamed_state, IsRenaming}

-- ---- what is left out

-- the input is a datagram that asks for an IKE SA (RFC 7296 section 1.2)
abbrev pub IsFirst : Input → Type 0
IsFirst (input.Ike from octets fresh) = IsInitialRequest octets
IsFirst (input.Esp octets) = ⊥
IsFirst (input.Outward packet) = ⊥
IsFirst (input.Inward packet) = ⊥
IsFirst (input.Start serial entry fresh) = ⊥
IsFirst (input.Probe serial fresh) = ⊥
IsFirst (input.DeleteChild child fresh) = ⊥
IsFirst (input.DeleteIke serial fresh) = ⊥
IsFirst (input.Secret secret) = ⊥
IsFirst (input.Tick moment) = ⊥

-- A stranger's input: it passes no check under keys that are held, or asks for an IKE SA.
abbrev pub IsOfStranger : {C : Type 0} → (C → Meaning) → Passage C → Type 0
IsOfStranger {C} meaning_of p = IsStrange (meaning_of p.before.caller) p.before p.given ⊎ IsFirst p.given

-- ---- the serials, in both runs

-- the serial that an IKE SA gets in this step, where it makes one
abbrev pub next_before : {C : Type 0} → Passage C → ℕ
next_before {C} p = p.before.machine.held.next

abbrev pub makes_none : {C : Type 0} → Passage C → Bool
makes_none {C} p = p.before.machine.held.next == p.after.machine.held.next

-- a serial is passed over, so those from it on move up by one
abbrev pub passing_over : ℕ → ℕ → ℕ
passing_over passed serial = if nat_lt serial passed then serial else serial + 1

-- Where what is left out began an IKE SA, its serial is one that the second run never gives for it.
abbrev pub renaming_after : {C : Type 0} → (ℕ → ℕ) → Passage C → ℕ → ℕ
renaming_after {C} renaming p serial = if makes_none p then renaming serial else passing_over (next_before p) (renaming serial)

abbrev pub strange_after : {C : Type 0} → (ℕ → Bool) → Passage C → ℕ → Bool
strange_after {C} strange p serial = if makes_none p then strange serial else serial == next_before p || strange serial

-- nothing is renamed, and nothing was left out
abbrev pub itself : ℕ → ℕ
itself serial = serial

abbrev pub none_yet : ℕ → Bool
none_yet serial = false

-- ---- one gateway beside the other

-- What the first gateway holds without the strange IKE SAs is what the second one holds, with its serials
-- renamed. The strange ones are half open, were given serials before, and none of these is one to which
-- another is renamed.
pub record HoldsBeside {C : Type 0} (renaming : ℕ → ℕ) (strange : ℕ → Bool) (one other : State C) : Type 0 where
  pub content : state_content (state_without strange one) ≡ state_content (renamed_state renaming other)
  pub renames : IsRenaming renaming other.machine.held.next
  pub apart : (serial : ℕ) → strange (renaming serial) ≡ false
  pub half_open : AreHalfOpen strange one.machine.held
  pub given : (serial : ℕ) → strange serial ≡ true → serial < one.machine.held.next

-- ---- one step beside the other

-- Both steps are given the same input, with serials renamed, while a serial is left. The input has to do with
-- none of the strange IKE SAs, and neither step is refused for want of memory. The first one is such a step.
pub record IsGivenBeside {C : Type 0} (Is : Passage C → Type 0) (renaming : ℕ → ℕ) (strange : ℕ → Bool) (p q : Passage C) : Type 0 where
  pub given : p.given ≡ renamed_input renaming q.given
  pub left : p.before.machine.held.next < SERIAL_END
  pub apart : IsApart strange p.before p.given
  pub is : Is p
  pub memory : HasMemory p
  pub memory_too : HasMemory q

-- Both say the same, with serials renamed, but for what a `Tick` tells of strange IKE SAs.
abbrev pub IsAnsweredBeside : {C : Type 0} → (ℕ → ℕ) → (ℕ → Bool) → Passage C → Passage C → Type 0
IsAnsweredBeside {C} renaming strange p q = said_without strange p.said ≡ renamed_said renaming q.said

-- ---- one run beside the other

-- what is asked or said of the two runs, step by step
pub record OfSteps (C : Type 0) : Type 1 where
  -- of a step that is left out
  pub Out : Passage C → Type 0
  -- of two steps, under the renaming of then
  pub Both : (ℕ → ℕ) → (ℕ → Bool) → Passage C → Passage C → Type 0
  -- of both gateways at the end
  pub End : (ℕ → ℕ) → (ℕ → Bool) → Type 0

-- It holds along two runs. A mark for each step of the first one says by true that its input is left out of
-- the second one. Behind the marks all stays.
abbrev pub Along : {C : Type 0} → OfSteps C → List Bool → (ℕ → ℕ) → (ℕ → Bool) → List (Passage C) → List (Passage C) → Type 0
Along {C} of marks renaming strange [] [] = of.End renaming strange
Along {C} of marks renaming strange [] (q ∷ others) = ⊥
Along {C} of [] renaming strange (p ∷ passages) [] = ⊥
Along {C} of [] renaming strange (p ∷ passages) (q ∷ others) = of.Both renaming strange p q × Along of [] renaming strange passages others
Along {C} of (true ∷ marks) renaming strange (p ∷ passages) others = of.Out p × Along of marks (renaming_after renaming p) (strange_after strange p) passages others
Along {C} of (false ∷ marks) renaming strange (p ∷ passages) [] = ⊥
Along {C} of (false ∷ marks) renaming strange (p ∷ passages) (q ∷ others) = of.Both renaming strange p q × Along of marks renaming strange passages others

-- The second run is given what the first one is, without the inputs of strangers that are marked. Each step of
-- the first one whose input stays is such a one.
abbrev pub AreGivenBeside : {C : Type 0} → (C → Meaning) → (Passage C → Type 0) → List Bool → (ℕ → ℕ) → (ℕ → Bool) → List (Passage C) → List (Passage C) → Type 0
AreGivenBeside {C} meaning_of Is = Along (record {
  Out = IsOfStranger meaning_of;
  Both = IsGivenBeside Is;
  End = λ renaming strange. Unit {0};
})

-- What is given to both is answered alike, and both hold alike at the end.
abbrev pub AreAnsweredBeside : {C : Type 0} → List Bool → (ℕ → ℕ) → (ℕ → Bool) → List (Passage C) → List (Passage C) → State C → State C → Type 0
AreAnsweredBeside {C} marks renaming strange passages others new after = Along (record {
  Out = λ p. Unit {0};
  Both = IsAnsweredBeside;
  End = λ renaming strange. HoldsBeside renaming strange new after;
}) marks renaming strange passages others

-- ---- what is promised of a list

-- Of a list of inputs, as far as it is taken. Let another run begin in a gateway that holds beside this one, be
-- it the same but for spare room (`itself` and `none_yet`), or after runs of which this was promised. Let it be
-- given the same inputs, with serials renamed, but for some of strangers. Then what both are given is answered
-- alike, and both hold beside each other at the end. In each of them each pair is of an established IKE SA
-- before the list, as in every gateway.
pub record HasOneResultBeside {C : Type 0} (meaning_of : C → Meaning) (inputs : List Input) (old : State C) : Type 0 where
  pub each : (count : ℕ) (outputs : List Output) (new : State C) (passages : List (Passage C)) → IsHistory meaning_of (take count inputs) outputs old new passages
      → (marks : List Bool) (renaming : ℕ → ℕ) (strange : ℕ → Bool) (others : List (Passage C)) (other after : State C) → IsTrail meaning_of other others after
      → HoldsBeside renaming strange old other → EachPairIsOfAnEstablished old → EachPairIsOfAnEstablished other
      → AreGivenBeside meaning_of IsAny marks renaming strange passages others → AreAnsweredBeside marks renaming strange passages others new after
