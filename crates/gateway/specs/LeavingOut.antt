-- Two runs that are given the same but for some inputs, which each of them may have been given alone.
use Rattle.std.specs.Prelude.{◌≡◌, ◌⊎◌, ◌∷◌, ℕ, Bool, false, true, List, [], Some, map, slice_get, take}
use Rattle.std.specs.List.{AllByRecursion}
use Rattle.sadb.specs.Contents.{table_content}
use Rattle.effects.specs.Taking.{Meaning}
use Rattle.ike.specs.Receiving.{IsInitialRequest}
use Rattle.gateway.specs.Contents.{state_content}
use Rattle.gateway.specs.Histories.{IsHistory, IsTrail, Passage}
use Rattle.gateway.specs.Inputs.{Input}
use Rattle.gateway.specs.Inputs as input
use Rattle.gateway.specs.Lengths.{IsGiven}
use Rattle.gateway.specs.Outputs.{wants_memory, OutputView}
use Rattle.gateway.specs.Outputs as output
use Rattle.gateway.specs.States.{State}
use Rattle.gateway.specs.declared.fault.Reason.{Reason}
use Rattle.gateway.specs.declared.output.Output.{Output}
use Rattle.gateway.specs.Strangers.{CountsForOne, IsStrange}

-- What stays of a list: a mark for each place says by true what is left out. Behind the marks all stays.
abbrev pub without : {X : Type 0} → List Bool → List X → List X
without {X} [] xs = xs
without {X} (mark ∷ marks) [] = []
without {X} (true ∷ marks) (x ∷ xs) = without marks xs
without {X} (false ∷ marks) (x ∷ xs) = x ∷ without marks xs

-- so it is of each step whose input is left out
abbrev pub EachLeftOut : {C : Type 0} → (Passage C → Type 0) → List Bool → List (Passage C) → Type 0
EachLeftOut {C} Is marks passages = (place : ℕ) (p : Passage C) → slice_get marks place ≡ Some true → slice_get passages place ≡ Some p → Is p

-- the input isn't refused for want of memory
abbrev pub HasMemory : {C : Type 0} → Passage C → Type 0
HasMemory {C} p = wants_memory p.said ≡ false

-- the inputs and the outputs of a run, in order
abbrev pub inputs_of : {C : Type 0} → List (Passage C) → List Input
inputs_of {C} passages = map (λ p. p.given) passages

abbrev pub outputs_of : {C : Type 0} → List (Passage C) → List OutputView
outputs_of {C} passages = map (λ p. p.said) passages

-- Two runs are given the same inputs, but for those that the marks of each leave out. No input that stays is
-- refused for want of memory, and each is such a one.
pub record AreGivenAlike {C : Type 0} (meaning_of : C → Meaning) (Is : Passage C → Type 0) (marks also : List Bool) (passages others : List (Passage C)) (old other new after : State C) : Type 0 where
  pub first : IsTrail meaning_of old passages new
  pub second : IsTrail meaning_of other others after
  pub inputs : without marks (inputs_of passages) ≡ without also (inputs_of others)
  pub each : AllByRecursion Is (without also others)
  pub memory : AllByRecursion HasMemory (without marks passages)
  pub memory_too : AllByRecursion HasMemory (without also others)

-- what stays is answered alike in both
abbrev pub AreAnsweredAlike : {C : Type 0} → List Bool → List Bool → List (Passage C) → List (Passage C) → Type 0
AreAnsweredAlike {C} marks also passages others = without also (outputs_of others) ≡ without marks (outputs_of passages)

-- ---- all that a gateway holds

-- A datagram is of octets, and the length of a sealed body follows from that of its plain text, as the
-- cipher's law has it. So it is of every input of a gateway that runs.
abbrev pub IsRightlyGiven : {C : Type 0} → (C → Meaning) → Passage C → Type 0
IsRightlyGiven {C} meaning_of p = IsGiven (meaning_of p.before.caller) p.given

-- the gateway holds after the step what it held before, whatever spare room it has
abbrev pub ChangesNothing : {C : Type 0} → Passage C → Type 0
ChangesNothing {C} p = state_content p.after ≡ state_content p.before

-- the input is answered by `Refused`
pub record IsRefused {C : Type 0} (p : Passage C) : Type 0 where
  pub reason : Reason
  pub said : p.said ≡ output.Refused reason

-- it is strange, or refused, or changes nothing for another reason
abbrev pub IsWithoutEffect : {C : Type 0} → (C → Meaning) → Passage C → Type 0
IsWithoutEffect {C} meaning_of p = IsStrange (meaning_of p.before.caller) p.before p.given ⊎ (IsRefused p ⊎ ChangesNothing p)

-- ---- packets alone

-- an ESP packet, a packet on its way out, or one that came in unprotected
abbrev pub IsPacket : Input → Type 0
IsPacket (input.Esp octets) = Unit {0}
IsPacket (input.Outward packet) = Unit {0}
IsPacket (input.Inward packet) = Unit {0}
IsPacket (input.Ike from octets fresh) = ⊥
IsPacket (input.Start serial entry fresh) = ⊥
IsPacket (input.Probe serial fresh) = ⊥
IsPacket (input.DeleteChild child fresh) = ⊥
IsPacket (input.DeleteIke serial fresh) = ⊥
IsPacket (input.Secret secret) = ⊥
IsPacket (input.Tick moment) = ⊥

abbrev pub GivesPacket : {C : Type 0} → Passage C → Type 0
GivesPacket {C} p = IsPacket p.given

-- the table holds after the step what it held before
abbrev pub KeepsTable : {C : Type 0} → Passage C → Type 0
KeepsTable {C} p = table_content p.after.table ≡ table_content p.before.table

-- What counts for no IKE SA and is accepted by no pair. It is a request of IKE_SA_INIT, or any other datagram
-- that counts for none, as the response to an own IKE_SA_INIT. So is an ESP packet that is accepted as no
-- number of no pair, and what comes in unprotected.
abbrev pub IsUncounted : {C : Type 0} → Meaning → State C → Input → Type 0
IsUncounted {C} meaning s (input.Ike from octets fresh) = IsInitialRequest octets ⊎ ((¬ IsInitialRequest octets) × (¬ CountsForOne meaning.plain_of s.machine.held octets))
IsUncounted {C} meaning s given = IsStrange meaning s given

-- it is such a one, or keeps the table for another reason
abbrev pub LeavesTable : {C : Type 0} → (C → Meaning) → Passage C → Type 0
LeavesTable {C} meaning_of p = IsUncounted (meaning_of p.before.caller) p.before p.given ⊎ KeepsTable p

-- ---- what is promised of a list

-- nothing is asked of a step
abbrev pub IsAny : {C : Type 0} → Passage C → Type 0
IsAny {C} p = Unit {0}

-- Of a list of inputs, as far as it is taken. Let another run begin in a gateway that holds the same, and be
-- given the same inputs, but for those that the marks of each run leave out. Each input that is left out is
-- strange, is answered by `Refused`, or changes nothing for another reason. Then what both are given is
-- answered alike, and both hold the same afterwards, as long as no input of theirs is refused for want of
-- memory. So the run after a refusal is the run without that input. Where no mark leaves anything out, this
-- says that one list has one result.
pub record HasOneResultWithout {C : Type 0} (meaning_of : C → Meaning) (inputs : List Input) (old : State C) : Type 0 where
  pub each : (count : ℕ) (outputs : List Output) (new : State C) (passages : List (Passage C)) → IsHistory meaning_of (take count inputs) outputs old new passages
      → (marks also : List Bool) (others : List (Passage C)) (other after : State C) → AreGivenAlike meaning_of IsAny also marks others passages other old after new
      → state_content old ≡ state_content other → EachLeftOut (IsWithoutEffect meaning_of) marks passages → EachLeftOut (IsWithoutEffect meaning_of) also others
      → AreAnsweredAlike also marks others passages × (state_content new ≡ state_content after)
