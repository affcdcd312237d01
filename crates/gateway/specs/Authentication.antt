-- Whose peer proved itself, over a run (RFC 7296 section 2.15).
use Rattle.std.specs.Prelude.{◌≡◌, ◌≤◌, ◌⊎◌, ℕ, Some, List, slice_get}
use Rattle.suite.specs.declared.key_record.KeyRecord.{KeyRecord}
use Rattle.association.specs.Phases.{keys_in}
use Rattle.association.specs.declared.phase.Association.{Association}
use Rattle.association.specs.declared.phase.Phase.TheVariants.{Established}
use Rattle.effects.specs.Taking.{Meaning}
use Rattle.ike.specs.Proving.{ProvedBy}
use Rattle.ike.specs.Steps.{InputView}
use Rattle.gateway.specs.Histories.{Passage}
use Rattle.gateway.specs.Requests.{for_ike}
use Rattle.gateway.specs.States.{association_in, State}

-- the IKE SA with this serial is held, and established under these keys
pub record IsEstablishedWith {C : Type 0} (s : State C) (serial : ℕ) (keys : KeyRecord) : Type 0 where
  pub association : Association
  pub there : association_in s serial ≡ Some association
  pub established : association.phase ≡ Established keys

-- With the step at this place the peer of the IKE SA with this serial proves itself as the
-- configured one, under these keys: the input is a datagram that opens under them, which the IKE SA had
-- before, and the caller's check accepts what it opens to.
pub record ProvesItselfAt {C : Type 0} (meaning_of : C → Meaning) (passages : List (Passage C)) (place serial : ℕ) (keys : KeyRecord) : Type 0 where
  pub passage : Passage C
  pub there : slice_get passages place ≡ Some passage
  pub view : InputView
  pub given : for_ike passage.given ≡ Some view
  pub was : Association
  pub stood : association_in passage.before serial ≡ Some was
  pub under : keys_in was.phase ≡ Some keys
  pub proved : ProvedBy (meaning_of passage.before.caller) passage.before.entries view passage.before.machine was

-- by this place it did
pub record ProvedItselfUpTo {C : Type 0} (meaning_of : C → Meaning) (passages : List (Passage C)) (place serial : ℕ) (keys : KeyRecord) : Type 0 where
  pub by : ℕ
  pub before : by ≤ place
  pub proves : ProvesItselfAt meaning_of passages by serial keys

-- it was established before the first of these steps
pub record WasEstablished {C : Type 0} (passages : List (Passage C)) (serial : ℕ) (keys : KeyRecord) : Type 0 where
  pub first : Passage C
  pub there : slice_get passages 0 ≡ Some first
  pub established : IsEstablishedWith first.before serial keys

-- Who is established under keys after a step was so before the first one, or proved itself under them with
-- this step or an earlier one.
pub record OnlyTheProvedAreEstablished {C : Type 0} (meaning_of : C → Meaning) (passages : List (Passage C)) : Type 0 where
  pub each : (place serial : ℕ) (keys : KeyRecord) (p : Passage C) → slice_get passages place ≡ Some p → IsEstablishedWith p.after serial keys
      → WasEstablished passages serial keys ⊎ ProvedItselfUpTo meaning_of passages place serial keys
