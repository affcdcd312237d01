-- Events at two ends as each end sees them.
use Rattle.std.specs.Prelude.{◌≡◌, ◌<◌, ◌++◌, ℕ, Bool, true, false, List, [], ◌∷◌, Some, length, slice_get, take}
use Rattle.effects.specs.Taking.{Meaning}
use Rattle.gateway.specs.Histories.{IsHistory}
use Rattle.gateway.specs.Inputs.{Event, Input}
use Rattle.gateway.specs.Inputs as input
use Rattle.gateway.specs.Outputs.{output_view}
use Rattle.gateway.specs.Promises.{KeepsPromises}
use Rattle.gateway.specs.Runs.{Runs, StepsAs}
use Rattle.gateway.specs.WorldHistories.{passages_at, Happening, IsWorldHistory}
use Rattle.gateway.specs.WorldPromises.{KeepsWorldPromises}
use Rattle.gateway.specs.Worlds.{gateway_at, if_at, Stored, TakesEvent, WorldState}
use Rattle.gateway.specs.declared.fault.RunFault.{RunFault}
use Rattle.gateway.specs.declared.fault.RunFault.TheVariants.{NoRoom}
use Rattle.gateway.specs.declared.output.Output.{Output}
use Rattle.gateway.specs.declared.world.stored.End.{End}

-- an event, with what the providers of both ends mean
abbrev pub HappensAs : {C : Type 0} → (C → Meaning) → Event → WorldState C → Output → WorldState C → Type 0
HappensAs {C} meaning_of e old o new = TakesEvent meaning_of e old (output_view o) new

-- A call with a list of events is a run over it. Calls in a row, each from where the one before ended, are
-- a run by this step, over the list of their lists.
abbrev pub CallsWorldAs : {C : Type 0} → (C → Meaning) → List Event → WorldState C → List Output → WorldState C → Type 0
CallsWorldAs {C} meaning_of events old outputs new = Runs (HappensAs meaning_of) events outputs old new

-- the inputs of one end
abbrev pub inputs_at : End → List Event → List Input
inputs_at end [] = []
inputs_at end (e ∷ es) = if_at end e.end e.input (inputs_at end es)

-- and their outputs there
abbrev pub outputs_at : End → List Event → List Output → List Output
outputs_at end [] os = []
outputs_at end (e ∷ es) [] = []
outputs_at end (e ∷ es) (o ∷ os) = if_at end e.end o (outputs_at end es os)

-- the log only grows at its end
pub record IsLater (old new : Stored) : Type 0 where
  pub more : Stored
  pub sent : new.sent ≡ old.sent ++ more.sent
  pub keyed : new.keyed ≡ old.keyed ++ more.keyed
  pub children : new.children ≡ old.children ++ more.children

-- The first so many events took place in order, and their outputs were appended. Each end had its own
-- events in order, whatever happened at the other. At that end this is a run of its gateway alone, with the
-- world's steps at that end, and keeps what is promised of a run. Both ends together keep what is promised
-- of a world. What was stored is still stored.
pub record PlaysFirst {C : Type 0} (meaning_of : C → Meaning) (count : ℕ) (events : List Event) (old : WorldState C) (before : List Output) (new : WorldState C) (after : List Output) : Type 0 where
  pub outputs : List Output
  pub appended : after ≡ before ++ outputs
  pub runs : Runs (HappensAs meaning_of) (take count events) outputs old new
  pub ends : (end : End) → Runs (StepsAs meaning_of) (inputs_at end (take count events)) (outputs_at end (take count events) outputs) (gateway_at end old) (gateway_at end new)
  pub histories : (happenings : List (Happening C)) → IsWorldHistory meaning_of (take count events) outputs old new happenings → (end : End)
      → IsHistory meaning_of (inputs_at end (take count events)) (outputs_at end (take count events) outputs) (gateway_at end old) (gateway_at end new) (passages_at end happenings)
  pub promises : (end : End) → KeepsPromises meaning_of (inputs_at end (take count events)) (outputs_at end (take count events) outputs) (gateway_at end old) (gateway_at end new)
  pub together : KeepsWorldPromises meaning_of (take count events) outputs old new
  pub stored : IsLater old.stored new.stored

-- there was no memory for one more event: the list was left before its end
abbrev pub StopsPlaying : {C : Type 0} → (C → Meaning) → List Event → WorldState C → List Output → RunFault → WorldState C → List Output → Type 0
StopsPlaying meaning_of events old before (NoRoom count) new after =
    (count < length events) × PlaysFirst meaning_of count events old before new after

-- whatever becomes of such an input, nothing is sent and no SA is made: what came in ESP or unprotected, and
-- a new secret
abbrev pub sends_nothing : Input → Bool
sends_nothing (input.Esp octets) = true
sends_nothing (input.Inward packet) = true
sends_nothing (input.Secret secret) = true
sends_nothing _ = false

-- the event before which the list was left is of another kind: something may have to be stored of it
abbrev pub StopsBeforeSending : List Event → RunFault → Type 0
StopsBeforeSending events (NoRoom count) =
    (event : Event) × (slice_get events count ≡ Some event) × (sends_nothing event.input ≡ false)
