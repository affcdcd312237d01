-- What holds of every gateway: of a new one, since that has no IKE SA, and after each step of one of which it
-- held.
use Rattle.std.specs.Prelude.{◌≡◌, ◌≢◌, ℕ, false, Some}
use Rattle.std.specs.FinMap as map
use Rattle.base.specs.Octets.{Octets}
use Rattle.suite.specs.declared.key_record.KeyRecord.{KeyRecord}
use Rattle.exchange.specs.declared.headers.Role.TheVariants.{Responder}
use Rattle.requests.specs.Incoming.{IsLeftBehind}
use Rattle.requests.specs.Numbers.{HasNumber}
use Rattle.association.specs.Phases.{keys_in, IsEstablished}
use Rattle.association.specs.declared.phase.Association.{Association}
use Rattle.effects.specs.Taking.{Meaning}
use Rattle.effects.specs.Requests.{is_concluded}
use Rattle.ike.specs.Machines.{association_of, Held, Machine}
use Rattle.ike.specs.declared.output.Trace.{Trace}
use Rattle.gateway.specs.Carrying.{EachPairIsOfAnEstablished}
use Rattle.gateway.specs.Inputs.{Input}
use Rattle.gateway.specs.Inside.{LiesInside}
use Rattle.gateway.specs.Outputs.{output_view}
use Rattle.gateway.specs.States.{IsSoundState, State}
use Rattle.gateway.specs.Steps.{Traces}
use Rattle.gateway.specs.declared.output.Output.{Output}

-- octets are kept as the response to the peer's request of this Message ID; which they are is said where the
-- request takes effect
pub record HasReply (a : Association) (number : ℕ) : Type 0 where
  pub reply : Octets
  pub kept : map.get a.incoming.kept number ≡ Some reply

-- Of each IKE SA with keys the response to each request that was processed is kept, until a later request
-- leaves it behind. By that one the peer says that it had the response (RFC 7296 section 2.3). That to IKE_SA_INIT, Message ID 0 at the responder, is kept elsewhere, and only until IKE_AUTH.
pub record RepliesAreKept (held : Held) : Type 0 where
  pub each : (serial : ℕ) (a : Association) (keys : KeyRecord) (number : ℕ) → association_of serial held.associations ≡ Some a → keys_in a.phase ≡ Some keys
      → HasNumber a.incoming.in_effect number → ¬ IsLeftBehind a.incoming number → (a.role ≡ Responder → number ≢ 0) → HasReply a number

-- Of each established IKE SA the peer may have as many requests under way as the configuration says, and
-- one until IKE_AUTH is done (RFC 7296 section 2.3).
pub record WindowsAreConfigured (machine : Machine) : Type 0 where
  pub established : (serial : ℕ) (a : Association) → association_of serial machine.held.associations ≡ Some a → IsEstablished a.phase → a.incoming.size ≡ machine.config.window
  pub not_yet : (serial : ℕ) (a : Association) → association_of serial machine.held.associations ≡ Some a → is_concluded a.phase ≡ false → a.incoming.size ≡ 1

-- what holds of every gateway beside the invariants of its parts
pub record HasWhatStays {C : Type 0} (s : State C) : Type 0 where
  pub standing : EachPairIsOfAnEstablished s
  pub inside : LiesInside s
  pub replies : RepliesAreKept s.machine.held
  pub windows : WindowsAreConfigured s.machine

-- for any type of provider
module _ (C : Type 0) where
  abbrev pub WhatEveryGatewayHasStays : Type 0
  WhatEveryGatewayHasStays = (meaning_of : C → Meaning) (given : Input) (said : Output) (trace : Trace)
      (old new : State C)
      → IsSoundState old
      → Traces (meaning_of old.caller) given old (output_view said) trace new
      → HasWhatStays old
      → HasWhatStays new
