-- How many requests an end may have outstanding: at most as many as the other end is configured to take at
-- once (RFC 7296 section 2.3).
use Rattle.std.specs.Prelude.{◌⊎◌, ◌≤◌, ℕ, Bool, List}
use Rattle.base.specs.Octets.{Octets}
use Rattle.wire.specs.declared.payload.Payload.{Payload}
use Rattle.suite.specs.declared.key_record.KeyRecord.{KeyRecord}
use Rattle.suite.specs.declared.keys.Keys.{Keys}
use Rattle.auth.specs.Windows.{peer_window}
use Rattle.association.specs.Receiving.{Opening}
use Rattle.association.specs.declared.phase.Association.{Association}
use Rattle.ike.specs.Payloads.{OpensToPayloads, SealsPayloads}
use Rattle.gateway.specs.WorldParties.{HasSent, HoldsUnder}
use Rattle.gateway.specs.Worlds.{gateway_at, other_end, Stored, WorldState}
use Rattle.gateway.specs.declared.world.stored.End.{End}

-- the window that an end is configured with
abbrev pub window_at : {C : Type 0} → End → WorldState C → ℕ
window_at {C} end w = (gateway_at end w).machine.config.window

-- the octets seal payloads as a message under these keys, and announce no wider window than this
pub record TellsWindow (body_of : Keys → Octets → Octets → Octets → Octets) (keys : KeyRecord) (response : Bool) (number window : ℕ) (octets : Octets) : Type 0 where
  pub exchange : ℕ
  pub payloads : List Payload
  pub sealed : SealsPayloads body_of keys exchange response number payloads octets
  pub tells : peer_window payloads ≤ window

-- the other end sent a message under these keys which opens to payloads that announce a window at least as
-- wide as this
pub record WasToldWindow (plain_of : Opening) (keys : KeyRecord) (end : End) (window : ℕ) (stored : Stored) : Type 0 where
  pub response : Bool
  pub number : ℕ
  pub octets : Octets
  pub sent : HasSent (other_end end) keys response number octets stored
  pub exchange : ℕ
  pub payloads : List Payload
  pub opened : OpensToPayloads plain_of keys exchange response number payloads octets
  pub within : window ≤ peer_window payloads

-- The invariant of the windows under a key record. Each end is configured with a window of at least one,
-- and announced no wider one. What an end counts for the other is one, or what the other announced.
-- `stored` is what is stored of this world, or of a later one.
pub record AccountsForWindows {C : Type 0} (body_of : Keys → Octets → Octets → Octets → Octets) (plain_of : Opening) (keys : KeyRecord) (w : WorldState C) (stored : Stored) : Type 0 where
  pub least : (end : End) → 1 ≤ window_at end w
  pub tells : (end : End) (response : Bool) (number : ℕ) (octets : Octets) → HasSent end keys response number octets w.stored → TellsWindow body_of keys response number (window_at end w) octets
  pub counts : (end : End) (a : Association) → HoldsUnder keys end w a → (a.outgoing.window ≤ 1) ⊎ WasToldWindow plain_of keys end a.outgoing.window stored

-- no IKE SA counts a wider window for the other end than that is configured with
abbrev pub WindowsFit : {C : Type 0} → KeyRecord → WorldState C → Type 0
WindowsFit {C} keys w = (end : End) (a : Association) → HoldsUnder keys end w a → a.outgoing.window ≤ window_at (other_end end) w
