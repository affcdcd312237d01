-- What a step may send and make, and the memory for it. Private contracts alone cite this.
use Rattle.std.specs.Prelude.{◌≡◌, ◌+◌, ◌<◌, ◌≤◌, ℕ, All, [], length, vec_len, Vec}
use Rattle.std.specs.Vec.{vec_capacity}
use Rattle.wire.specs.Numbers.{MESSAGE_LIMIT, SELECTOR_LIMIT}
use Rattle.effects.specs.Taking.{Meaning}
use Rattle.moments.specs.Due.{outstanding_count}
use Rattle.moments.specs.declared.resent.Resent.{Resent}
use Rattle.ike.specs.Machines.{Machine}
use Rattle.ike.specs.declared.output.Trace.{Trace}
use Rattle.gateway.specs.Inputs.{Input}
use Rattle.gateway.specs.Inputs as input
use Rattle.gateway.specs.Outputs.{DATAGRAM_LIMIT, OutputView}
use Rattle.gateway.specs.States.{State}
use Rattle.gateway.specs.Steps.{Traces}
use Rattle.gateway.specs.Worlds.{storing, Stored}
use Rattle.gateway.specs.declared.world.log.Log.{Log}
use Rattle.gateway.specs.declared.world.log.Spare.{Spare}
use Rattle.gateway.specs.declared.world.stored.End.{End}

-- memory for the octets of one retransmitted request
abbrev pub IsSpareMessage : {Z : Type 0} → Vec ℕ Z → Type 0
IsSpareMessage v = (v.items ≡ []) × (MESSAGE_LIMIT ≤ vec_capacity v)

-- and of so many
pub record AreSpare {Y Z : Type 0} (again : Vec (Vec ℕ Z) Y) (count : ℕ) : Type 0 where
  pub enough : count ≤ vec_len again
  pub each : All IsSpareMessage again.items

-- a retransmitted request has few enough octets
abbrev pub IsShortResent : Resent → Type 0
IsShortResent r = length r.octets ≤ MESSAGE_LIMIT

-- memory for one datagram's octets, for so many retransmitted requests, and for one Child SA's selectors
pub record IsSpare (spare : Spare) (count : ℕ) : Type 0 where
  pub octets : (spare.octets.items ≡ []) × (DATAGRAM_LIMIT ≤ vec_capacity spare.octets)
  pub again : AreSpare spare.again count
  pub local : (spare.local.items ≡ []) × (SELECTOR_LIMIT ≤ vec_capacity spare.local)
  pub remote : (spare.remote.items ≡ []) × (SELECTOR_LIMIT ≤ vec_capacity spare.remote)

-- spare capacity for so many datagrams, one key record and one Child SA
pub record HasRoom (log : Log) (count : ℕ) : Type 0 where
  pub sent : vec_len log.sent + count < vec_capacity log.sent
  pub keyed : vec_len log.keyed < vec_capacity log.keyed
  pub children : vec_len log.children < vec_capacity log.children

-- the most requests that this input may retransmit: for a `Tick` those that wait for an answer
abbrev pub again_by : Input → Machine → ℕ
again_by (input.Tick moment) machine = outstanding_count machine.held.associations
again_by _ machine = 0

-- a step of the gateway of an end, and what is stored of it
pub record TakesAt {C : Type 0} (meaning : Meaning) (end : End) (input : Input) (old : State C) (stored : Stored) (said : OutputView) (new : State C) (stored_after : Stored) : Type 0 where
  pub trace : Trace
  pub traces : Traces meaning input old said trace new
  pub stores : stored_after ≡ storing end said trace new stored
