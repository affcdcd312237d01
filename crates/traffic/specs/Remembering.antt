-- What becomes of a memory of flows by a packet on its way out.
use Rattle.std.specs.Prelude.{◌≡◌, ◌<◌, ℕ, List, Option, length}
use Rattle.flows.specs.declared.memory.Answer.{Answer}
use Rattle.flows.specs.Memory.{HoldsTreatmentOf, StaysBut}
use Rattle.policy.specs.Packets.{IsFlowOf, IsInnerRefusal}
use Rattle.policy.specs.declared.entry.Entry.{Entry}
use Rattle.policy.specs.declared.fault.InnerFault.{InnerFault}
use Rattle.policy.specs.declared.flow.Flow.{Flow}
use Rattle.sadb.specs.Database.{PairMap}

pub record RemembersItsFlow (policy : List Entry) (pairs : PairMap) (packet : List ℕ) (old new : List (Option Answer)) : Type 0 where
  -- where the packet can't be read, nothing is remembered or forgotten
  pub unread : (fault : InnerFault) → IsInnerRefusal packet fault → new ≡ old
  -- where there are places, the flow is remembered, where it is looked for
  pub held : (flow : Flow) → IsFlowOf packet flow → 0 < length new → HoldsTreatmentOf policy pairs new flow
  -- and where there were places, all but its own hold what they held
  pub others : (flow : Flow) → IsFlowOf packet flow → StaysBut flow old new
  -- places that were made stay
  pub kept : 0 < length old → 0 < length new
