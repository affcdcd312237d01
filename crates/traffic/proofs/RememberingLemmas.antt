-- What becomes of a memory of flows by a packet.
use Rattle.std.proofs.Common.{◌≡◌, ◌≢◌, ◌<◌, ℕ, List, Option, Some, length, refl, subst}
use Rattle.flows.specs.declared.memory.Answer.{Answer}
use Rattle.flows.specs.declared.treatment.Treatment.{Treatment}
use Rattle.flows.specs.Memory.{HoldsTreatmentOf, IsInPlace, StaysBut}
use Rattle.flows.specs.Treatments.{IsTreatment}
use Rattle.policy.specs.Packets.{IsFlowOf, IsInnerRefusal}
use Rattle.policy.specs.declared.entry.Entry.{Entry}
use Rattle.policy.specs.declared.fault.InnerFault.{InnerFault}
use Rattle.policy.specs.declared.flow.Flow.{Flow}
use Rattle.sadb.specs.Database.{PairMap}
use Rattle.traffic.specs.Remembering.{RemembersItsFlow}

-- a packet has one flow
abbrev HasOneFlow : Type 0
HasOneFlow = (packet : List ℕ) (one other : Flow) → IsFlowOf packet one → IsFlowOf packet other → one ≡ other

-- and no refusal beside it
abbrev HasNoRefusal : Type 0
HasNoRefusal = (packet : List ℕ) (flow : Flow) (fault : InnerFault) → IsFlowOf packet flow → ¬ IsInnerRefusal packet fault

pub remembers_one : (policy : List Entry) (pairs : PairMap) (packet : List ℕ) (flow : Flow) (treatment : Treatment) (old new : List (Option Answer)) → HasOneFlow → HasNoRefusal
    → IsFlowOf packet flow → IsTreatment policy pairs flow treatment → (0 < length new → IsInPlace new (record { flow = flow; treatment = treatment }))
    → (0 < length old → 0 < length new) → StaysBut flow old new → RemembersItsFlow policy pairs packet old new
remembers_one policy pairs packet flow treatment old new one apart flow_is is held kept others =
    record {
      unread = λ fault refused. absurd (apart packet flow fault flow_is refused);
      held = λ other other_is some. subst (λ (f : Flow). HoldsTreatmentOf policy pairs new f) (one packet flow other flow_is other_is)
          (record { treatment = treatment; found = is; held = held some });
      others = λ other other_is. subst (λ (f : Flow). StaysBut f old new) (one packet flow other flow_is other_is) others;
      kept = kept;
    }

pub remembers_none : (policy : List Entry) (pairs : PairMap) (packet : List ℕ) (fault : InnerFault) (memory : List (Option Answer)) → HasNoRefusal → IsInnerRefusal packet fault
    → RemembersItsFlow policy pairs packet memory memory
remembers_none policy pairs packet fault memory apart refused =
    record {
      unread = λ _ _. refl;
      held = λ flow flow_is some. absurd (apart packet flow fault flow_is refused);
      others = λ flow flow_is some other different. refl;
      kept = λ some. some;
    }
