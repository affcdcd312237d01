-- What is done with a flow on its way out (RFC 4301 section 5.1).
use Rattle.std.specs.Prelude.{ℕ, List}
use Rattle.policy.specs.Decisions.{IsDecision}
use Rattle.policy.specs.declared.entry.Action.{Action}
use Rattle.policy.specs.declared.entry.Action.TheVariants as action
use Rattle.policy.specs.declared.entry.Entry.{Entry}
use Rattle.policy.specs.declared.flow.Flow.{Flow}
use Rattle.policy.specs.declared.policy.Direction.TheVariants.{Outward}
use Rattle.sadb.specs.Database.{Carries, IsLive, IsOutbound, PairMap}
use Rattle.flows.specs.declared.treatment.Treatment.{Treatment}
use Rattle.flows.specs.declared.treatment.Treatment.TheVariants.{Carried, Uncarried, Bypassed, Discarded}

-- the policy's part of it
abbrev pub action_of : Treatment → Action
action_of (Carried serial) = action.Protect
action_of Uncarried = action.Protect
action_of Bypassed = action.Bypass
action_of Discarded = action.Discard

-- the pairs' part: which one carries the flow, if it is to be protected
abbrev pub IsCarriedSo : PairMap → Flow → Treatment → Type 0
IsCarriedSo pairs flow (Carried serial) = IsOutbound pairs flow serial
IsCarriedSo pairs flow Uncarried = (serial : ℕ) → ¬ Carries pairs flow serial
IsCarriedSo pairs flow Bypassed = Unit {0}
IsCarriedSo pairs flow Discarded = Unit {0}

-- what the policy decides about the flow, and which pair carries it
pub record IsTreatment (policy : List Entry) (pairs : PairMap) (flow : Flow) (treatment : Treatment) : Type 0 where
  pub decision : IsDecision policy flow Outward (action_of treatment)
  pub carried : IsCarriedSo pairs flow treatment

-- the pair that it names, if it names one, is Live
abbrev pub Counts : PairMap → Treatment → Type 0
Counts pairs (Carried serial) = IsLive pairs serial
Counts pairs Uncarried = Unit {0}
Counts pairs Bypassed = Unit {0}
Counts pairs Discarded = Unit {0}
