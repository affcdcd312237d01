-- What the policy does with a flow (RFC 4301 sections 4.4.1 and 5).
use Rattle.std.specs.Prelude.{◌≡◌, ◌⊎◌, ℕ, List}
use Rattle.std.specs.Option.{option_map}
use Rattle.base.specs.Lists.{HoldsOfNone, IsFirst}
use Rattle.base.specs.declared.selector.Selector.{Selector}
use Rattle.policy.specs.declared.point.Point.{Point}
use Rattle.policy.specs.declared.flow.Flow.{Flow}
use Rattle.policy.specs.declared.entry.Entry.{Entry}
use Rattle.policy.specs.declared.entry.Action.{Action}
use Rattle.policy.specs.declared.entry.Action.TheVariants.{Discard}
use Rattle.policy.specs.declared.policy.Direction.{Direction}
use Rattle.policy.specs.declared.policy.Direction.TheVariants.{Outward, Inward}
use Rattle.policy.specs.Points.{HoldsPoint, HoldsAny}

-- the two points of a flow
abbrev pub source_point : Flow → Point
source_point f = record {
  protocol = f.protocol;
  address = f.source;
  port = option_map (λ ports. ports.source) f.ports;
}

abbrev pub target_point : Flow → Point
target_point f = record {
  protocol = f.protocol;
  address = f.target;
  port = option_map (λ ports. ports.target) f.ports;
}

-- the two sides of an entry, each a selector with the entry's protocol
abbrev pub local_side : Entry → Selector
local_side e = record {
  protocol = e.protocol;
  start_port = e.local_ports.0;
  end_port = e.local_ports.1;
  addresses = e.local;
}

abbrev pub remote_side : Entry → Selector
remote_side e = record {
  protocol = e.protocol;
  start_port = e.remote_ports.0;
  end_port = e.remote_ports.1;
  addresses = e.remote;
}

-- an entry holds both points of a flow; outward the source is on the local side, inward on the remote one
abbrev pub HoldsFlow : Direction → Flow → Entry → Type 0
HoldsFlow Outward f e =
    HoldsPoint (local_side e) (source_point f) × HoldsPoint (remote_side e) (target_point f)
HoldsFlow Inward f e =
    HoldsPoint (remote_side e) (source_point f) × HoldsPoint (local_side e) (target_point f)

-- the first entry that holds the flow decides
pub record IsDecidedByEntry (entries : List Entry) (f : Flow) (d : Direction) (action : Action) : Type 0 where
  pub place : ℕ
  pub entry : Entry
  pub first : IsFirst (HoldsFlow d f) entries place entry
  pub decides : action ≡ entry.action

-- the action for a flow; where no entry holds it, it is discarded
abbrev pub IsDecision : List Entry → Flow → Direction → Action → Type 0
IsDecision entries f d action =
    IsDecidedByEntry entries f d action ⊎ (HoldsOfNone (HoldsFlow d f) entries × (action ≡ Discard))

-- selectors cover a flow: the sources hold its source, the targets its target
abbrev pub Covers : List Selector → List Selector → Flow → Type 0
Covers sources targets f = HoldsAny sources (source_point f) × HoldsAny targets (target_point f)
