-- The worked payload is an IPv4 packet from 10.0.0.1 to 10.1.0.1, which the policy protects and the pairs
-- cover.
use Rattle.std.proofs.Common.{None, arith, refl, inl, inr}
use Rattle.base.specs.declared.address.Address.TheVariants as address
use Rattle.base.specs.declared.address.Family.TheVariants as family
use Rattle.base.specs.declared.address.Range.TheVariants.{V4}
use Rattle.base.specs.declared.selector.Selector.{Selector}
use Rattle.esp.specs.Worked.{worked_payload}
use Rattle.policy.specs.Decisions.{source_point, target_point, Covers}
use Rattle.policy.specs.Packets.{IsFlowOf, IsFragment}
use Rattle.policy.specs.Points.{HasPorts, HoldsPoint}
use Rattle.policy.specs.declared.entry.Action.TheVariants.{Protect}
use Rattle.policy.specs.declared.flow.Flow.{Flow}
use Rattle.policy.specs.declared.policy.Direction.TheVariants.{Outward}
use Rattle.traffic.specs.Sending.{IsDecided}
use Rattle.traffic.specs.Verdicts.{IsTraffic}
use Rattle.deliveries.specs.Worked.{any_traffic}
use Rattle.laws_two_ends.specs.WorkedChildren.{all_protected}

abbrev pub worked_flow : Flow
worked_flow = record { protocol = 1; source = address.V4 167772161; target = address.V4 167837697; ports = None }

not_with_ports : ¬ HasPorts 1
not_with_ports (inl is) = absurd (omega arith)
not_with_ports (inr is) = absurd (omega arith)

whole_payload : ¬ IsFragment worked_payload
whole_payload (inl is) = absurd (omega arith)
whole_payload (inr is) = is refl

worked_flow_is : IsFlowOf worked_payload worked_flow
worked_flow_is = inl (record {
  packet = record { least = omega arith; most = omega arith; version = refl; header = omega arith; fits = omega arith; total = refl };
  whole = whole_payload;
  protocol = refl;
  source = refl;
  target = refl;
  ports = not_with_ports;
})

abbrev any_selector : Selector
any_selector = record { protocol = 0; start_port = 0; end_port = 65535; addresses = V4 0 4294967295 }

source_held : HoldsPoint any_selector (source_point worked_flow)
source_held = record {
  point = record { protocol = omega arith; address = omega arith; port = not_with_ports };
  protocol = inl refl;
  address = (omega arith, omega arith);
  port = (refl, refl);
}

target_held : HoldsPoint any_selector (target_point worked_flow)
target_held = record {
  point = record { protocol = omega arith; address = omega arith; port = not_with_ports };
  protocol = inl refl;
  address = (omega arith, omega arith);
  port = (refl, refl);
}

pub worked_covered : Covers any_traffic any_traffic worked_flow
worked_covered = (
  record { place = 0; selector = any_selector; there = refl; held = source_held },
  record { place = 0; selector = any_selector; there = refl; held = target_held },
)

pub worked_traffic : IsTraffic 4 worked_payload any_traffic any_traffic
worked_traffic = record {
  flow = worked_flow;
  packet = record { named = record { family = family.V4; named = refl; version = refl }; flow_is = worked_flow_is };
  covered = worked_covered;
}

pub worked_decided : IsDecided all_protected Outward worked_payload worked_flow Protect
worked_decided = record {
  flow_is = worked_flow_is;
  decision = inl (record {
    place = 0;
    entry = _;
    first = record { there = refl; holds = (source_held, target_held); before = λ k other less there. absurd (omega (arith, less)) };
    decides = refl;
  });
}
