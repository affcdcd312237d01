use Rattle.std.proofs.Common.{rules, ◌≡◌, ℕ, ◌≤◌, List, [], length, get_or, sym, ap, ◌∙◌, subst, arith}
use Rattle.std.proofs.lemmas.List.{get_or-map, length-map, length-set}
use Rattle.esp.specs.declared.ahead.Asked.{Asked}
use Rattle.esp.specs.Ahead.{HasFreshNumber, IsAsked}
use Rattle.esp.specs.Opening.{IsFreshNumber}
use Rattle.esp.specs.Delivery.{octets_of}
use Rattle.esp.proofs.AheadLemmas.{found_more}
use Rattle.esp.proofs.inbound.Inbound.fresh_packets.Goals as goal
use Rattle.esp.proofs.inbound.Inbound.fresh_packets.Goals.{in-Ok, in_default}

pub loop-place-preserved : goal.loop-place-preserved
loop-place-preserved g c =
    let i = c.loop-place.invariant in
    let packets = c.args.packets.now in
    let place = c.loop-place.place in
    elim c.match-fresh_number.branch [
      | in-Ok w ↦
          let packet = get_or packets place (record { ref_ptr = (0, 0); now = [] }) in
          let here : get_or (octets_of packets) place [] ≡ packet.now =
          get_or-map (λ p. p.now) packets place (record { ref_ptr = (0, 0); now = [] }) [] c.loop-place-test.true
          in
          let long : 16 ≤ length packet.now = let whole = w.in-Ok.ensures.fresh.whole.least in omega arith in
          let one : Asked = record { place = place; number = w.in-Ok.number; half = w.high_half.result } in
          let asked : IsAsked (octets_of packets) one = record {
            within = omega (arith, c.loop-place-test.true, length-map packets (λ p. p.now));
            long = subst (λ (b : List ℕ). 16 ≤ length b) (sym here) long;
            half = w.high_half.ensures;
          } in
          record {
            asked = found_more (IsAsked (octets_of packets)) c.loop-place.asked c.match-fresh_number.asked c.loop-place.count c.match-fresh_number.count one w.asked-is w.count-is (omega arith) i.asked asked;
            fresh = found_more (HasFreshNumber c.args.self.now (octets_of packets)) c.loop-place.asked c.match-fresh_number.asked c.loop-place.count c.match-fresh_number.count one w.asked-is w.count-is (omega arith) i.fresh
                (subst (λ (b : List ℕ). IsFreshNumber c.args.self.now b w.in-Ok.number) (sym here) w.in-Ok.ensures.fresh);
            few = omega arith;
            long = ap length w.asked-is ∙ length-set c.loop-place.asked c.loop-place.count one ∙ i.long;
          }
      | in_default w ↦ search rules
    ]
