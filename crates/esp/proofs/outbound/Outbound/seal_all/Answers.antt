use Rattle.std.proofs.Common.{◌≡◌, ◌∙◌, ◌+◌, ◌-◌, ◌*◌, ◌<◌, ◌≤◌, ap, subst, ℕ, List, length, vec_len, take, drop, min, arith, length-drop}
use Rattle.std.proofs.lemmas.List.{length-map, length-take-le}
use Rattle.std.specs.Vec.{vec_capacity}
use Rattle.esp.specs.Sealing.{SealsFirst, payloads_of, most_octets}
use Rattle.esp.specs.declared.fault.EspFault.TheVariants.{Memory}
use Rattle.esp.proofs.LayingLemmas.{seals_more, drop-payloads, take-payloads}
use Rattle.esp.proofs.GroupLemmas.{if_some, if_none, stops, room_after, room_left}
use Rattle.esp.proofs.outbound.Outbound.seal_all.Goals as goal

pub returns-in-Some-clause-stopped : goal.returns-in-Some-clause-stopped
returns-in-Some-clause-stopped c =
    let i = c.loop-group.invariant in
    let payloads = c.args.payloads.now in
    let ps = payloads_of payloads in
    let g = 64 * c.loop-group.group in
    let size = g + c.min.result - g in
    let done : min g (length payloads) ≡ g = omega arith in
    let all : length ps ≡ length payloads = length-map payloads (λ p. p.now) in
    let first : SealsFirst g c.args.self.now c.args.next ps c.args.out.now.items c.loop-group.self c.loop-group.out.items =
    subst (λ (k : ℕ). SealsFirst k c.args.self.now c.args.next ps c.args.out.now.items c.loop-group.self c.loop-group.out.items) done i.first
    in
    let part : payloads_of (take size (drop g payloads)) ≡ take size (drop g ps) = take-payloads (drop g payloads) size ∙ ap (λ (xs : List (List ℕ)). take size xs) (drop-payloads payloads g) in
    let ended = c.seal_group-progress.ensures.ended in
    let progress = c.seal_group-progress.result in
    stops g size progress.done c.args.self.now c.args.next ps (payloads_of (take size (drop g payloads))) c.args.out.now.items c.loop-group.out.items c.seal_group-progress.new.out.items
    c.loop-group.self c.seal_group-progress.new.self c.in-Some.fault first (omega arith) part c.seal_group-progress.ensures.first
    (if_some progress.refusal c.in-Some.fault _ c.in-Some.is ended.some_left) (if_some progress.refusal c.in-Some.fault _ c.in-Some.is ended.refused)

pub returns-in-Some-clause-room : goal.returns-in-Some-clause-room
returns-in-Some-clause-room c = λ m enough is.
    let i = c.loop-group.invariant in
    let payloads = c.args.payloads.now in
    let ps = payloads_of payloads in
    let g = 64 * c.loop-group.group in
    let size = g + c.min.result - g in
    let progress = c.seal_group-progress.result in
    let qs = payloads_of (take size (drop g payloads)) in
    let done : min g (length payloads) ≡ g = omega arith in
    let all : length ps ≡ length payloads = length-map payloads (λ p. p.now) in
    let part : qs ≡ take size (drop g ps) = take-payloads (drop g payloads) size ∙ ap (λ (xs : List (List ℕ)). take size xs) (drop-payloads payloads g) in
    let long : length qs ≡ size = length-map (take size (drop g payloads)) (λ p. p.now) ∙ length-take-le size (drop g payloads) (omega (arith, length-drop g payloads)) in
    let left : most_octets (drop (min g (length payloads)) ps) ≡ most_octets (drop g ps) = ap (λ (k : ℕ). most_octets (drop k ps)) done in
    let within : progress.done < length qs = if_some progress.refusal c.in-Some.fault (λ fault. progress.done < length qs) c.in-Some.is c.seal_group-progress.ensures.ended.some_left in
    let short = if_some progress.refusal c.in-Some.fault (λ fault. fault ≡ Memory → vec_capacity c.loop-group.out < vec_len c.loop-group.out + most_octets (take (progress.done + 1) qs)) c.in-Some.is c.seal_group-progress.ensures.room.memory in
    room_left g size progress.done m ps qs (vec_len c.args.out.now) (vec_capacity c.args.out.now) (vec_len c.loop-group.out) (vec_capacity c.loop-group.out)
    part (omega arith) (omega arith) i.capacity (omega (arith, i.room, left)) (short is) enough

pub loop-group-preserved : goal.loop-group-preserved
loop-group-preserved c =
    let i = c.loop-group.invariant in
    let payloads = c.args.payloads.now in
    let ps = payloads_of payloads in
    let g = 64 * c.loop-group.group in
    let size = g + c.min.result - g in
    let n = length payloads in
    let k = c.seal_group-progress.result.done in
    let qs = payloads_of (take size (drop g payloads)) in
    let done : min g n ≡ g = omega arith in
    let after : g + size ≡ min (64 * (c.loop-group.group + 1)) n = omega arith in
    let all : length ps ≡ n = length-map payloads (λ p. p.now) in
    let first : SealsFirst g c.args.self.now c.args.next ps c.args.out.now.items c.loop-group.self c.loop-group.out.items =
    subst (λ (m : ℕ). SealsFirst m c.args.self.now c.args.next ps c.args.out.now.items c.loop-group.self c.loop-group.out.items) done i.first
    in
    let part : qs ≡ take size (drop g ps) = take-payloads (drop g payloads) size ∙ ap (λ (xs : List (List ℕ)). take size xs) (drop-payloads payloads g) in
    let long : length (take size (drop g payloads)) ≡ size = length-take-le size (drop g payloads) (omega (arith, length-drop g payloads)) in
    let whole : k ≡ length (take size (drop g payloads)) = if_none c.seal_group-progress.result.refusal (k ≡ length qs) c.in_default.is c.seal_group-progress.ensures.ended.all ∙ length-map (take size (drop g payloads)) (λ p. p.now) in
    let second : SealsFirst k c.loop-group.self c.args.next (take size (drop g ps)) c.loop-group.out.items c.seal_group-progress.new.self c.seal_group-progress.new.out.items =
    subst (λ (xs : List (List ℕ)). SealsFirst k c.loop-group.self c.args.next xs c.loop-group.out.items c.seal_group-progress.new.self c.seal_group-progress.new.out.items) part c.seal_group-progress.ensures.first
    in
    let count : g + k ≡ min (64 * (c.loop-group.group + 1)) n = ap (λ (m : ℕ). g + m) (whole ∙ long) ∙ after in
    let left : most_octets (drop (min g n) ps) ≡ most_octets (drop g ps) = ap (λ (m : ℕ). most_octets (drop m ps)) done in
    record {
      first = subst (λ (m : ℕ). SealsFirst m c.args.self.now c.args.next ps c.args.out.now.items c.seal_group-progress.new.self c.seal_group-progress.new.out.items) count
          (seals_more g size k c.args.self.now c.args.next ps c.args.out.now.items c.loop-group.out.items c.seal_group-progress.new.out.items c.loop-group.self c.seal_group-progress.new.self first (omega arith) second);
      capacity = omega (arith, i.capacity, c.seal_group-progress.ensures.room.kept);
      room = subst (λ (m : ℕ). vec_len c.seal_group-progress.new.out + most_octets (drop m ps) ≤ vec_len c.args.out.now + most_octets ps) after
          (room_after g size k (vec_len c.loop-group.out) (vec_len c.seal_group-progress.new.out) (vec_len c.args.out.now + most_octets ps) ps qs part
          (omega (arith, whole, length-map (take size (drop g payloads)) (λ p. p.now))) c.seal_group-progress.ensures.room.growth (omega (arith, i.room, left)));
    }
