use Rattle.std.proofs.Common.{◌≡◌, ◌+◌, ◌-◌, ◌*◌, ◌≤◌, ℕ, List, length, take, min, arith, sym, subst}
use Rattle.std.proofs.lemmas.List.{take_all}
use borrow.Rule.Slice.PartMut.{put_mid}
use Rattle.sukperin.specs.Lists.{RunsOver, TakesEspAt}
use Rattle.sukperin.specs.declared.lists.SukPlace.{SukPlace}
use Rattle.sukperin.proofs.ListLemmas.{group_over, none_over}
use Rattle.sukperin.proofs.lists.open_groups.Goals as goal

pub loop-group-init : goal.loop-group-init
loop-group-init c =
    let places = c.args.places.now in
    let step = TakesEspAt c.args.octets.now in
    let none : min 0 (length places) ≡ 0 = omega arith in
    subst (λ (n : ℕ). RunsOver step (take n places) c.args.gateway.now c.args.outs.now c.args.gateway.now c.args.outs.now) (sym none) (none_over step places c.args.gateway.now c.args.outs.now)

pub loop-group-preserved : goal.loop-group-preserved
loop-group-preserved c =
    let places = c.args.places.now in
    let step = TakesEspAt c.args.octets.now in
    let at = 64 * c.loop-group.group in
    let size = at + c.min-count.result - at in
    let done : min at (length places) ≡ at = omega arith in
    let after : at + size ≡ min (64 * (c.loop-group.group + 1)) (length places) = omega arith in
    let within : at + size ≤ length places = omega arith in
    let first : RunsOver step (take at places) c.args.gateway.now c.args.outs.now c.loop-group.gateway c.loop-group.outs =
    subst (λ (n : ℕ). RunsOver step (take n places) c.args.gateway.now c.args.outs.now c.loop-group.gateway c.loop-group.outs) done c.loop-group.invariant
    in
    let more = group_over step places c.args.gateway.now c.loop-group.gateway c.open_next.new.gateway c.args.outs.now c.loop-group.outs c.open_next.new.outs at size within first c.open_next.ensures in
    subst (λ (n : ℕ). RunsOver step (take n places) c.args.gateway.now c.args.outs.now c.open_next.new.gateway (put_mid at size c.loop-group.outs c.open_next.new.outs)) after more

pub returns : goal.returns
returns c =
    let places = c.args.places.now in
    let step = TakesEspAt c.args.octets.now in
    let all : min (64 * c.loop-group.group) (length places) ≡ length places = omega arith in
    let whole : take (min (64 * c.loop-group.group) (length places)) places ≡ places = take_all (min (64 * c.loop-group.group) (length places)) places (omega arith) in
    subst (λ (ps : List SukPlace). RunsOver step ps c.args.gateway.now c.args.outs.now c.loop-group.gateway c.loop-group.outs) whole c.loop-group.invariant
