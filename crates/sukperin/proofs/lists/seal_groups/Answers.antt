use Rattle.std.proofs.Common.{◌≡◌, ◌+◌, ◌-◌, ◌*◌, ◌≤◌, ℕ, List, [], length, take, drop, min, arith, refl, sym, subst}
use Rattle.std.proofs.lemmas.List.{take_all}
use borrow.Rule.Slice.PartMut.{put_mid}
use Rattle.gateway.specs.Runs.{Runs}
use Rattle.sukperin.specs.Lists.{RunsOver, Sent, TakesOutAt}
use Rattle.sukperin.specs.declared.lists.SukPlace.{SukPlace}
use Rattle.sukperin.proofs.ListLemmas.{group_over}
use Rattle.sukperin.proofs.SealLemmas.{all_out, behind_both, none_out}
use Rattle.sukperin.proofs.lists.seal_groups.Goals as goal

pub loop-group-init : goal.loop-group-init
loop-group-init c =
    let places = c.args.places.now in
    let step = TakesOutAt c.args.octets.now (length c.args.room.now) in
    let begin : Sent = record { gateway = c.args.gateway.now; octets = [] } in
    let none : min 0 (length places) ≡ 0 = omega arith in
    record {
      runs = subst (λ (n : ℕ). RunsOver step (take n places) begin c.args.outs.now begin c.args.outs.now) (sym none) (none_out c.args.octets.now c.args.room.now places c.args.gateway.now c.args.outs.now);
      fits = omega arith;
      behind = refl;
    }

pub loop-group-preserved : goal.loop-group-preserved
loop-group-preserved c =
    let i = c.loop-group.invariant in
    let places = c.args.places.now in
    let step = TakesOutAt c.args.octets.now (length c.args.room.now) in
    let at = 64 * c.loop-group.group in
    let size = at + c.min-count.result - at in
    let done : min at (length places) ≡ at = omega arith in
    let after : at + size ≡ min (64 * (c.loop-group.group + 1)) (length places) = omega arith in
    let within : at + size ≤ length places = omega arith in
    let none : Sent = record { gateway = c.args.gateway.now; octets = [] } in
    let mid : Sent = record { gateway = c.loop-group.gateway; octets = take c.loop-group.used c.loop-group.room } in
    let new : Sent = record { gateway = c.seal_group-used.new.gateway; octets = take c.seal_group-used.result c.seal_group-used.new.room } in
    let first : RunsOver step (take at places) none c.args.outs.now mid c.loop-group.outs =
    subst (λ (n : ℕ). RunsOver step (take n places) none c.args.outs.now mid c.loop-group.outs) done i.runs
    in
    let group = c.seal_group-used.ensures in
    let same = c.loop-group.auto.room in
    let second : Runs step (take size (drop at places)) c.seal_group-used.new.outs mid new =
    subst (λ (n : ℕ). Runs (TakesOutAt c.args.octets.now n) (take size (drop at places)) c.seal_group-used.new.outs mid new) same group.runs
    in
    let more = group_over step places none mid new c.args.outs.now c.loop-group.outs c.seal_group-used.new.outs at size within first second in
    let kept = c.seal_group-used.auto.room in
    let fits = group.fits in
    record {
      runs = subst (λ (n : ℕ). RunsOver step (take n places) none c.args.outs.now new (put_mid at size c.loop-group.outs c.seal_group-used.new.outs)) after more;
      fits = omega arith;
      behind = behind_both c.args.room.now c.loop-group.room c.seal_group-used.new.room c.loop-group.used c.seal_group-used.result group.begins i.behind group.behind;
    }

pub returns : goal.returns
returns c =
    let i = c.loop-group.invariant in
    let places = c.args.places.now in
    let step = TakesOutAt c.args.octets.now (length c.args.room.now) in
    let none : Sent = record { gateway = c.args.gateway.now; octets = [] } in
    let new : Sent = record { gateway = c.loop-group.gateway; octets = take c.loop-group.used c.loop-group.room } in
    let all : min (64 * c.loop-group.group) (length places) ≡ length places = omega arith in
    let whole : take (min (64 * c.loop-group.group) (length places)) places ≡ places = take_all (min (64 * c.loop-group.group) (length places)) places (omega arith) in
    let same = c.loop-group.auto.room in
    let fits = i.fits in
    all_out c.args.octets.now places c.args.gateway.now c.loop-group.gateway c.args.outs.now c.loop-group.outs c.args.room.now c.loop-group.room c.loop-group.used
    (subst (λ (ps : List SukPlace). RunsOver step ps none c.args.outs.now new c.loop-group.outs) whole i.runs) (omega arith) same i.behind
