use Rattle.std.proofs.Common.{◌≡◌, ◌<◌, List, length, take, get_or, arith, subst}
use Rattle.std.proofs.lemmas.List.{get_or_default, take_all}
use Rattle.gateway.specs.Runs.{Runs}
use Rattle.sukperin.specs.Lists.{TakesEspAt}
use Rattle.sukperin.specs.declared.lists.SukPlace.{SukPlace}
use Rattle.sukperin.specs.declared.output.SukOutput.{SukOutput}
use Rattle.sukperin.proofs.ListLemmas.{run_next, value_at_place}
use Rattle.sukperin.proofs.lists.open_each.Goals as goal

pub open_one-requires : goal.open_one-requires
open_one-requires c =
    let places = c.args.places.now in
    let turn = c.loop-turn.turn in
    let there = c.loop-turn-test.true in
    let place : SukPlace = get_or places turn (record { offset = 0; length = 0 }) in
    value_at_place c.args.octets.now places c.args.ahead.now turn place c.value_at.result c.requires.ahead there
    (get_or_default places turn (record { offset = 0; length = 0 }) place there) c.value_at.ensures

pub loop-turn-preserved : goal.loop-turn-preserved
loop-turn-preserved c =
    let places = c.args.places.now in
    let turn = c.loop-turn.turn in
    let there = c.loop-turn-test.true in
    let place : SukPlace = get_or places turn (record { offset = 0; length = 0 }) in
    let long : turn < length c.loop-turn.outs = omega arith in
    run_next (TakesEspAt c.args.octets.now) places c.loop-turn.outs c.args.gateway.now c.loop-turn.gateway c.open_one.new.gateway turn place c.open_one.new.out there long
    (get_or_default places turn (record { offset = 0; length = 0 }) place there) c.loop-turn.invariant c.open_one.ensures

pub returns : goal.returns
returns c =
    let places = c.args.places.now in
    let outs = c.loop-turn.outs in
    let turn = c.loop-turn.turn in
    let step = TakesEspAt c.args.octets.now in
    let all : take turn places ≡ places = take_all turn places (omega arith) in
    let each : take turn outs ≡ outs = take_all turn outs (omega arith) in
    subst (λ (ps : List SukPlace). Runs step ps outs c.args.gateway.now c.loop-turn.gateway) all
    (subst (λ (os : List SukOutput). Runs step (take turn places) os c.args.gateway.now c.loop-turn.gateway) each c.loop-turn.invariant)
