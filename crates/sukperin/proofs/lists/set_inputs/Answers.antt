use Rattle.std.proofs.Common.{◌≡◌, ◌<◌, ℕ, length, get_or, arith, subst, ◌∙◌, length-set}
use Rattle.std.proofs.lemmas.List.{get_or_default}
use Rattle.sukperin.specs.Lists.{AreInputsAt}
use Rattle.sukperin.specs.declared.lists.SukPlace.{SukPlace}
use Rattle.sukperin.proofs.ListLemmas.{input_more}
use Rattle.sukperin.proofs.lists.set_inputs.Goals as goal

pub loop-turn-preserved : goal.loop-turn-preserved
loop-turn-preserved c =
    let i = c.loop-turn.invariant in
    let places = c.args.places.now in
    let turn = c.loop-turn.turn in
    let there = c.loop-turn-test.true in
    let within : turn < length c.loop-turn.inputs = omega arith in
    let place : SukPlace = get_or places turn (record { offset = 0; length = 0 }) in
    record {
      inputs = input_more c.args.octets.now places c.loop-turn.inputs turn place c.input_at.result within there (get_or_default places turn (record { offset = 0; length = 0 }) place there) c.input_at.ensures i.inputs;
      long = length-set c.loop-turn.inputs turn c.input_at.result ∙ i.long;
    }

pub returns-clause-each : goal.returns-clause-each
returns-clause-each c =
    let all : c.loop-turn.turn ≡ length c.args.places.now = omega arith in
    subst (λ (n : ℕ). AreInputsAt c.args.octets.now c.args.places.now n c.loop-turn.inputs) all c.loop-turn.invariant.inputs
