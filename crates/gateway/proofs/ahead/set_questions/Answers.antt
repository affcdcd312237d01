use Rattle.std.proofs.Common.{rules, ◌<◌, ◌∙◌, length, map, refl, sym, ap, subst, arith}
use Rattle.std.specs.Prelude.{IfSome}
use Rattle.base.specs.Octets.{Octets}
use Rattle.esp.specs.Precomputed.{AreQuestions, IsQuestion}
use Rattle.gateway.specs.Groups.{packet_in, packets_in}
use Rattle.gateway.specs.Inputs.{input_view}
use Rattle.gateway.specs.declared.input.Input as lent
use Rattle.gateway.proofs.GroupLemmas.{asked_more, packet_at_place}
use Rattle.gateway.proofs.ahead.set_questions.Goals as goal
use Rattle.gateway.proofs.ahead.set_questions.Goals.{in-Esp, in_default}

pub loop-place-init : goal.loop-place-init
loop-place-init c = record { questions = λ before. before; long = refl }

pub loop-place-preserved : goal.loop-place-preserved
loop-place-preserved c =
    let i = c.loop-place.invariant in
    let h = c.loop-place-test.true in
    let inputs = map input_view c.args.inputs.now in
    let place = c.loop-place.place in
    elim c.match-input.branch [
      | in-Esp w ↦
          let found = packet_at_place c.args.inputs.now place _ h ∙ ap (λ (i : lent.Input). packet_in (input_view i)) w.in-Esp.is in
          let right : IfSome w.question.result (IsQuestion (packets_in inputs place)) =
          subst (λ (b : Octets). IfSome w.question.result (IsQuestion b)) (sym found) w.question.ensures
          in
          let within : place < length c.loop-place.questions = omega arith in
          record {
            questions = λ before.
                subst (AreQuestions (packets_in inputs)) (sym w.questions-is) (asked_more (packets_in inputs) c.loop-place.questions place w.question.result within (i.questions before) right);
            long = search rules;
          }
      | in_default w ↦ search rules
    ]
