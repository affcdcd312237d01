use Rattle.std.proofs.Common.{rules, ◌≡◌, ◌<◌, ◌∙◌, length, get_or, refl, sym, subst, arith}
use Rattle.std.specs.Prelude.{IfSome}
use Rattle.base.specs.Octets.{Octets}
use Rattle.esp.specs.Precomputed.{AreQuestions, IsQuestion}
use Rattle.gateway.specs.Laying.{laid_at}
use Rattle.gateway.proofs.GroupLemmas.{asked_more}
use Rattle.gateway.proofs.LayingLemmas.{laid_here}
use Rattle.gateway.proofs.laying.set_questions.Goals as goal
use Rattle.gateway.proofs.laying.set_questions.Goals.{in-Sealed, in_default}

pub loop-place-init : goal.loop-place-init
loop-place-init c = record { questions = λ before. before; long = refl }

pub loop-place-preserved : goal.loop-place-preserved
loop-place-preserved c =
    let i = c.loop-place.invariant in
    let h = c.loop-place-test.true in
    let laid = c.args.laid.now in
    let place = c.loop-place.place in
    elim c.match-output.branch [
      | in-Sealed w ↦
          let d = c.index-laid-place.result in
          let was : get_or laid place d ≡ d = search rules in
          let found = laid_here laid place d _ h (was ∙ w.in-Sealed.is) in
          let right : IfSome w.question.result (IsQuestion (laid_at laid place)) =
          subst (λ (b : Octets). IfSome w.question.result (IsQuestion b)) (w.as_slice.ensures ∙ sym found) w.question.ensures
          in
          let within : place < length c.loop-place.questions = omega arith in
          record {
            questions = λ before. subst (AreQuestions (laid_at laid)) (sym w.questions-is) (asked_more (laid_at laid) c.loop-place.questions place w.question.result within (i.questions before) right);
            long = search rules;
          }
      | in_default w ↦ search rules
    ]
