use Rattle.std.proofs.Common.{◌≡◌, ◌≤◌, length, ◌∙◌, inl, inr, arith, rules, subst}
use Rattle.std.proofs.lemmas.Bool.{cases_lt}
use Rattle.std.proofs.lemmas.Option.{get_or_from_slice_get}
use Rattle.lanes.specs.declared.task.Task.{Task}
use Rattle.lanes.proofs.batch.fit_lanes.Goals as goal

pub loop-task-preserved : goal.loop-task-preserved
loop-task-preserved c = λ place below. elim (cases_lt place c.loop-task.task-index) [
  | inl less ↦ c.loop-task.invariant place less
  | inr last ↦
      let same : place ≡ c.loop-task.task-index = omega arith in
      let short : length c.task-item.result.more.now ≤ 56 = search rules in
      rw same (record {
        within = omega arith;
        short = λ task given. subst (λ (t : Task). length t.more.now ≤ 56)
            (c.task-item.is ∙ get_or_from_slice_get c.args.tasks.now _ task c.task-item.result given) short;
      })
]

pub returns : goal.returns
returns c = λ _ place within. c.loop-task.invariant place (omega arith)
