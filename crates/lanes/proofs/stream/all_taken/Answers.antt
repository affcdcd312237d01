use Rattle.std.proofs.Common.{sym, ap, ◌∙◌, inl, inr, arith, slice_index, slice_set, ◌+◌}
use Rattle.std.proofs.lemmas.Bool.{cases_eq}
use Rattle.std.proofs.lemmas.List.{get_or-set_same, get_or-set_other, length-set}
use Rattle.lanes.proofs.stream.all_taken.Goals as goal

pub loop-j-preserved : goal.loop-j-preserved
loop-j-preserved c =
    let sums = c.loop-j.sums in
    let j = c.loop-j.j in
    let sum = slice_index sums j + c.args.count in
    let long = c.loop-j.invariant.2 in (
      λ k below. elim (cases_eq k j) [
        | inl same ↦ ap (slice_index (slice_set sums j sum)) same ∙ get_or-set_same sums j sum 0 (omega arith) ∙ ap (λ n. n + c.args.count) (c.loop-j.invariant.1 j (omega arith)) ∙ ap (λ n. slice_index c.args.taken.now n + c.args.count) (sym same)
        | inr apart ↦ get_or-set_other sums j k sum 0 apart ∙ c.loop-j.invariant.0 k (omega arith)
      ],
      λ k past. get_or-set_other sums j k sum 0 (omega arith) ∙ c.loop-j.invariant.1 k (omega arith),
      length-set sums j sum ∙ long,
    )
