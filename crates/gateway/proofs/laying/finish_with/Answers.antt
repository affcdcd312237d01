use Rattle.std.proofs.Common.{rules, ◌≡◌, ◌<◌, length, get_or, sym, ap, ◌∙◌, arith}
use Rattle.std.proofs.lemmas.List.{length-set}
use Rattle.std.proofs.Math.ListN.{set}
use Rattle.gateway.specs.Laying.{finished_output}
use Rattle.gateway.proofs.LayingLemmas.{finished_more, first_left, left_still, value_laid}
use Rattle.gateway.proofs.laying.finish_with.Goals as goal

pub finished-requires : goal.finished-requires
finished-requires c =
    let i = c.loop-place.invariant in
    let laid = c.loop-place.laid in
    let before = c.args.laid.now in
    let k = c.loop-place.place in
    let d = c.index-laid-place.result in
    let h : k < length laid = search rules in
    let within : k < length before = omega (arith, h, i.long) in
    let here : get_or before k d ≡ c.replace-output.result = sym (first_left laid before k d i.rest h within) ∙ sym c.replace-output.ensures.value in
    value_laid before c.args.ahead.now k d c.replace-output.result c.value_at.result c.requires within here c.value_at.ensures

pub loop-place-preserved : goal.loop-place-preserved
loop-place-preserved c =
    let i = c.loop-place.invariant in
    let laid = c.loop-place.laid in
    let before = c.args.laid.now in
    let pairs = c.args.table.now.pairs in
    let k = c.loop-place.place in
    let d = c.index-laid-place.result in
    let x = c.replace-output.new.dest in
    let v = c.finished.result in
    let h : k < length laid = search rules in
    let within : k < length before = omega (arith, h, i.long) in
    let here : get_or before k d ≡ c.replace-output.result = sym (first_left laid before k d i.rest h within) ∙ sym c.replace-output.ensures.value in
    record {
      done = finished_more pairs laid before k x v d i.long within i.done (c.finished.ensures ∙ ap (finished_output pairs) (sym here));
      rest = left_still laid before k x v i.rest;
      long = length-set (set laid k x) k v ∙ length-set laid k x ∙ i.long;
    }
