use Rattle.std.proofs.Common.{◌≡◌, ◌+◌, ◌∙◌, sym, arith}
use Rattle.std.proofs.lemmas.List.{ext_get_or}
use Rattle.std.proofs.lemmas.List.FromFn.{get_or-range_with_len}
use Rattle.std.specs.List.{range_with_len}
use Rattle.lanes.proofs.order.all_places.Goals as goal

pub returns : goal.returns
returns c = ext_get_or 0 c.loop-place.places (range_with_len 0 64) c.loop-place.invariant.long (λ i below.
    c.loop-place.invariant.each i (omega arith) ∙ (let from : i ≡ 0 + i = omega arith in from ∙ sym (get_or-range_with_len 0 64 i 0 (omega arith))))
