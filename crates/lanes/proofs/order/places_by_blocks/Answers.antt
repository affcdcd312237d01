use Rattle.std.proofs.Common.{◌≡◌, List, ℕ, length, take, ap, ◌∙◌, subst}
use Rattle.std.proofs.lemmas.List.{take_at}
use Rattle.std.proofs.lemmas.List.FromFn.{length-range_with_len}
use Rattle.std.specs.List.{range_with_len}
use Rattle.std.specs.List.Sorted.{IsPermutation}
use Rattle.lanes.proofs.BatchLemmas.{take-range}
use Rattle.lanes.proofs.order.places_by_blocks.Goals as goal

pub returns : goal.returns
returns c =
    let n = length c.args.tasks.now in
    let first : take n c.all_places-places.result ≡ range_with_len 0 n = ap (λ (l : List ℕ). take n l) c.all_places-places.ensures ∙ take-range 0 64 n c.requires in
    let sorted = c.sort_unstable_by_key.ensures in
    let long : length c.sort_unstable_by_key.new.self ≡ n = sorted.len ∙ ap (λ (l : List ℕ). length l) first ∙ length-range_with_len 0 n in
    rw (take_at c.sort_unstable_by_key.new.self _ n long) (subst (λ (l : List ℕ). IsPermutation l c.sort_unstable_by_key.new.self) first sorted.permutation)
