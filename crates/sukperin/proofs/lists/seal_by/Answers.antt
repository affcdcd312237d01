use Rattle.std.proofs.Common.{refl, arith, inl, inr}
use Rattle.sukperin.proofs.lists.seal_by.Goals as goal

pub returns-then-few : goal.returns-then-few
returns-then-few c = inr (omega arith, c.code.ensures.value, refl, refl, refl)

pub returns : goal.returns
returns c = inl (omega arith, refl, record { takes = c.seal_groups.ensures; left_is = refl; tells_keys = refl })
