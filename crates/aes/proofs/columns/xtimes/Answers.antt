use Rattle.aes.proofs.FieldLemmas.{xtimes_by_shift, reduction_set, reduction_clear}
use Rattle.aes.proofs.columns.xtimes.Goals as goal
use Rattle.aes.proofs.columns.xtimes.Goals.{then-octet-eq1, else-octet-eq1}

pub returns : goal.returns
returns c =
    elim c.if-octet-eq1.branch [
      | then-octet-eq1 w ↦ xtimes_by_shift _ _ (reduction_set _ _ w.if-octet-eq1.true w.reduction-is)
      | else-octet-eq1 w ↦ xtimes_by_shift _ _ (reduction_clear _ _ c.ranges.octet.fits w.if-octet-eq1.false w.reduction-is)
    ]
