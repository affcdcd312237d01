use Rattle.std.proofs.lemmas.List.{drop-replicate}
use Rattle.aes.proofs.key_schedule.begun.Goals as goal

pub returns : goal.returns
returns c = rw (drop-replicate, c.copy_from_slice.ensures.after)
