use Rattle.laws_progress.proofs.DeliveringLemmas.{step_at}
use Rattle.laws_progress.proofs.SealingLemmas.{is_sealed}
use Rattle.laws_progress.proofs.laws.what_is_to_be_protected_is_sealed.Goals as goal

pub returns : goal.returns
returns g c meaning_of old new happenings trail place packet pair h there goes =
    is_sealed c.answers_are_determined.ensures.outbound c.the_protected_never_goes_in_the_clear.ensures.protected meaning_of h
    (step_at meaning_of happenings old new trail place h there) pair packet goes
