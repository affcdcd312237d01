use Rattle.std.proofs.lemmas.Option.{slice_get-get_or}
use Rattle.policy.specs.Narrowing.{FitsSome}
use Rattle.policy.proofs.Scanning.{none_more, none_at_all}
use Rattle.policy.proofs.narrowing.first_that_fits_some.Goals as goal

pub loop-entry-preserved : goal.loop-entry-preserved
loop-entry-preserved c =
    none_more (FitsSome c.args.offered_i.now c.args.offered_r.now) c.args.entries.now c.loop-entry.entry-index _
    (slice_get-get_or c.args.entries.now c.loop-entry.entry-index _ c.loop-entry-test.true) (λ fits. let yes = c.fits_some.ensures.1 fits in absurd (cc)) c.loop-entry.invariant

pub returns : goal.returns
returns c = none_at_all (FitsSome c.args.offered_i.now c.args.offered_r.now) c.args.entries.now c.loop-entry.entry-index c.loop-entry-test.false c.loop-entry.invariant
