use Rattle.std.proofs.Common.{subst}
use Rattle.wire.specs.Sizes.{FitsFields}
use Rattle.wire.specs.declared.payload.Payload.{Payload}
use Rattle.auth.proofs.proving.proved_identity.Goals as goal

pub returns-clause-fits : goal.returns-clause-fits
returns-clause-fits g c = subst (λ (p : Payload). FitsFields p) c.in_ok-prove.ensures.made c.in_ok-prove.ensures.fits
