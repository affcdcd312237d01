use Rattle.std.proofs.Common.{◌≡◌, rules, List, subst, sym}
use Rattle.wire.specs.declared.payload.Payload.{Payload}
use Rattle.auth.specs.Fitting.{FitWithin}
use Rattle.further.specs.Payloads.{further_payloads}
use Rattle.further.proofs.FittingLemmas.{child_fits}
use Rattle.further.proofs.payloads.further_payloads.Goals as goal

pub returns-clause-fits : goal.returns-clause-fits
returns-clause-fits c =
    let same : c.push-4.new.self ≡ further_payloads c.args.child c.args.nonce.now = search rules in
    subst (λ (p : List Payload). FitWithin 2840 p) (sym same) (child_fits c.args.child c.args.nonce.now c.requires c.nonce_fits.ensures)
