use Rattle.std.proofs.Common.{ℕ, List, arith, subst, sym}
use Rattle.base.proofs.OctetLemmas.{octets_from_fits}
use Rattle.base.specs.Octets.{AreOctets}
use Rattle.suite.specs.Callers.{FitsPayload}
use Rattle.auth.proofs.proving.auth_over.Goals as goal

pub returns-clause-fits : goal.returns-clause-fits
returns-clause-fits g c =
    let octets = octets_from_fits c.args.octets.now c.type_inv.octets in
    let law = g.met.C.Proof.proof_fits c.args.caller.now c.args.octets.now octets in
    let fits = subst (λ (o : List ℕ). FitsPayload o) (sym c.in_ok-proof.ensures) law in
    let all = subst (λ (o : List ℕ). AreOctets o) c.as_slice.ensures c.are_octets.ensures in
    (omega arith, record { some = fits.some; few = fits.few; fits = all })
