use Rattle.std.proofs.Common.{◌≡◌, ℕ, List, Result, Ok, Err, IfOk, subst, sym}
use Rattle.suite.specs.Callers.{FitsPayload}
use Rattle.base.proofs.OctetLemmas.{octets_from_fits}
use Rattle.test_message_calls.proofs.tests.of_caller.proved.Goals as goal

also_fits : {E : Type 0} (r : Result (List ℕ) E) (value : List ℕ) → FitsPayload value → IfOk r (λ v. v ≡ value) → IfOk r (λ v. (v ≡ value) × FitsPayload v)
also_fits (Err e) value fits is = is
also_fits (Ok v) value fits is = (is, subst FitsPayload (sym is) fits)

pub returns : goal.returns
returns g c =
    let octets = octets_from_fits c.args.octets.now c.type_inv.octets in
    also_fits c.prove.result (g.P.Proof.proof_of c.args.caller.now c.args.octets.now) (g.met.P.Proof.proof_fits c.args.caller.now c.args.octets.now octets) c.prove.ensures
