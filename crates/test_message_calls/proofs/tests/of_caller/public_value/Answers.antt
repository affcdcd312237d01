use Rattle.std.proofs.Common.{◌≡◌, ℕ, List, Result, Ok, Err, IfOk, subst, sym, arith}
use Rattle.suite.specs.Callers.{FitsPayload, IsSecret}
use Rattle.base.proofs.OctetLemmas.{octets_from}
use Rattle.test_message_calls.proofs.tests.of_caller.public_value.Goals as goal

also_fits : {E : Type 0} (r : Result (List ℕ) E) (value : List ℕ) → FitsPayload value → IfOk r (λ v. v ≡ value) → IfOk r (λ v. (v ≡ value) × FitsPayload v)
also_fits (Err e) value fits is = is
also_fits (Ok v) value fits is = (is, subst FitsPayload (sym is) fits)

pub returns : goal.returns
returns g c =
    let secret : IsSecret c.args.secret.now = record { whole = omega arith; octets = octets_from c.args.secret.now c.fits-secret } in
    also_fits c.public.result (g.A.Agreement.public_value c.args.secret.now) (g.met.A.Agreement.public_fits c.args.secret.now secret) c.public.ensures
