use Rattle.std.proofs.Common.{ℕ, List, arith, ap, sym, ◌∙◌}
use Rattle.suite.specs.Callers.{IsSecret}
use Rattle.base.proofs.OctetLemmas.{octets_from}
use Rattle.test_message_calls.proofs.tests.of_caller.agreed.Goals as goal

pub returns : goal.returns
returns g c =
    let a = c.args.a.now in
    let b = c.args.b.now in
    let secret_a : IsSecret a = record { whole = omega arith; octets = octets_from a c.fits-a } in
    let secret_b : IsSecret b = record { whole = omega arith; octets = octets_from b c.fits-b } in
    c.in_ok-at_a.ensures
    ∙ ap (λ (x : List ℕ). g.A.Agreement.shared_secret a x) (c.as_slice.ensures ∙ c.in_ok-public_b.ensures.0)
    ∙ g.met.A.Agreement.symmetric a b secret_a secret_b
    ∙ sym (c.in_ok-at_b.ensures ∙ ap (λ (x : List ℕ). g.A.Agreement.shared_secret b x) (c.as_slice-2.ensures ∙ c.in_ok-public_a.ensures.0))
