use Rattle.std.proofs.Common.{ℕ, ◌≤◌, sym, subst}
use Rattle.suite.specs.Nonces.{IsNonce}
use Rattle.sa_init.proofs.laws.accepted_offers_fit.Goals as goal

pub returns : goal.returns
returns c = λ cipher group secrets sender half_open held m offer spelled accepted.
    (let parts = accepted.parts in
    let complete = accepted.considered.heard.whole.complete in
    let choice = accepted.suited.choice in
    record {
      ni = subst IsNonce (sym accepted.ni) (c.spelled_parts_fit.ensures.nonce m parts spelled complete);
      number = subst (λ (n : ℕ). 1 ≤ n) (sym choice.number) (c.spelled_parts_fit.ensures.numbers m parts offer.chosen.place choice.proposal spelled complete choice.here);
    })
