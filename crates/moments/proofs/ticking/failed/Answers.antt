use Rattle.std.proofs.Common.{◌≡◌, false, true, rules, arith}
use Rattle.moments.specs.Due.{has_failed, is_over}
use Rattle.moments.proofs.DueLemmas.{on_refusal, one_closes}
use Rattle.moments.proofs.ticking.failed.Goals as goal

pub returns-in_err-push-clause-refused : goal.returns-in_err-push-clause-refused
returns-in_err-push-clause-refused c =
    let held : is_over c.args.now c.association-item.result.phase ≡ false = search rules in
    let gone : has_failed c.args.now c.association-item.result ≡ true = search rules in
    on_refusal c.from_residual.result
    (one_closes c.args.now c.loop-association.association-index c.args.associations.now c.association-item.result (omega arith) c.association-item.is held gone)
