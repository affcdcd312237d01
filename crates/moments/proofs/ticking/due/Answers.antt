use Rattle.std.proofs.Common.{◌≡◌, false, rules, arith}
use Rattle.moments.specs.Due.{has_failed, is_over}
use Rattle.moments.proofs.DueLemmas.{on_refusal, one_sends}
use Rattle.moments.proofs.ticking.due.Goals as goal

pub returns-in_err-append_due-clause-refused : goal.returns-in_err-append_due-clause-refused
returns-in_err-append_due-clause-refused c =
    let held : is_over c.args.now c.association-item.result.phase ≡ false = search rules in
    let not_gone : has_failed c.args.now c.association-item.result ≡ false = search rules in
    on_refusal c.from_residual.result
    (one_sends c.args.now c.loop-association.association-index c.args.associations.now c.association-item.result (omega arith) c.association-item.is held not_gone c.in_err-append_due.ensures.refused)
