use Rattle.std.proofs.Common.{◌≡◌, false, rules, subst, sym, true}
use Rattle.children.specs.declared.fault.MemoryFault.{MemoryFault}
use Rattle.create_child.specs.Concluding.{CanMakeFurther, CanWantForAnswer}
use Rattle.create_child.proofs.ConcludingLemmas.{err_and, wants_pair}
use Rattle.create_child.proofs.concluding.conclude_response.Goals as goal

pub returns-in_err-conclusion-in-Some-clause-wanted : goal.returns-in_err-conclusion-in-Some-clause-wanted
returns-in_err-conclusion-in-Some-clause-wanted c =
    let can : CanMakeFurther c.args.asked.now c.args.plain.now =
    record { payloads = c.as_slice-answer.result.now; read = search rules; later = λ at_once. (let came : false ≡ true = c.in_err-conclusion-in-Some.ensures.early at_once in absurd cc) } in
    err_and c.from_residual-in_err-conclusion-in-Some.result _ _ c.from_residual-in_err-conclusion-in-Some.ensures.1 (λ e is.
    subst (λ (f : MemoryFault). CanWantForAnswer c.args.asked.now c.args.plain.now f) (sym is)
    (wants_pair c.args.asked.now c.args.plain.now c.in_err-conclusion-in-Some.field-0.0 can c.in_err-conclusion-in-Some.ensures.wanted))
