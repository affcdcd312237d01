use Rattle.std.proofs.Common.{◌≡◌, ◌∙◌, ◌≤◌, ◌++◌, ap, arith, length, not, rules, subst, take, ℕ, List}
use Rattle.std.proofs.lemmas.Fn.{filter_same}
use Rattle.std.proofs.lemmas.List.{take-append-le, take_all}
use Rattle.std.specs.List.{flat_map}
use Rattle.association.specs.declared.phase.Association.{Association}
use Rattle.moments.specs.Due.{closed_of, held_of, is_over, sent_of, SomethingComes}
use Rattle.moments.proofs.DueLemmas.{on_refusal}
use Rattle.moments.specs.Passing.{BecomeAll}
use Rattle.moments.proofs.PassingLemmas.{all_told}
use Rattle.moments.proofs.ticking.tick.Goals as goal

-- what was written in the place of as many is the whole list
written : (new rest : List Association) (n : ℕ) → length new ≡ n → take n (new ++ rest) ≡ new
written new rest n long =
    let within : n ≤ length new = omega arith in
    let whole : length new ≤ n = omega arith in
    take-append-le n new rest within ∙ take_all n new whole

pub returns-clause-ticked : goal.returns-clause-ticked
returns-clause-ticked c =
    let left = filter_same _ (λ a. not (is_over c.args.now a.phase)) _ (λ x b f k. search rules) _ _ c.retain.ensures.filtered in
    let becomes : BecomeAll c.args.now c.args.associations.now.items c.args.table.now c.pass_all.new.associations c.pass_all.new.table =
    subst (λ (old : List Association). BecomeAll c.args.now old c.args.table.now c.pass_all.new.associations c.pass_all.new.table) c.as_mut_slice.ensures.value c.pass_all.ensures in
    let held = left ∙ ap (held_of c.args.now) (written c.pass_all.new.associations _ _ (c.pass_all.auto.associations ∙ c.as_mut_slice.ensures.len)) in
    let sends = c.in_ok-requests.ensures.ok ∙ ap (flat_map (sent_of c.args.now)) c.as_slice.ensures.value in
    let closes = c.in_ok-closed.ensures.ok ∙ ap (flat_map (closed_of c.args.now)) c.as_slice-2.ensures.value in
    all_told c.args.now c.args.associations.now.items c.args.table.now c.in_ok-requests.requests c.in_ok-closed.closed c.pass_all.new.associations c.retain.new.self.items c.pass_all.new.table becomes sends closes held

pub returns-in_err-requests-clause-needs : goal.returns-in_err-requests-clause-needs
returns-in_err-requests-clause-needs c =
    on_refusal c.from_residual.result (subst (SomethingComes c.args.now) c.as_slice.ensures.value c.in_err-requests.ensures.refused)

pub returns-in_err-closed-clause-needs : goal.returns-in_err-closed-clause-needs
returns-in_err-closed-clause-needs c =
    on_refusal c.from_residual-in_err-closed.result (subst (SomethingComes c.args.now) c.as_slice-2.ensures.value c.in_err-closed.ensures.refused)
