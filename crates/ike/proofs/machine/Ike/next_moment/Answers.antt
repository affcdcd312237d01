use Rattle.std.proofs.Common.{◌≡◌, ◌∙◌, ap, subst, IfSome, List}
use Rattle.association.specs.declared.phase.Association.{Association}
use Rattle.moments.specs.Next.{NothingIsDueBefore, SomethingIsDue}
use Rattle.ike.specs.Machines.{Machine}
use Rattle.ike.proofs.NextLemmas.{ahead_of}
use Rattle.ike.proofs.machine.Ike.next_moment.Goals as goal

pub returns-clause-early : goal.returns-clause-early
returns-clause-early c =
    let same : c.associations.result.now ≡ c.args.self.now.held.associations = c.associations.ensures ∙ ap (λ (m : Machine). m.held.associations) c.self.view_is in
    subst (λ (xs : List Association). NothingIsDueBefore c.next_due.result xs) same c.next_due.ensures.early

pub returns-clause-ahead : goal.returns-clause-ahead
returns-clause-ahead c =
    let same : c.associations.result.now ≡ c.args.self.now.held.associations = c.associations.ensures ∙ ap (λ (m : Machine). m.held.associations) c.self.view_is in
    ahead_of c.what_is_due_next_lies_ahead.ensures c.args.self.now c.next_due.result (subst (λ (xs : List Association). IfSome c.next_due.result (λ m. SomethingIsDue m xs)) same c.next_due.ensures.due)
