use Rattle.std.proofs.Common.{◌<◌, subst, IfSome}
use Rattle.moments.specs.Next.{NothingIsDueBefore, SomethingIsDue}
use Rattle.gateway.specs.States.{State}
use Rattle.gateway.proofs.machine.Gateway.next_moment.Goals as goal

pub returns-clause-early : goal.returns-clause-early
returns-clause-early g c = subst (λ (s : State _). NothingIsDueBefore c.next_moment.result s.machine.held.associations) c.self.view_is c.next_moment.ensures.early

pub returns-clause-due : goal.returns-clause-due
returns-clause-due g c = subst (λ (s : State _). IfSome c.next_moment.result (λ m. SomethingIsDue m s.machine.held.associations)) c.self.view_is c.next_moment.ensures.due

pub returns-clause-ahead : goal.returns-clause-ahead
returns-clause-ahead g c = subst (λ (s : State _). IfSome c.next_moment.result (λ m. s.machine.moment < m)) c.self.view_is (c.next_moment.ensures.ahead c.self.invariant.1)
