use Rattle.std.proofs.Common.{subst, MatchBool}
use Rattle.std.specs.Fn.{FnReturnsAt}
use Rattle.requests.specs.Outgoing.{OwnRequests, SomeOutstanding, NoneOutstanding}
use Rattle.requests.proofs.outgoing.Outgoing.any.Goals as goal

pub returns : goal.returns
returns g c = subst (λ (r : OwnRequests _). MatchBool c.any.result (SomeOutstanding r.outstanding (FnReturnsAt g.F.Fn c.args.test)) (NoneOutstanding r.outstanding (FnReturnsAt g.F.Fn c.args.test))) c.self.view_is c.any.ensures
