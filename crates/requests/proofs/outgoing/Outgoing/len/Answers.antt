use Rattle.std.proofs.Common.{◌≡◌, ap, arith}
use Rattle.std.specs.FinMap as map
use Rattle.requests.specs.Outgoing.{OwnRequests}
use Rattle.requests.proofs.outgoing.Outgoing.len.Goals as goal

pub returns-clause-few : goal.returns-clause-few
returns-clause-few g c =
    let count = c.len.ensures in
    let shown : map.len c.self.inside.outstanding.items ≡ map.len c.args.self.now.outstanding = ap (λ (r : OwnRequests _). map.len r.outstanding) c.self.view_is in
    let few = c.invariants_hold.ensures.few_outstanding in
    let most = c.invariants_hold.ensures.most in
    omega arith
