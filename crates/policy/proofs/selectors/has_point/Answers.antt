use Rattle.std.proofs.Common.{arith, subst}
use Rattle.policy.specs.Ends.{HasFittingPort}
use Rattle.base.specs.Addresses.{FitsRange}
use Rattle.policy.specs.Points.{FitsSelectorFields}
use Rattle.policy.proofs.PointLemmas.{has_point, ends_of_point}
use Rattle.policy.proofs.selectors.has_point.Goals as goal

pub returns-then-has_port_of : goal.returns-then-has_port_of
returns-then-has_port_of c =
    let s = c.args.selector.now in
    let fits : FitsSelectorFields s = record { protocol = omega arith; start_port = omega arith; end_port = omega arith; addresses = subst FitsRange c.range_of-addresses.ensures.same c.range_of-addresses.ensures.fits } in
    let fitting = c.has_port_of.ensures.0 c.if-has_port_of.true in
    let port : HasFittingPort s.protocol s.start_port s.end_port = rw (c.ports_of.ensures.start, c.ports_of.ensures.end) at fitting in (
      λ yes. has_point s fits (rw c.range_of-addresses.ensures.same at (c.is_ordered.ensures.0 yes)) port,
      λ some. c.is_ordered.ensures.1 (rw c.range_of-addresses.ensures.same (ends_of_point s some.point some.inside).0),
    )
