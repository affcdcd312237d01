use Rattle.std.proofs.Common.{arith, subst}
use Rattle.base.specs.Addresses.{FitsRange}
use Rattle.policy.specs.Points.{FitsSelectorFields}
use Rattle.policy.proofs.PointLemmas.{lies_in, lies_in_ends}
use Rattle.policy.proofs.selectors.lies_in.Goals as goal
use Rattle.policy.proofs.selectors.lies_in.Goals.{then-fits_protocol, else-fits_protocol}

pub returns-then-lies_in : goal.returns-then-lies_in
returns-then-lies_in c =
    let s = c.args.selector.now in
    let t = c.args.other.now in
    let fits : FitsSelectorFields s = record { protocol = omega arith; start_port = omega arith; end_port = omega arith; addresses = subst FitsRange c.range_of-addresses.ensures.same c.range_of-addresses.ensures.fits } in
    elim c.if-fits_protocol.branch [
      | then-fits_protocol w ↦ (
        λ yes. lies_in s t (omega arith) (record {
          protocol = c.fits_protocol.ensures.0 (cc);
          addresses = rw c.range_of-addresses.ensures.same at (w.lies_in.ensures.0 (cc));
          start_port = omega (arith, (c.lies_in-then-lies_in.ensures.0 yes).0);
          end_port = omega (arith, (c.lies_in-then-lies_in.ensures.0 yes).1);
        }),
        λ inside.
            let ends = lies_in_ends s t fits c.requires inside in
            let start = ends.start_port in
            let end = ends.end_port in
            c.lies_in-then-lies_in.ensures.1 (omega arith, omega arith),
      )
      | else-fits_protocol w ↦ absurd (cc)
    ]

pub returns-else-lies_in : goal.returns-else-lies_in
returns-else-lies_in c =
    let s = c.args.selector.now in
    let t = c.args.other.now in
    let fits : FitsSelectorFields s = record { protocol = omega arith; start_port = omega arith; end_port = omega arith; addresses = subst FitsRange c.range_of-addresses.ensures.same c.range_of-addresses.ensures.fits } in
    elim c.if-fits_protocol.branch [
      | then-fits_protocol w ↦ (
        λ yes. absurd (cc),
        λ inside.
            let yes = w.lies_in.ensures.1 (rw c.range_of-addresses.ensures.same (lies_in_ends s t fits c.requires inside).addresses) in
            cc,
      )
      | else-fits_protocol w ↦ (
        λ yes. absurd (cc),
        λ inside.
            let yes = c.fits_protocol.ensures.1 (lies_in_ends s t fits c.requires inside).protocol in
            absurd (cc),
      )
    ]
