use Rattle.std.proofs.Common.{arith}
use Rattle.policy.proofs.PointLemmas.{FitsPorts, same_part, some_part, no_common_address, no_common_protocol}
use Rattle.policy.proofs.selectors.common_part.Goals as goal

pub returns-in_err-protocol : goal.returns-in_err-protocol
returns-in_err-protocol c = rw c.from_residual.ensures (no_common_protocol c.args.one.now c.args.other.now c.in_err-protocol.ensures)

pub returns-in_err-addresses : goal.returns-in_err-addresses
returns-in_err-addresses c = rw c.from_residual-in_err-addresses.ensures (no_common_address c.args.one.now c.args.other.now c.in_err-addresses.ensures)

pub returns : goal.returns
returns c =
    let fits : FitsPorts c.args.one.now = record { start = omega arith; end = omega arith } in
    let fits_t : FitsPorts c.args.other.now = record { start = omega arith; end = omega arith } in
    let same = same_part c.args.one.now c.args.other.now c.in_ok-protocol.protocol c.common-ports.result.start c.common-ports.result.end c.in_ok-addresses.addresses (omega arith) (omega arith) in
    rw c.then_some.ensures (some_part c.args.one.now c.args.other.now _ c.in_ok-protocol.protocol c.in_ok-addresses.addresses c.has_point.result (omega arith) fits fits_t c.in_ok-protocol.ensures c.in_ok-addresses.ensures same c.has_point.ensures)
