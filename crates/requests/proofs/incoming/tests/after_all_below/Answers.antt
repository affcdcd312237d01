use Rattle.std.proofs.Common.{ap}
use Rattle.requests.specs.Storage.{Held}
use Rattle.requests.proofs.IncomingLemmas.{begins_below}
use Rattle.requests.proofs.incoming.tests.after_all_below.Goals as goal

pub invariant_of-result : goal.invariant_of-result
invariant_of-result c = begins_below c.all_below.result c.new.result.items c.args.gap c.all_below.ensures (ap (λ (h : Held _). h.items) c.new.ensures)
