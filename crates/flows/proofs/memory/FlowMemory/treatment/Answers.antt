use Rattle.std.proofs.Common.{subst, sym}
use Rattle.flows.specs.Memory.{AllRight}
use Rattle.flows.proofs.MemoryLemmas.{all_right}
use Rattle.flows.proofs.memory.FlowMemory.treatment.Goals as goal

pub returns-clause-all_right : goal.returns-clause-all_right
returns-clause-all_right c =
    all_right c.args.policy.now c.args.table.now.pairs c.looked_up-treatment.new.self c.make_places.new.self c.note.new.self (record { flow = c.args.flow.now; treatment = c.looked_up-treatment.result })
    (subst (AllRight c.args.policy.now c.args.table.now.pairs) (sym c.looked_up-treatment.ensures.same) c.requires) c.make_places.ensures.no_more c.note.ensures.notes c.looked_up-treatment.ensures.found
