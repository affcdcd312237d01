use Rattle.policy.proofs.NarrowLemmas.{acceptable, narrowing}
use Rattle.policy.proofs.narrowing.narrow.Goals as goal

pub returns-clause-narrowed : goal.returns-clause-narrowed
returns-clause-narrowed c =
    narrowing c.args.policy.now c.entries.result.now c.args.offered_i.now c.args.offered_r.now c.in-Ok.initiator c.in-Ok-narrow_list.responder c.in-Some.entry.now c.remote_side.result c.local_side.result
    c.entries.ensures.entries c.in-Some.ensures c.remote_side.ensures c.local_side.ensures c.in-Ok.ensures c.in-Ok-narrow_list.ensures

pub returns-in_default-narrow_list-clause-refused : goal.returns-in_default-narrow_list-clause-refused
returns-in_default-narrow_list-clause-refused c = acceptable c.args.policy.now c.entries.result.now c.args.offered_i.now c.args.offered_r.now c.in-Some.entry.now c.entries.ensures.entries c.in-Some.ensures

pub returns-in_default-narrow_list-2-clause-refused : goal.returns-in_default-narrow_list-2-clause-refused
returns-in_default-narrow_list-2-clause-refused c = acceptable c.args.policy.now c.entries.result.now c.args.offered_i.now c.args.offered_r.now c.in-Some.entry.now c.entries.ensures.entries c.in-Some.ensures
