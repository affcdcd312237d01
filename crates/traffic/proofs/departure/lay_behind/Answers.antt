use Rattle.std.specs.Prelude.{◌≡◌}
use Rattle.flows.specs.Staying.{NoneComes}
use Rattle.flows.specs.Treatments.{action_of}
use Rattle.policy.specs.declared.entry.Action.TheVariants.{Protect}
use Rattle.sadb.specs.Database.{Database}
use Rattle.traffic.specs.Sending.{HasUnspentCarrier}
use Rattle.traffic.proofs.FollowingLemmas.{Keeps}
use Rattle.traffic.proofs.RememberingLemmas.{remembers_one, remembers_none}
use Rattle.traffic.proofs.BehindLemmas.{departs_behind, sent_behind}
use Rattle.traffic.proofs.departure.lay_behind.Goals as goal

pub returns-in-Ok-clause-sent : goal.returns-in-Ok-clause-sent
returns-in-Ok-clause-sent c =
    departs_behind c.args.table.now c.args.policy.now c.treatment-treatment.result c.read_inner.new.flow c.args.packet.now c.args.out.now.items c.depart.result c.depart.new.table c.depart.new.out.items c.in-Ok.ensures.flow
    c.treatment-treatment.ensures.right.decision c.depart.ensures.sent

pub returns-in-Ok-clause-right : goal.returns-in-Ok-clause-right
returns-in-Ok-clause-right c =
    let keeps : Keeps (λ (a b : Database). NoneComes a.pairs b.pairs) = record {
      same = λ d. c.no_pair_comes.ensures.same d.pairs;
      opening = c.no_pair_comes.ensures.opening;
      refusing = c.no_pair_comes.ensures.refusing;
      sealing = c.no_pair_comes.ensures.sealing;
    } in
    c.answers_stay_right.ensures.stay c.args.policy.now c.args.table.now.pairs c.depart.new.table.pairs c.treatment-treatment.new.self
    (sent_behind (λ (a b : Database). NoneComes a.pairs b.pairs) keeps (action_of c.treatment-treatment.result ≡ Protect) (HasUnspentCarrier c.args.table.now c.read_inner.new.flow) (c.depart.new.out.items ≡ c.args.out.now.items)
    c.args.table.now c.args.policy.now c.args.packet.now c.args.out.now.items c.depart.result c.depart.new.table c.depart.new.out.items (returns-in-Ok-clause-sent c) c.depart.ensures.memory)
    c.treatment-treatment.ensures.all_right

pub returns-in-Ok-clause-remembered : goal.returns-in-Ok-clause-remembered
returns-in-Ok-clause-remembered c = remembers_one c.args.policy.now c.args.table.now.pairs c.args.packet.now c.read_inner.new.flow c.treatment-treatment.result c.args.flows.now c.treatment-treatment.new.self
    c.flows_are_determined.ensures.flow c.flows_are_determined.ensures.apart c.in-Ok.ensures.flow c.treatment-treatment.ensures.right c.treatment-treatment.ensures.held c.treatment-treatment.ensures.kept c.treatment-treatment.ensures.others

pub returns-in-Err-clause-remembered : goal.returns-in-Err-clause-remembered
returns-in-Err-clause-remembered c = remembers_none c.args.policy.now c.args.table.now.pairs c.args.packet.now c.in-Err.fault c.args.flows.now c.flows_are_determined.ensures.apart c.in-Err.ensures.refused
