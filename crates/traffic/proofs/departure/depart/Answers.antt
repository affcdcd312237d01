use Rattle.traffic.proofs.BehindLemmas.{bypassed_behind, carried_behind, discarded_behind, uncarried_behind}
use Rattle.traffic.proofs.departure.depart.Goals as goal

pub returns-in-Carried-clause-sent : goal.returns-in-Carried-clause-sent
returns-in-Carried-clause-sent c =
    carried_behind c.args.table.now c.args.treatment c.in-Carried.child c.args.flow.now c.args.packet.now c.args.out.now.items c.lay_by.result c.lay_by.new.table c.lay_by.new.out.items c.in-Carried.is c.lay_by.ensures.sent

pub returns-in-Uncarried-clause-sent : goal.returns-in-Uncarried-clause-sent
returns-in-Uncarried-clause-sent c = uncarried_behind c.args.table.now c.args.treatment c.args.flow.now c.args.packet.now c.args.out.now.items c.in-Uncarried.is c.requires.carried

pub returns-in-Bypassed-clause-sent : goal.returns-in-Bypassed-clause-sent
returns-in-Bypassed-clause-sent c = bypassed_behind c.args.table.now c.args.treatment c.args.flow.now c.args.packet c.args.out.now.items c.in-Bypassed.is

pub returns-in-Discarded-clause-sent : goal.returns-in-Discarded-clause-sent
returns-in-Discarded-clause-sent c = discarded_behind c.args.table.now c.args.treatment c.args.flow.now c.args.packet.now c.args.out.now.items c.in-Discarded.is
