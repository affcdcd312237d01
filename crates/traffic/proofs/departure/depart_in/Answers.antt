use Rattle.traffic.proofs.RoomLemmas.{bypassed_in, carried_in, discarded_in, uncarried_in}
use Rattle.traffic.proofs.departure.depart_in.Goals as goal

pub returns-in-Carried : goal.returns-in-Carried
returns-in-Carried c =
    carried_in c.args.table.now c.args.treatment c.in-Carried.child c.args.flow.now c.args.packet.now c.args.room.now c.lay_in_by.result c.lay_in_by.new.table c.lay_in_by.new.room c.in-Carried.is c.lay_in_by.ensures

pub returns-in-Uncarried : goal.returns-in-Uncarried
returns-in-Uncarried c = uncarried_in c.args.table.now c.args.treatment c.args.flow.now c.args.packet.now c.args.room.now c.in-Uncarried.is c.requires.carried

pub returns-in-Bypassed : goal.returns-in-Bypassed
returns-in-Bypassed c = bypassed_in c.args.table.now c.args.treatment c.args.flow.now c.args.packet c.args.room.now c.in-Bypassed.is

pub returns-in-Discarded : goal.returns-in-Discarded
returns-in-Discarded c = discarded_in c.args.table.now c.args.treatment c.args.flow.now c.args.packet.now c.args.room.now c.in-Discarded.is
