use Rattle.std.proofs.Common.{ap, ◌∙◌}
use Rattle.traffic.specs.NextHeaders.{next_header_of}
use Rattle.traffic.proofs.RoomLemmas.{protects_in}
use Rattle.traffic.proofs.departure.lay_in_by.Goals as goal

pub returns-in-Ok : goal.returns-in-Ok
returns-in-Ok c =
    protects_in c.args.table.now c.args.flow.now c.args.packet.now c.args.room.now c.args.child c.next_header_of-next.result c.in-Ok.number c.lay_in.new.self c.lay_in.new.room
    c.requires.carrier (c.next_header_of-next.ensures ∙ ap next_header_of c.family.ensures) c.in-Ok.ensures.sealed c.in-Ok.ensures.behind
