use Rattle.std.proofs.Common.{ap, ◌∙◌}
use Rattle.traffic.specs.NextHeaders.{next_header_of}
use Rattle.traffic.proofs.BehindLemmas.{number_left, protects_sealed}
use Rattle.traffic.proofs.departure.lay_by.Goals as goal

pub returns-in-Ok-clause-sent : goal.returns-in-Ok-clause-sent
returns-in-Ok-clause-sent c =
    protects_sealed c.args.table.now c.args.flow.now c.args.packet.now c.args.out.now.items c.args.child c.next_header_of.result c.in-Ok.number c.lay.new.self c.lay.new.out.items
    c.requires.carrier (c.next_header_of.ensures ∙ ap next_header_of c.family.ensures) c.lay.ensures.behind c.in-Ok.ensures.sealed

pub returns-in-Err-Memory-clause-memory : goal.returns-in-Err-Memory-clause-memory
returns-in-Err-Memory-clause-memory c =
    let refused = c.in-Err-Memory.ensures.refused in
    (number_left c.args.table.now.pairs c.args.child c.args.packet.now c.in-Err-Memory.field-0 c.in-Err-Memory.field-0-is refused.0, refused.1, refused.2)
