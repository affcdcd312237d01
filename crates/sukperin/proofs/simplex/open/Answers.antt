use Rattle.std.proofs.Common.{rules}
use Rattle.sukperin.proofs.AssociationLemmas.{opens_at}
use Rattle.sukperin.proofs.simplex.open.Goals as goal

-- src/simplex.rt:237:1
pub returns-in-Ok-clause-opened : goal.returns-in-Ok-clause-opened
returns-in-Ok-clause-opened c =
    let up = c.in-Ok.ensures.up in
    opens_at c.args.receiver.now c.open.new.self c.args.packet.now c.in-Ok.opened.payload.now c.in-Ok.opened.number c.in-Ok.opened.next c.from.result (search rules) up
