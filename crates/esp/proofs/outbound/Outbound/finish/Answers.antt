use Rattle.std.proofs.Common.{rules}
use Rattle.esp.proofs.FinishLemmas.{finished_short, value_put}
use Rattle.esp.proofs.outbound.Outbound.finish.Goals as goal

pub returns-in_default : goal.returns-in_default
returns-in_default c = finished_short c.args.self.now.association c.args.number c.args.packet.now (search rules)

pub returns : goal.returns
returns c = value_put c.args.self.now.association c.args.number c.in-Some.covered c.args.packet.now c.copy_from_slice.new.self (search rules) (search rules) (search rules)
