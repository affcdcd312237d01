use Rattle.std.proofs.Common.{sym, subst}
use Rattle.gateway.specs.Outputs.{output_view}
use Rattle.gateway.specs.Steps.{SendsPacket}
use Rattle.gateway.specs.declared.output.Output.{Output}
use Rattle.gateway.proofs.stepping.send_packet.Goals as goal

pub returns-clause-sent : goal.returns-clause-sent
returns-clause-sent c =
    subst (λ (o : Output). SendsPacket c.args.policy.now c.args.table.now c.args.packet.now (output_view o) c.lay_packet-laid.new.table) (sym c.finished.ensures) c.lay_packet-laid.ensures.sent
