use Rattle.gateway.proofs.RowLemmas.{lays_sent, reserved_sent, senders_sent}
use Rattle.gateway.proofs.stepping.lay_packet_in.Goals as goal

pub returns-clause-sent : goal.returns-clause-sent
returns-clause-sent c = lays_sent c.args.policy.now c.args.table.now c.args.packet.now c.args.room.now c.lay_in.result c.lay_in.new.table c.lay_in.new.room c.lay_in.ensures.sent

pub returns-clause-reserved : goal.returns-clause-reserved
returns-clause-reserved c = reserved_sent c.args.policy.now c.args.table.now c.args.packet.now c.args.room.now c.lay_in.result c.lay_in.new.table c.lay_in.new.room c.lay_in.ensures.sent

pub returns-clause-senders : goal.returns-clause-senders
returns-clause-senders c =
    senders_sent c.senders_stay.ensures.sent c.args.policy.now c.args.table.now c.args.packet.now c.args.room.now c.lay_in.result c.lay_in.new.table c.lay_in.new.room c.lay_in.ensures.sent
