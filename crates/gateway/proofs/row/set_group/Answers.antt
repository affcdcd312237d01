use Rattle.std.proofs.Common.{length}
use Rattle.gateway.specs.Rows.{packet_in_row}
use Rattle.gateway.proofs.GroupLemmas.{asked_front, none_asked}
use Rattle.gateway.proofs.row.set_group.Goals as goal

pub returns : goal.returns
returns c =
    let packets = packet_in_row c.args.spans.now c.args.packets.now in
    record {
      right = λ before. c.precompute.ensures.right packets (asked_front packets c.set_questions.new.questions (length c.args.spans.now) (c.set_questions.ensures.questions (none_asked packets 64))) before;
    }
