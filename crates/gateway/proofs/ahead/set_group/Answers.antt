use Rattle.std.proofs.Common.{length, map}
use Rattle.gateway.specs.Groups.{packets_in}
use Rattle.gateway.specs.Inputs.{input_view}
use Rattle.gateway.proofs.GroupLemmas.{asked_front, none_asked}
use Rattle.gateway.proofs.ahead.set_group.Goals as goal

pub returns-clause-right : goal.returns-clause-right
returns-clause-right c = λ before.
    let packets = packets_in (map input_view c.args.inputs.now) in
    c.precompute.ensures.right packets (asked_front packets c.set_questions.new.questions (length c.args.inputs.now) (c.set_questions.ensures.questions (none_asked packets 64))) before
