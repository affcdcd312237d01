use Rattle.std.proofs.Common.{length}
use Rattle.gateway.specs.Laying.{laid_at}
use Rattle.gateway.proofs.GroupLemmas.{asked_front, none_asked}
use Rattle.gateway.proofs.laying.set_few.Goals as goal

pub returns : goal.returns
returns c =
    let packets = laid_at c.args.laid.now in
    record {
      right = λ before. c.precompute.ensures.right packets (asked_front packets c.set_questions.new.questions (length c.args.laid.now) (c.set_questions.ensures.questions (none_asked packets 8))) before;
    }
