-- those up to the last Message ID are as they are after the tick
use Rattle.moments.proofs.DueLemmas.{numbers_left, SendsUpTo}
use Rattle.moments.proofs.due.send_again.Given as goal

abbrev pub invariant-loop-next : goal.invariant-loop-next
invariant-loop-next l = SendsUpTo l.number l.now l.initial.association l.association

abbrev pub decreases-loop-next : goal.decreases-loop-next
decreases-loop-next l = numbers_left l.number
