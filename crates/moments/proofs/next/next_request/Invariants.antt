-- none of those gone through is due before the first time found
use Rattle.requests.specs.Outstanding.{requests_left}
use Rattle.moments.proofs.NextLemmas.{WalkedTo}
use Rattle.moments.proofs.next.next_request.Given as goal

abbrev pub invariant-loop-request : goal.invariant-loop-request
invariant-loop-request l = WalkedTo (requests_left l.request-iterator) l.first l.association
