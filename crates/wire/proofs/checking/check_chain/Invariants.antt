use Rattle.std.proofs.Common.{◌≡◌, List, length}
use Rattle.wire.specs.Reading.{chain_at}
use Rattle.wire.specs.declared.payload.Payload.{Payload}
use Rattle.wire.proofs.Links.{ChainSoFar}
use Rattle.wire.proofs.checking.check_chain.Given as goal

abbrev pub invariant-loop-next : goal.invariant-loop-next
invariant-loop-next l =
    (l.reader.end ≡ l.fn.reader.end)
    × (passed : List Payload)
    × ChainSoFar l.encrypted l.fn.reader.end passed l.next l.reader.rest.now (chain_at l.encrypted l.fn.reader.end (length l.fn.reader.rest.now) l.first l.fn.reader.rest.now)

abbrev pub decreases-loop-next : goal.decreases-loop-next
decreases-loop-next l = length l.reader.rest.now
