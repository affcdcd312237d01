use Rattle.std.proofs.Common.{◌≡◌, length}
use Rattle.std.specs.Prelude.{IsOk}
use Rattle.wire.specs.Reading.{chain_at}
use Rattle.wire.proofs.Links.{ChainSoFar}
use Rattle.wire.proofs.chain.read_chain.Given as goal

abbrev pub invariant-loop-next : goal.invariant-loop-next
invariant-loop-next l =
    (l.reader.end ≡ l.fn.reader.end)
    × IsOk (chain_at l.encrypted l.fn.reader.end (length l.fn.reader.rest.now) l.first l.fn.reader.rest.now)
    × (l.first ≡ 0 → l.next ≡ 0)
    × ChainSoFar l.encrypted l.fn.reader.end l.payloads l.next l.reader.rest.now (chain_at l.encrypted l.fn.reader.end (length l.fn.reader.rest.now) l.first l.fn.reader.rest.now)

abbrev pub decreases-loop-next : goal.decreases-loop-next
decreases-loop-next l = length l.reader.rest.now
