use Rattle.std.proofs.Common.{◌≡◌, ◌+◌, drop}
use Rattle.exchange.specs.Deletions.{count_of_spis}
use Rattle.exchange.proofs.deletions.names_more_than.Given as goal

-- what is left of the limit, and what is still to be counted
abbrev pub invariant-loop-payload : goal.invariant-loop-payload
invariant-loop-payload l = count_of_spis (drop l.payload-index l.payloads) + l.limit ≡ count_of_spis l.payloads + l.left
