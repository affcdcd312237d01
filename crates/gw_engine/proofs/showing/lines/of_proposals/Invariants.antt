use Rattle.std.proofs.Common.{◌≡◌, string_bytes, take, flat_map}
use Rattle.gw_engine.specs.Showing.{proposal_text}
use Rattle.gw_engine.proofs.showing.lines.of_proposals.Given as goal

abbrev pub invariant-loop-proposal : goal.invariant-loop-proposal
invariant-loop-proposal l = string_bytes l.lines ≡ flat_map proposal_text (take l.proposal-index l.proposals)
