use Rattle.std.proofs.Common.{get_or, bit_xor, rules}
use Rattle.std.proofs.lemmas.List.FromFn.{fill_by_all}
use Rattle.caller_peer.specs.Chaining.{both}
use Rattle.caller_peer.proofs.chaining.both.Goals as goal

pub returns : goal.returns
unfolding both
returns c = fill_by_all (λ k. bit_xor (get_or c.args.one.now k 0) (get_or c.args.other.now k 0)) c.loop-k.sum 16 0 c.loop-k.invariant.0 (search rules)
