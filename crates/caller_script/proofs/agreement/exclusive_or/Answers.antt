use Rattle.std.proofs.Common.{get_or, bit_xor, rules}
use Rattle.std.proofs.lemmas.List.FromFn.{fill_by_all}
use Rattle.caller_script.proofs.agreement.exclusive_or.Goals as goal

pub returns : goal.returns
returns c = fill_by_all (λ k. bit_xor (get_or c.args.a.now k 0) (get_or c.args.b.now k 0)) c.loop-k.both 32 0 c.loop-k.invariant.0 (search rules)
