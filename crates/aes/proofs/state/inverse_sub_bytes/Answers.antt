use Rattle.std.proofs.Common.{◌/◌, ◌%◌, rules}
use Rattle.std.proofs.lemmas.List.FromFn.{fill_by_all}
use Rattle.aes.specs.Substitution.{inv_sub_byte}
use Rattle.aes.specs.State.{cell, inv_sub_bytes}
use Rattle.aes.proofs.state.inverse_sub_bytes.Goals as goal

pub returns : goal.returns
unfolding inv_sub_bytes
returns c = fill_by_all (λ k. inv_sub_byte (cell c.args.state.now (k % 4) (k / 4))) c.loop-k.substituted 16 0 c.loop-k.invariant.0 (search rules)
