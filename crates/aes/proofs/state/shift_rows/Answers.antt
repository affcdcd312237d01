use Rattle.std.proofs.Common.{◌+◌, ◌/◌, ◌%◌, rules}
use Rattle.std.proofs.lemmas.List.FromFn.{fill_by_all}
use Rattle.aes.specs.State.{cell, shift_rows}
use Rattle.aes.proofs.state.shift_rows.Goals as goal

pub returns : goal.returns
unfolding shift_rows
returns c = fill_by_all (λ k. cell c.args.state.now (k % 4) ((k / 4 + k % 4) % 4)) c.loop-k.shifted 16 0 c.loop-k.invariant.0 (search rules)
