use Rattle.std.proofs.Common.{◌+◌, ◌/◌, ◌%◌, rules}
use Rattle.std.proofs.lemmas.List.FromFn.{fill_by_all}
use Rattle.aes.specs.State.{cell, row_times, inv_mix_columns}
use Rattle.aes.proofs.columns.inverse_mix_columns.Goals as goal

pub returns : goal.returns
unfolding inv_mix_columns
returns c = fill_by_all (λ k. row_times 0x0e 0x0b 0x0d 0x09 (cell c.args.state.now (k % 4) (k / 4)) (cell c.args.state.now ((k % 4 + 1) % 4) (k / 4)) (cell c.args.state.now ((k % 4 + 2) % 4) (k / 4)) (cell c.args.state.now ((k % 4 + 3) % 4) (k / 4))) c.loop-k.mixed 16 0 c.loop-k.invariant.0 (search rules)
