use Rattle.std.proofs.Common.{◌+◌, ◌/◌, ◌%◌, rules}
use Rattle.std.proofs.lemmas.List.FromFn.{fill_by_all}
use Rattle.aes.specs.State.{cell, row_times, mix_columns}
use Rattle.aes.proofs.columns.mix_columns.Goals as goal

pub returns : goal.returns
unfolding mix_columns
returns c = fill_by_all (λ k. row_times 0x02 0x03 0x01 0x01 (cell c.args.state.now (k % 4) (k / 4)) (cell c.args.state.now ((k % 4 + 1) % 4) (k / 4)) (cell c.args.state.now ((k % 4 + 2) % 4) (k / 4)) (cell c.args.state.now ((k % 4 + 3) % 4) (k / 4))) c.loop-k.mixed 16 0 c.loop-k.invariant.0 (search rules)
