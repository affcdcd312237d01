use Rattle.std.proofs.Common.{◌+◌, ◌*◌, ◌/◌, ◌%◌, bit_xor, slice_index, rules}
use Rattle.std.proofs.lemmas.List.FromFn.{fill_by_all}
use Rattle.aes.specs.State.{cell, add_round_key}
use Rattle.aes.proofs.state.add_round_key.Goals as goal

pub returns : goal.returns
unfolding add_round_key
returns c = fill_by_all (λ k. bit_xor (cell c.args.state.now (k % 4) (k / 4)) (slice_index c.args.schedule.now (4 * (4 * c.args.round + k / 4) + k % 4))) c.loop-k.added 16 0 c.loop-k.invariant.0 (search rules)
