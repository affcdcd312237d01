use Rattle.std.proofs.Common.{arith, ◌≤◌}
use Rattle.replay.proofs.BlockCountLemmas.{at_least_two}
use Rattle.replay.proofs.PlainLemmas.{sound_start, none_twice}
use Rattle.replay.proofs.plain.PlainWindow.new.Goals as goal

pub invariant_of-result : goal.invariant_of-result
invariant_of-result c = record {
  sound = rw c.new.ensures.items (sound_start _ (let two : 2 ≤ c.args.blocks = at_least_two _ c.requires in omega arith));
  each_once = rw c.new.ensures.items none_twice;
}
