use Rattle.std.proofs.Common.{◌++◌, ap, ◌∙◌}
use Rattle.lanes.specs.Blocks.{four_words}
use Rattle.lanes.proofs.BlockLemmas.{pair_is}
use Rattle.lanes.proofs.blocks.pair.Goals as goal

pub returns : goal.returns
returns c = c.words.ensures ∙ ap (λ l. four_words l 0 ++ four_words l 16) c.joined.ensures ∙ pair_is c.args.low.now c.args.high.now c.args.at c.requires.low c.requires.high
