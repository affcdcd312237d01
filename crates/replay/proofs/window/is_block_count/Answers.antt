use Rattle.std.proofs.Common.{refl, arith}
use Rattle.replay.proofs.BlockCountLemmas.{IsOneOfSeven, one_of_seven, block_count}
use Rattle.replay.proofs.window.is_block_count.Goals as goal

pub returns-in-2 : goal.returns-in-2
returns-in-2 c = (λ _. block_count _ c.in-2.is, λ _. refl)

pub returns-in_default : goal.returns-in_default
returns-in_default c = (λ is. absurd (cc is), λ count. let one : IsOneOfSeven c.args.m = one_of_seven _ count in grind arith)
