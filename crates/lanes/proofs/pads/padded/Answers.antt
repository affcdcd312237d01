use Rattle.std.proofs.Common.{bit_xor, rules}
use Rattle.std.proofs.lemmas.List.{take_all, drop_all}
use Rattle.std.proofs.lemmas.List.Edits.{map_over_more}
use Rattle.lanes.proofs.pads.padded.Goals as goal

pub loop-octet-preserved : goal.loop-octet-preserved
loop-octet-preserved c = search (rules, map_over_more (λ octet. bit_xor octet c.args.pad))

pub returns : goal.returns
returns c = search (rules, take_all, drop_all)
