use Rattle.std.proofs.Common.{◌∙◌}
use Rattle.wire.proofs.Numbering.{lone_numbered, more_numbered, none_numbered}
use Rattle.wire.proofs.proposal.are_numbered.Goals as goal

pub returns-in-empty : goal.returns-in-empty
returns-in-empty c = none_numbered c.args.proposals.now c.in-empty.len_below

pub returns-in-len1 : goal.returns-in-len1
returns-in-len1 c = lone_numbered c.args.proposals.now c.lone-item.result c.in-len1.len_at_least c.in-len1.len_below c.lone-item.is

pub returns-in_default : goal.returns-in_default
returns-in_default c = c.count_from_one.ensures ∙ more_numbered c.args.proposals.now c.in_default.len_at_least
