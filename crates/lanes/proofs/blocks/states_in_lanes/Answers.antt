use Rattle.std.proofs.Common.{sym}
use Rattle.lanes.proofs.LaneLemmas.{apart}
use Rattle.lanes.proofs.blocks.states_in_lanes.Goals as goal

pub returns : goal.returns
returns c = λ j fits long. rw (c.column.ensures j fits, c.column-2.ensures j fits, c.column-3.ensures j fits, c.column-4.ensures j fits, c.column-5.ensures j fits, c.column-6.ensures j fits, c.column-7.ensures j fits, c.column-8.ensures j fits) (sym (apart _ long))
