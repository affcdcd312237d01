-- A memory that holds nothing is right.
use Rattle.tool_costs.proofs.spread.send.Goals as goal

pub turns-requires : goal.turns-requires
turns-requires c = c.answers_stay_right.ensures.none _ _ _ c.new-memory.ensures
