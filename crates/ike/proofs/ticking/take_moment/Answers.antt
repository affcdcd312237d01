use Rattle.std.proofs.Common.{subst, sym}
use Rattle.moments.specs.Ticking.{HoldTheirSpis}
use Rattle.ike.specs.Machines.{Held}
use Rattle.ike.proofs.TickLemmas.{hold_theirs}
use Rattle.ike.proofs.ticking.take_moment.Goals as goal

pub tick-requires : goal.tick-requires
tick-requires c = subst (λ (h : Held). HoldTheirSpis h.associations c.args.table.now) (sym c.held.view_is) (hold_theirs c.args.held.now c.args.table.now c.requires)
