use Rattle.std.proofs.Common.{rules, ◌≢◌, sym, subst}
use Rattle.gw_engine.specs.Ends.{EndsWith}
use Rattle.gw_engine.specs.declared.stop.Stop.TheVariants as stop
use Rattle.gw_engine.proofs.EndingLemmas.{either_way}
use Rattle.gw_engine.proofs.stop.end.Goals as goal

pub returns-then-ne-clause-ends : goal.returns-then-ne-clause-ends
returns-then-ne-clause-ends g c =
    let old = g.W.Write.contents c.args.writer.now in
    let new = g.W.Write.contents c.write_reason.new.writer in
    let other : c.in-Err.stop ≢ stop.Output = search rules in
    subst (λ r. EndsWith r old new) (sym c.in-Err.is) (either_way c.in-Err.stop old new c.write_reason.result other c.write_reason.ensures.whole c.write_reason.ensures.beginning)
