use Rattle.std.proofs.Common.{rules, ℕ, length, sym, subst}
use Rattle.esp.specs.Laying.{Lays, finished_behind}
use Rattle.esp.specs.Sealing.{Seals}
use Rattle.esp.specs.Views.{Sending}
use Rattle.esp.proofs.FinishLemmas.{lays_seals}
use Rattle.esp.proofs.outbound.Outbound.lay.Goals as goal

pub returns-clause-sealed : goal.returns-clause-sealed
returns-clause-sealed c =
    let old = c.args.self.now in
    let payload = c.args.payload.now in
    let before = c.args.out.now.items in
    let after = c.append_without_check_value.new.out.items in
    let new : Sending = record { association = c.self.inside.association; last = c.in_ok-number.number } in
    let laid : Lays old c.args.next payload before new after = search rules in
    subst (λ (n : ℕ). Seals old c.args.next payload before n new (finished_behind (length before) old.association n after)) (sym c.in_ok-number.ensures.ready.number)
    (lays_seals old c.args.next payload before new after laid)
