use Rattle.std.proofs.Common.{rules, ◌≡◌, ℕ, [], length, take, sym, subst}
use Rattle.esp.specs.Laying.{finished, packet_size}
use Rattle.esp.specs.Sealing.{Seals}
use Rattle.esp.specs.Views.{Sending}
use Rattle.esp.proofs.FinishLemmas.{lays_seals}
use Rattle.esp.proofs.LayingLemmas.{laid_in, sending}
use Rattle.esp.proofs.outbound.Outbound.lay_in.Goals as goal

pub returns-clause-laid : goal.returns-clause-laid
returns-clause-laid c =
    let new : Sending = record { association = c.self.inside.association; last = c.in_ok-number.number } in
    let same : new ≡ sending c.args.self.now.association c.in_ok-number.number = search rules in
    laid_in c.args.self.now c.args.next c.args.payload.now c.args.room.now c.in_ok-number.number c.in_ok-number.pad new
    c.write_without_check_value.new.room c.in_ok-number.ensures.ready c.requires same (search rules)

pub returns-clause-sealed : goal.returns-clause-sealed
returns-clause-sealed c =
    let old = c.args.self.now in
    let payload = c.args.payload.now in
    let packet = take (packet_size (length payload)) c.write_without_check_value.new.room in
    let new : Sending = record { association = c.self.inside.association; last = c.in_ok-number.number } in
    subst (λ (n : ℕ). Seals old c.args.next payload [] n new (finished old.association n packet)) (sym c.in_ok-number.ensures.ready.number)
    (lays_seals old c.args.next payload [] new packet (returns-clause-laid c).lays)
