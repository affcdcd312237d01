use Rattle.std.proofs.Common.{sym}
use Rattle.deletions.proofs.LeftLemmas.{none_sends}
use Rattle.deletions.proofs.NamingLemmas.{deleting_here, live_here}
use Rattle.deletions.proofs.SenderLemmas.{deleted_none}
use Rattle.deletions.specs.Naming.{without}
use Rattle.deletions.proofs.naming.deleted_for.Goals as goal

pub returns-in_err-serial-clause-none : goal.returns-in_err-serial-clause-none
returns-in_err-serial-clause-none c = rw c.from_residual.ensures (deleted_none (without c.args.table.now.pairs c.args.gone.now) c.args.ike c.args.spi c.in_err-serial.ensures.none)

pub returns-in_err-pair-clause-none : goal.returns-in_err-pair-clause-none
returns-in_err-pair-clause-none c =
    absurd (none_sends c.args.table.now.pairs c.args.gone.now c.args.ike c.args.spi c.in_ok-serial.serial c.in_err-pair.ensures c.in_ok-serial.ensures.some.sends)

pub returns-in-Live-clause-some : goal.returns-in-Live-clause-some
returns-in-Live-clause-some c =
    let serial = c.in_ok-serial.serial in
    let pair = c.in_ok-pair.pair.now in
    live_here c.args.table.now.pairs c.args.gone.now c.args.ike c.args.spi serial pair c.in_ok-serial.ensures.some c.in_ok-pair.ensures
    (c.invariants_hold.ensures.serial serial pair (sym c.in_ok-pair.ensures)) c.in-Live.is

pub returns-in-Deleting-clause-none : goal.returns-in-Deleting-clause-none
returns-in-Deleting-clause-none c =
    deleting_here c.args.table.now.pairs c.args.gone.now c.args.ike c.args.spi c.in_ok-serial.serial c.in_ok-pair.pair.now c.in_ok-serial.ensures.some c.in_ok-pair.ensures c.in-Deleting.is
