use Rattle.std.proofs.Common.{get_or, subst, sym, take, ℕ, List}
use Rattle.std.proofs.lemmas.List.{take_more}
use Rattle.deletions.specs.Removing.{RemovesNamed}
use Rattle.deletions.proofs.RemovingLemmas.{not_before, one_more_removed, still_there}
use Rattle.deletions.proofs.removing.remove_named.Goals as goal

pub remove-requires : goal.remove-requires
remove-requires c =
    let serials = c.args.serials.now in
    let i = c.loop-serial.serial-index in
    let short = c.loop-serial-test.true in
    still_there c.args.table.now c.loop-serial.table (take i serials) (get_or serials i 0) c.loop-serial.invariant (c.requires.there i 0 short) (not_before serials i c.requires.distinct short)

pub loop-serial-preserved : goal.loop-serial-preserved
loop-serial-preserved c =
    let old = c.args.table.now in
    let new = c.remove.new.self in
    let serials = c.args.serials.now in
    let i = c.loop-serial.serial-index in
    subst (λ (named : List ℕ). RemovesNamed old named new) (sym (take_more serials i 0 c.loop-serial-test.true))
    (one_more_removed old c.loop-serial.table new (take i serials) (get_or serials i 0) c.loop-serial.invariant c.remove.ensures)
