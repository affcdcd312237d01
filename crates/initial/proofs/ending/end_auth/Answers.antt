use Rattle.association.specs.declared.phase.Association.{Association}
use Rattle.association.specs.Issuing.{with_outgoing}
use Rattle.initial.proofs.ConcludingLemmas.{can_end}
use Rattle.initial.proofs.ending.end_auth.Goals as goal

pub conclude-fate-requires : goal.conclude-fate-requires
conclude-fate-requires g c =
    let a : Association = c.args.association.now in
    record {
      ready = can_end (with_outgoing a c.count.new.self) c.args.table.now c.in-AuthSent.sent c.in_ok-judged.judged.verdict c.in-AuthSent.is
          (c.spis_stay_held.ensures.counting a c.args.table.now c.args.number c.count.result c.count.new.self c.count.ensures c.requires.reserved) c.in_ok-judged.ensures.fits;
    }
