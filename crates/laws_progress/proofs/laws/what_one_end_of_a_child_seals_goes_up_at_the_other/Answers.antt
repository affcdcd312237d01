use Rattle.effects.specs.Taking.{meaning_of}
use Rattle.laws_progress.specs.Delivering.{MayBeAccepted}
use Rattle.laws_progress.specs.InOrder.{ComesInOrder, ComesInTime}
use Rattle.laws_progress.proofs.ChildLemmas.{child_follows, child_goes_up}
use Rattle.laws_progress.proofs.laws.what_one_end_of_a_child_seals_goes_up_at_the_other.Goals as goal

pub returns : goal.returns
returns g c = record {
  exactly = λ keys old new happenings trail sound unforged once one other first second under ends sealing place number packet octets pair near far here there sealed comes.
      child_goes_up (meaning_of g.C.Sealer g.C.Agreement g.C.Proof) g.C.Sealer.body_of g.C.Sealer.plain_of keys happenings old new trail (c.both_ends_keep_their_promises.ensures happenings old new trail)
      sound unforged once one other first second under ends sealing place number packet octets pair near far here there sealed comes
      (MayBeAccepted pair.inbound.association.extended pair.inbound.window number)
      (c.what_is_sealed_and_delivered_goes_up.ensures.exactly (meaning_of g.C.Sealer g.C.Agreement g.C.Proof) old new happenings trail place number packet octets pair far there);
  in_time = λ keys old new happenings trail sound unforged once one other first second under ends sealing place number packet octets pair near far here there sealed comes.
      child_goes_up (meaning_of g.C.Sealer g.C.Agreement g.C.Proof) g.C.Sealer.body_of g.C.Sealer.plain_of keys happenings old new trail (c.both_ends_keep_their_promises.ensures happenings old new trail)
      sound unforged once one other first second under ends sealing place number packet octets pair near far here there sealed comes
      (ComesInTime far.event.end old happenings place pair number)
      (c.what_is_sealed_and_delivered_goes_up.ensures.in_time (meaning_of g.C.Sealer g.C.Agreement g.C.Proof) old new happenings trail place number packet octets pair far there);
  in_order = λ keys old new happenings trail sound unforged once one other first second under ends sealing place number packet octets pair near far here there sealed comes order.
      child_follows (meaning_of g.C.Sealer g.C.Agreement g.C.Proof) g.C.Sealer.body_of g.C.Sealer.plain_of keys happenings old new trail (c.both_ends_keep_their_promises.ensures happenings old new trail)
      sound unforged once one other first second under ends sealing place number packet octets pair near far here there sealed comes
      (ComesInOrder far.event.end old happenings place pair number)
      (c.what_is_sealed_and_delivered_goes_up.ensures.in_order (meaning_of g.C.Sealer g.C.Agreement g.C.Proof) old new happenings trail place number packet octets pair far there) order;
}
