use Rattle.effects.specs.Taking.{meaning_of}
use Rattle.laws_progress.proofs.OrderLemmas.{own_packets}
use Rattle.laws_progress.proofs.StreamLemmas.{stream_goes_up}
use Rattle.laws_progress.proofs.laws.a_stream_in_order_goes_up_whole.Goals as goal

pub returns : goal.returns
returns g c = λ keys old new happenings trail sound unforged once sender receiver first second under ends nothing_else in_order place number packet arrival.
    stream_goes_up (meaning_of g.C.Sealer g.C.Agreement g.C.Proof) sender receiver happenings old new trail
    (own_packets c.every_run_keeps_its_promises.ensures c.each_end_has_its_events.ensures.history (meaning_of g.C.Sealer g.C.Agreement g.C.Proof) old new happenings trail receiver.end)
    (c.what_one_end_of_a_child_seals_goes_up_at_the_other.ensures.in_order keys old new happenings trail sound unforged once sender receiver first second under ends)
    nothing_else in_order place number packet arrival
