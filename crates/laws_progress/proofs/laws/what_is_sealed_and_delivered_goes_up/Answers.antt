use Rattle.laws_progress.proofs.DeliveringLemmas.{above_goes_up, goes_up}
use Rattle.laws_progress.proofs.OrderLemmas.{in_order_goes_up, in_time_goes_up}
use Rattle.laws_progress.proofs.laws.what_is_sealed_and_delivered_goes_up.Goals as goal

pub returns : goal.returns
returns g c = record {
  exactly = λ meaning_of old new happenings trail place number packet octets pair h there was comes.
      goes_up c.what_one_end_seals_the_other_hands_up.ensures meaning_of happenings old new trail place number packet octets pair h there was comes;
  above = λ meaning_of old new happenings trail place number packet octets pair h there was comes lies recovered.
      above_goes_up c.what_one_end_seals_the_other_hands_up.ensures meaning_of happenings old new trail place number packet octets pair h there was comes lies recovered;
  in_time = λ meaning_of old new happenings trail place number packet octets pair h there was comes.
      in_time_goes_up c.every_run_keeps_its_promises.ensures c.each_end_has_its_events.ensures.history
      meaning_of old new happenings trail c.what_one_end_seals_the_other_hands_up.ensures place number packet octets pair h there was comes;
  in_order = λ meaning_of old new happenings trail place number packet octets pair h there was comes order.
      in_order_goes_up c.every_run_keeps_its_promises.ensures c.each_end_has_its_events.ensures.history
      meaning_of old new happenings trail c.what_one_end_seals_the_other_hands_up.ensures place number packet octets pair h there was comes order;
}
