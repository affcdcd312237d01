use Rattle.std.proofs.Common.{arith}
use Rattle.laws_recovery.proofs.CountingLemmas as counting
use Rattle.laws_recovery.proofs.laws.a_request_goes_out_six_times.Goals as goal

pub returns-clause-counted : goal.returns-clause-counted
returns-clause-counted g c = λ meaning_of old new passages serial number request asked trail waits first keyed through ends.
    let all = counting.counted c.what_is_due_comes_in_time.ensures.comes c.what_is_due_comes_in_time.ensures.unrefused c.what_is_due_comes_in_time.ensures.stays
    meaning_of serial number passages old new request asked trail waits keyed through ends in
    (all.0, (let repeats = all.1 in omega (arith, repeats, first)))

pub returns-clause-six : goal.returns-clause-six
returns-clause-six g c = λ meaning_of old new passages now serial number request asked trail timely waits first keyed through ends over.
    let all = counting.counted c.what_is_due_comes_in_time.ensures.comes c.what_is_due_comes_in_time.ensures.unrefused c.what_is_due_comes_in_time.ensures.stays
    meaning_of serial number passages old new request asked trail waits keyed through ends in
    counting.often_enough new.machine.moment now new.machine.held serial number asked _ timely ends over (let repeats = all.1 in omega (arith, repeats, first))
