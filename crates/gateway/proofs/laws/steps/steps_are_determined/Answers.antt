use Rattle.std.proofs.Common.{refl}
use Rattle.gateway.proofs.DeterminedSteps.{one_run, one_step, one_trace, step_whole, IkeLaws, Laws}
use Rattle.gateway.proofs.laws.steps.steps_are_determined.Goals as goal

pub returns : goal.returns
returns g c =
    let machine : IkeLaws = record {
      steps = c.steps_are_determined.ensures.steps;
      steps_or_refusals = c.steps_are_determined.ensures.steps_or_refusals;
      refusals = c.steps_are_determined.ensures.refusals;
      whole = c.keys_stay_whole.ensures.stepped;
    } in
    let laws : Laws = record {
      ike = machine;
      packets = record {
        received = c.outcomes_are_determined.ensures.received;
        sent = c.outcomes_are_determined.ensures.sent;
        admitted = c.outcomes_are_determined.ensures.admitted;
        received_here = c.outcomes_go_by_content.ensures.received;
        sent_here = c.outcomes_go_by_content.ensures.sent;
      };
      prepared = c.later_tables_are_determined.ensures.prepared;
    } in
    record {
      traces = λ meaning given old other a b one two trace another. one_trace laws meaning given old other a b one two trace another;
      steps = λ meaning given old other a b one two. one_step laws meaning given old other a b one two;
      runs = λ meaning_of inputs ones twos old other a b. one_run laws meaning_of (meaning_of old.caller) inputs ones twos old other a b refl;
      whole = λ meaning given old new said. step_whole machine meaning given old said new;
    }
