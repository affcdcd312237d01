use Rattle.ike.proofs.DeterminedLaws.{Laws}
use Rattle.ike.proofs.DeterminedRefusals.{one_refusal, step_or_refused}
use Rattle.ike.proofs.DeterminedSteps.{one_step}
use Rattle.ike.proofs.laws.steps.steps_are_determined.Goals as goal

pub returns : goal.returns
returns c =
    let laws : Laws = record {
      orders = record { probe = c.orders_are_short_and_determined.ensures.determined; further = c.orders_are_short_and_determined.ensures.further; ticks = c.ticks_are_determined.ensures };
      messages = record {
        message = c.octets_spell_one_message.ensures.message;
        fault = c.first_faults_are_determined.ensures.message;
        faultless = c.what_is_spelled_has_no_fault.ensures;
        spelling = c.plain_spellings_are_determined.ensures.message;
      };
      judgement = c.judgements_are_determined.ensures;
      associations = record {
        begun = c.beginnings_are_determined.ensures.begun;
        admitted = c.beginnings_are_determined.ensures.admitted;
        effect = c.effects_are_determined.ensures;
      };
      tables = record { prepared = c.later_tables_are_determined.ensures.prepared; reserved = c.later_tables_are_determined.ensures.reserved };
    } in
    record { steps = one_step laws; steps_or_refusals = step_or_refused laws; refusals = one_refusal laws }
