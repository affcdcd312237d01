use Rattle.effects.proofs.ProbeLemmas.{one_further, one_probe, requested_short}
use Rattle.effects.proofs.laws.determined.orders_are_short_and_determined.Goals as goal

pub returns-clause-kept : goal.returns-clause-kept
returns-clause-kept c = requested_short

pub returns-clause-determined : goal.returns-clause-determined
returns-clause-determined c =
    let own = c.later_outgoing_are_determined.ensures in
    one_probe (record {
      sealing = c.sealed_messages_are_determined.ensures;
      outgoing = record { prepared = own.prepared; issued = own.issued; counted = own.counted; replaced = own.replaced };
    })

pub returns-clause-further : goal.returns-clause-further
returns-clause-further c =
    let own = c.later_outgoing_are_determined.ensures in
    let tables = c.later_tables_are_determined.ensures in
    one_further
    (record {
      sealing = c.sealed_messages_are_determined.ensures;
      outgoing = record { prepared = own.prepared; issued = own.issued; counted = own.counted; replaced = own.replaced };
    })
    (record { prepared = tables.prepared; reserved = tables.reserved })
