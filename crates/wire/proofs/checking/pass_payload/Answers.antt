use Rattle.std.proofs.Common.{rules}
use Rattle.wire.specs.Reading.{payload_at}
use Rattle.wire.specs.declared.payload.Payload.TheVariants.{Sealed}
use Rattle.wire.proofs.checking.pass_payload.Goals as goal

pub returns-in-Sealed-clause-passed : goal.returns-in-Sealed-clause-passed
unfolding payload_at
returns-in-Sealed-clause-passed c = (Sealed c.in-Ok.part.first c.in-Ok.part.inside.rest.now, search rules)

pub returns-in-Ok-check_body : goal.returns-in-Ok-check_body
unfolding payload_at
returns-in-Ok-check_body c =
    let body = c.in-Ok-check_body.ensures c.args.kind in record { passed = (body.0, search (rules, body.1)); end = c.part.ensures.end }
