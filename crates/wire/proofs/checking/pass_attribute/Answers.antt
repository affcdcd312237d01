use Rattle.std.proofs.Common.{rules, ◌-◌, ◌^◌}
use Rattle.wire.specs.Reading.{attribute_at}
use Rattle.wire.specs.declared.proposal.Attribute.TheVariants.{Short, Long}
use Rattle.wire.proofs.checking.pass_attribute.Goals as goal

pub returns-in_ok-octets : goal.returns-in_ok-octets
unfolding attribute_at
returns-in_ok-octets c = (Long c.in_ok-kind.kind c.in_ok-octets.field-0.now, search rules)

pub returns-else-kind-lt-SHORT_FORM : goal.returns-else-kind-lt-SHORT_FORM
unfolding attribute_at
returns-else-kind-lt-SHORT_FORM c = (Short (c.in_ok-kind.kind - 2 ^ 15) c.in_ok-value.value, search rules)
