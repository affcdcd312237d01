use Rattle.std.proofs.Common.{refl, rules}
use Rattle.wire.specs.Reading.{proposal_of}
use Rattle.wire.proofs.checking.check_proposal.Goals as goal

pub returns-then-branch-from : goal.returns-then-branch-from
unfolding proposal_of
returns-then-branch-from c = (
  record { number = c.in_ok-number.number; protocol = c.in_ok-u8.field-0; spi = c.in_ok-octets.field-0.now; transforms = c.in_ok-count_transforms.ensures.0 },
  search rules,
  refl,
)
