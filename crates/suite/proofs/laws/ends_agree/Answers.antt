use Rattle.std.proofs.Common.{sym}
use Rattle.suite.proofs.OfferLaws.{answer_accepted, answer_agreed, answer_taken, child_offer_acceptable, numbers_agreed}
use Rattle.suite.proofs.laws.ends_agree.Goals as goal

pub returns-clause-offers : goal.returns-clause-offers
returns-clause-offers c = λ ours theirs spi form. child_offer_acceptable ours theirs spi form

pub returns-clause-answers : goal.returns-clause-answers
returns-clause-answers c = λ ours theirs spi answer chosen form found. answer_agreed ours theirs spi answer chosen form found

pub returns-clause-numbers : goal.returns-clause-numbers
returns-clause-numbers c = λ ours theirs spi answer chosen found. numbers_agreed ours theirs spi answer chosen found

pub returns-clause-accepted : goal.returns-clause-accepted
returns-clause-accepted c = λ ours theirs spi answer chosen form found. answer_accepted ours theirs spi answer chosen form found

pub returns-clause-taken : goal.returns-clause-taken
returns-clause-taken c = λ wanted proposals chosen spi found. record {
  proposal = found.proposal;
  there = found.here;
  number = found.number;
  protocol = sym found.acceptable.protocol;
  transforms = answer_taken wanted proposals chosen spi found;
}
