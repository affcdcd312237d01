use Rattle.suite.proofs.OfferLaws.{offer_acceptable, answer_is, numbers_kept}
use Rattle.suite.proofs.laws.offers_are_answered.Goals as goal

pub returns-clause-offers : goal.returns-clause-offers
returns-clause-offers c = λ wanted spi form. offer_acceptable wanted spi form

pub returns-clause-answers : goal.returns-clause-answers
returns-clause-answers c = λ wanted proposals chosen spi form found one. answer_is wanted proposals chosen spi form found one

pub returns-clause-numbers : goal.returns-clause-numbers
returns-clause-numbers c = λ wanted proposals chosen spi found. numbers_kept wanted proposals chosen spi found
