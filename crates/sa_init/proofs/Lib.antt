mod FittingLemmas
mod PartLemmas
mod JudgementLemmas
mod AgreementLemmas
mod DeterminedAnswers
