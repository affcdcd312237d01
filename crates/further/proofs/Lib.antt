mod FittingLemmas
mod ReadingLemmas
mod PairLemmas
mod OfferLemmas
mod JudgementLemmas
mod DeterminedFurther
mod FewLemmas
mod RefusalLemmas
