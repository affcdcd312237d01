mod ChoiceLemmas
mod DeterminedChoices
mod KeyLemmas
mod OfferLaws
mod OfferLemmas
