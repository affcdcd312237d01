mod StepLemmas
mod AskingLemmas
mod AnsweringLemmas
mod ReadingLemmas
mod OpeningLemmas
mod WorkedLemmas
mod CookieLemmas
mod BringingLemmas
