mod ChildLemmas
mod ConcludingLemmas
mod ReadingLemmas
