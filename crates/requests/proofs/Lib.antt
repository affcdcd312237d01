mod SetLemmas
pub mod EntryLemmas
pub mod OrderLemmas
mod CountLemmas
mod IncomingLemmas
mod OutgoingLemmas
mod FollowingLemmas
mod DeterminedNumbers
