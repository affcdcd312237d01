pub mod NumberLemmas
pub mod HistoryLemmas
mod ContentsLemmas
mod OpeningLemmas
mod SealingLemmas
mod SealingLaws
mod LayingLemmas
pub mod FinishLemmas
mod AheadLemmas
mod CheckLemmas
mod PrecomputedLemmas
mod GroupLemmas
pub mod PacketLemmas
mod WorkedLemmas
pub mod Runs
