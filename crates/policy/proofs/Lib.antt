mod Scanning
mod RangeLemmas
mod PointLemmas
mod EntryLemmas
mod NarrowLemmas
mod LawLemmas
