pub mod Replays
pub mod Retransmissions
pub mod Recoveries
pub mod GivenUp
pub mod LostResponses
pub mod FurtherChildren
pub mod ExtendedRuns
