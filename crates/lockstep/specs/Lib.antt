pub mod Ends
pub mod Histories
pub mod Soundness
pub mod Promises
pub mod Parties
pub mod Worked
