pub mod Points
pub mod Ends
pub mod Decisions
pub mod Narrowing
pub mod Packets
pub mod Entries
pub mod Faults
