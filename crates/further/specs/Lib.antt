pub mod Payloads
pub mod Judging
pub mod Deciding
pub mod Answering
pub mod Concluding
pub mod Pairs
