pub mod Answers
pub mod Fitting
pub mod Names
pub mod Proofs
pub mod Requests
pub mod Windows
